use Rattle.std.proofs.Common.{refl}
use Rattle.forms.proofs.Bits.{has_or, or_some, or_small}
use Rattle.forms.proofs.sets.Term.union.Goals as goal

pub invariant_of-result : goal.invariant_of-result
invariant_of-result c =
    (or_some c.self.inside.bits c.other.inside.bits c.self.invariant.0, or_small c.self.inside.bits c.other.inside.bits c.self.invariant.1 c.other.invariant.1)

pub returns : goal.returns
returns c = rw (c.self.view_is, c.other.view_is) record { value = refl; cells = λ k. has_or c.args.self c.args.other k }
