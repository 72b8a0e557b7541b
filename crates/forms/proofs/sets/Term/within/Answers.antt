use Rattle.std.proofs.lemmas.Bool.{eqb-true, eq-eqb}
use lib.Bits.{bit_and}
use Rattle.forms.proofs.Bits.{bridge}
use Rattle.forms.proofs.sets.Term.within.Goals as goal

pub returns : goal.returns
returns c =
    let a = c.self.inside.bits in
    let b = c.set.inside.bits in
    let w = bridge a b c.self.invariant.1 in
    rw (← c.self.view_is, ← c.set.view_is) record {
      value = (eqb-true (bit_and a b) a, eq-eqb (bit_and a b) a);
      cells = ((λ e. w.0 (eqb-true (bit_and a b) a e)), λ h. eq-eqb (bit_and a b) a (w.1 h));
    }
