use Rattle.std.proofs.Common.{◌≡◌, drop}
use Rattle.forms.specs.Entering.{covers}
use Rattle.forms.proofs.form.Form.covers.Given as goal

-- the terms that were passed are not inside the set
abbrev pub invariant-loop-term : goal.invariant-loop-term
invariant-loop-term l = covers l.term-items l.fn.set ≡ covers (drop l.term-index l.term-items) l.fn.set
