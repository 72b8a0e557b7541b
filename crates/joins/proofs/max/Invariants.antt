use Rattle.forms.specs.Parts.{terms_of}
use Rattle.joins.specs.Joins.{max_of}
use Rattle.joins.proofs.Turns.{Entering}
use Rattle.joins.proofs.max.Given as goal

abbrev pub invariant-loop-term : goal.invariant-loop-term
invariant-loop-term l = Entering (max_of (terms_of l.f) (terms_of l.g)) l.term-items l.term-index (terms_of l.joined)
