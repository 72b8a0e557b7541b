use Rattle.forms.specs.Parts.{terms_of}
use Rattle.joins.specs.Joins.{min_of}
use Rattle.joins.proofs.Turns.{Uniting}
use Rattle.joins.proofs.min.Given as goal

abbrev pub invariant-loop-term : goal.invariant-loop-term
invariant-loop-term l = Uniting (min_of (terms_of l.f) (terms_of l.g)) l.term-items (terms_of l.g) l.term-index (terms_of l.joined)
