use Rattle.std.proofs.Common.{◌≡◌, ◌∷◌, drop}
use Rattle.forms.specs.Parts.{terms_of}
use Rattle.joins.specs.Joins.{max_at, any_at}
use Rattle.joins.proofs.composition.at_terms.Given as goal

abbrev pub invariant-loop-term : goal.invariant-loop-term
invariant-loop-term l = max_at (terms_of l.f) (drop l.term-index l.others) (terms_of l.joined) ≡ any_at (terms_of l.f) (l.fn.first ∷ l.others)
