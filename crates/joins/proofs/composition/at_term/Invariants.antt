use Rattle.std.proofs.Common.{◌≡◌, true}
use Rattle.forms.specs.Sets.{cells, every, movable}
use Rattle.forms.specs.Terms.{used}
use Rattle.forms.specs.Parts.{terms_of}
use Rattle.joins.specs.Joins.{min_at, all_at}
use Rattle.joins.proofs.composition.at_term.Given as goal

-- with the cells that are left, the form comes to what it has to be
abbrev pub invariant-loop-cell : goal.invariant-loop-cell
invariant-loop-cell l =
    (min_at (terms_of l.f) l.cell-iterator (terms_of l.joined) ≡ all_at (terms_of l.f) (cells l.fn.term))
    × (every (λ c. movable c (used (terms_of l.f))) l.cell-iterator ≡ true)
