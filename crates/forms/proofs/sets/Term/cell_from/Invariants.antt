use Rattle.std.proofs.Common.{◌≡◌}
use Rattle.forms.specs.Sets.{cells_from}
use Rattle.forms.proofs.sets.Term.cell_from.Given as goal

-- the cells that were passed are not in the term
abbrev pub invariant-loop-number : goal.invariant-loop-number
invariant-loop-number l = cells_from l.from l.self ≡ cells_from l.number l.self
