use Rattle.forms.proofs.Listed.{cells_some}
use Rattle.forms.proofs.sets.Term.first_cell.Goals as goal

pub unreachable-requires : goal.unreachable-requires
unreachable-requires c = cells_some c.from.result c.from.ensures.1 c.from.ensures.2 c.in_default.ensures.cells
