use Rattle.std.proofs.Common.{sym, arith}
use Rattle.std.proofs.lemmas.Option.{slice_get_within}
use Rattle.filters.specs.Boxes.{box}
use Rattle.filters.proofs.Spans.{few_cells}
use Rattle.filters.proofs.Truths.{box_length}
use Rattle.filters.proofs.boxes.cells.BoxCellsIterator.next.Goals as goal

pub overflow_add-self : goal.overflow_add-self
overflow_add-self c =
    let s = c.self.inside.size in
    omega (arith, slice_get_within (box s.height s.width) c.self.inside.index c.in_ok-cell.cell (sym c.in_ok-cell.ensures), box_length s.height s.width, few_cells s.height s.width s.sides)
