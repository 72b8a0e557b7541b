use Rattle.values.specs.Windows.{element_at}
use Rattle.values.proofs.Walks.{Walked}
use Rattle.values.proofs.windows.evaluation.lowest.Given as goal

abbrev pub invariant-loop-cell : goal.invariant-loop-cell
invariant-loop-cell g l = (d : _) → Walked g.E.Order.most (element_at l.window d) l.fn.term l.cell-iterator l.low
