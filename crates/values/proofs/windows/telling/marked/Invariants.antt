use Rattle.values.specs.Windows.{element_at, Filled}
use Rattle.values.proofs.Marks.{Marking}
use Rattle.values.proofs.windows.telling.marked.Given as goal

-- whatever filled the window as the loop began
abbrev pub invariant-loop-cell : goal.invariant-loop-cell
invariant-loop-cell g l = (low d : _) → Filled l.initial.window low → Marking (element_at l.window d) low l.high l.fn.term l.cell-iterator
