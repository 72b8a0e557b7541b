use Rattle.std.proofs.Common.{ℕ, List, subst}
use Rattle.forms.specs.Terms.{In}
use Rattle.values.specs.Windows.{element_at}
use Rattle.values.proofs.Marks.{marking_none, marking_more}
use Rattle.values.proofs.windows.telling.marked.Goals as goal

pub loop-cell-init : goal.loop-cell-init
loop-cell-init g c = λ low d h.
    rw (c.into_iter-cell-iterator.ensures.into_iter_gives, c.cells-cell-items.ensures.value) (marking_none low c.args.high c.args.term (element_at c.filled-window.result d) (h d))

pub loop-cell-preserved : goal.loop-cell-preserved
loop-cell-preserved g c = λ low d h.
    marking_more low c.args.high c.args.term (element_at c.loop-cell.window d) (element_at c.set.new.self d) c.in-Some.cell c.next.new.self c.loop-cell.cell-iterator
    c.in-Some.ensures.steps (c.set.ensures d) (c.loop-cell.invariant low d h)

pub returns : goal.returns
returns g c = λ d k l. (c.loop-cell.invariant c.args.low d c.filled-window.ensures).done k l (λ m. subst (λ (cs : List ℕ). In k cs) c.in-None.ensures.steps.0 m)
