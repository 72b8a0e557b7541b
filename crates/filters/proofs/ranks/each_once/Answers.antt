use Rattle.std.proofs.Common.{ℕ, List, ◌++◌, sym, ap, ◌∙◌}
use Rattle.filters.specs.Basic.{Weighed, once}
use Rattle.filters.specs.Weights.{listed}
use Rattle.filters.proofs.Weighing.{once_more}
use Rattle.filters.proofs.ranks.each_once.Goals as goal

pub loop-cell-init : goal.loop-cell-init
loop-cell-init c =
    ap (λ (xs : List Weighed). xs ++ once c.into_iter-cell-iterator.result) c.none-weights.ensures
    ∙ ap once (c.into_iter-cell-iterator.ensures.into_iter_gives ∙ c.cells-cell-items.ensures)

pub loop-cell-preserved : goal.loop-cell-preserved
loop-cell-preserved c =
    once_more c.args.size.height c.args.size.width c.args.size.sides c.requires (listed c.loop-cell.weights) c.in-Some.cell c.next.new.self
    (ap (λ (cs : List ℕ). listed c.loop-cell.weights ++ once cs) (sym c.in-Some.ensures.steps) ∙ c.loop-cell.invariant)
    c.add.result (listed c.add.new.self) c.add.ensures
