use Rattle.std.proofs.Common.{ℕ, List, sym, ap, ◌∙◌, subst}
use Rattle.elements.specs.Order.{greater}
use Rattle.values.specs.Value.{Ordered}
use Rattle.values.specs.Windows.{element_at}
use Rattle.values.proofs.Orders.{ordered}
use Rattle.values.proofs.Walks.{Walked, walk_first, walk_more, walk_all, walk_under}
use Rattle.values.proofs.windows.evaluation.raised.Goals as goal

pub loop-cell-init : goal.loop-cell-init
loop-cell-init g c = λ d.
    let o : Ordered g.E.Order.most = ordered g.E.Order.most g.met.E.Order.reflexive g.met.E.Order.total g.met.E.Order.antisymmetric g.met.E.Order.transitive in
    rw c.into_iter-cell-iterator.ensures.into_iter_gives
    (walk_first g.E.Order.most o (element_at c.args.window.now d) c.args.term c.in-Some.first c.next.new.self c.get-low.result (sym c.cells-cells.ensures.value ∙ c.in-Some.ensures.steps) (c.get-low.ensures d))

pub loop-cell-preserved : goal.loop-cell-preserved
loop-cell-preserved g c = λ d.
    let o : Ordered g.E.Order.most = ordered g.E.Order.most g.met.E.Order.reflexive g.met.E.Order.total g.met.E.Order.antisymmetric g.met.E.Order.transitive in
    walk_more g.E.Order.most o (element_at c.args.window.now d) c.args.term c.in-Some-cell.cell c.next-in-loop-cell.new.self c.loop-cell.cell-iterator
    c.loop-cell.low c.get.result c.least-low.result (c.loop-cell.invariant d) c.in-Some-cell.ensures.steps (c.get.ensures d) c.least-low.ensures.value

pub unreachable-requires : goal.unreachable-requires
unreachable-requires g c = c.cells-cells.ensures.some (sym c.cells-cells.ensures.value ∙ c.in_default.ensures.steps.0)

pub returns-then-at_most : goal.returns-then-at_most
returns-then-at_most g c = λ d.
    let o : Ordered g.E.Order.most = ordered g.E.Order.most g.met.E.Order.reflexive g.met.E.Order.total g.met.E.Order.antisymmetric g.met.E.Order.transitive in
    walk_under g.E.Order.most o (element_at c.args.window.now d) c.args.term c.cells-cells.ensures.some c.loop-cell.cell-iterator c.loop-cell.low c.args.high (c.loop-cell.invariant d)
    (sym c.at_most.ensures ∙ c.if-at_most.true)

pub returns : goal.returns
returns g c = λ d.
    let o : Ordered g.E.Order.most = ordered g.E.Order.most g.met.E.Order.reflexive g.met.E.Order.total g.met.E.Order.antisymmetric g.met.E.Order.transitive in
    let x = element_at c.args.window.now d in
    let t : ℕ = c.args.term in
    let e = walk_all g.E.Order.most o x t c.cells-cells.ensures.some c.loop-cell.low
    (subst (λ (cs : List ℕ). Walked g.E.Order.most x t cs c.loop-cell.low) c.in-None.ensures.steps.0 (c.loop-cell.invariant d)) in
    c.greatest.ensures.value ∙ ap (greater g.E.Order.most c.args.high) e
