use Rattle.std.proofs.Common.{◌-◌, ◌*◌, ◌<◌, pos}
use Rattle.sources.specs.Meaning.{RowHolds}
use Rattle.extremes.specs.Leads.{Leads}
use Rattle.extremes.specs.First.{turned}
use Rattle.extremes.specs.Leads.{element_in_order}
use Rattle.extremes.proofs.find_extremes.Given as goal

abbrev pub invariant-loop-row : goal.invariant-loop-row
invariant-loop-row g l =
    (0 < l.row → RowHolds (g.S.Source.meaning l.source) (pos (l.row - 1)) (pos 0) l.width l.scratch)
    × Leads g.S.Element.Order.most (element_in_order (g.S.Source.meaning l.source)) (l.row * l.width) l.leaders.low
    × Leads (turned g.S.Element.Order.most) (element_in_order (g.S.Source.meaning l.source)) (l.row * l.width) l.leaders.high
