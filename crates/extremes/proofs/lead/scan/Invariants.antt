use Rattle.extremes.specs.Leads.{Scans}
use Rattle.extremes.specs.First.{turned}
use Rattle.extremes.proofs.lead.scan.Given as goal

abbrev pub invariant-loop-column : goal.invariant-loop-column
invariant-loop-column g l =
    Scans g.E.Order.most l.row l.start l.column l.initial.low l.low
    × Scans (turned g.E.Order.most) l.row l.start l.column l.initial.high l.high
