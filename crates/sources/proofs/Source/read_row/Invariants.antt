use Rattle.sources.specs.Meaning.{RowHolds}
use Rattle.sources.proofs.Source.read_row.Given as goal

abbrev pub invariant-loop-i : goal.invariant-loop-i
invariant-loop-i g l = RowHolds (g.Self.Source.meaning l.self) l.row l.first l.i l.out
