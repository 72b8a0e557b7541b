use Rattle.std.proofs.Common.{List, length}
use Rattle.filters.specs.Basic.{Weighed}
use Rattle.expressions.specs.Outcomes.{Lists}
use Rattle.expressions.proofs.WeightSteps.{Between}
use Rattle.expressions.proofs.weighing.weights.Given as goal

abbrev pub invariant-loop-cell : goal.invariant-loop-cell
invariant-loop-cell l = (xs : List Weighed) × Lists l.all xs × Between l.initial.reader l.reader xs

abbrev pub decreases-loop-cell : goal.decreases-loop-cell
decreases-loop-cell l = length l.reader
