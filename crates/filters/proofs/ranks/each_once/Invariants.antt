use Rattle.std.proofs.Common.{◌≡◌, ◌++◌}
use Rattle.filters.specs.Boxes.{box}
use Rattle.filters.specs.Basic.{once}
use Rattle.filters.specs.Weights.{listed}
use Rattle.filters.proofs.ranks.each_once.Given as goal

-- the weights with the cells that are left are those of the box
abbrev pub invariant-loop-cell : goal.invariant-loop-cell
invariant-loop-cell l = listed l.weights ++ once l.cell-iterator ≡ once (box l.fn.size.height l.fn.size.width)
