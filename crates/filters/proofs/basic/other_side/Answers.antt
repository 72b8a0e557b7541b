use Rattle.std.proofs.Common.{arith}
use Rattle.filters.proofs.Spans.{opposite_is}
use Rattle.filters.proofs.basic.other_side.Goals as goal

pub returns : goal.returns
returns c = omega (arith, c.in-Some.ensures, c.number.ensures.value, opposite_is c.args.cell (omega (arith, c.number.ensures.value, c.number.ensures.bound)))
