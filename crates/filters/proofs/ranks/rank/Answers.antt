use Rattle.filters.specs.Weights.{listed}
use Rattle.filters.proofs.Reached.{ranked}
use Rattle.std.proofs.Common.{arith}
use Rattle.filters.proofs.ranks.rank.Goals as goal

pub returns-clause-exact : goal.returns-clause-exact
returns-clause-exact c =
    rw (← c.from-2.ensures)
    (ranked c.weighted.result c.args.size.height c.args.size.width c.from-2.result (listed c.each_once.result) c.each_once.ensures (omega arith) c.weighted.ensures.exact)
