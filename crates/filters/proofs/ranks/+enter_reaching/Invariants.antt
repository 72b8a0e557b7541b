use Rattle.std.proofs.Common.{length}
use Rattle.filters.proofs.ranks.+enter_reaching.Given as goal

abbrev pub decreases-enter_reaching : goal.decreases-enter_reaching
decreases-enter_reaching l = length l.weights.now
