use Rattle.std.proofs.Common.{refl, arith}
use Rattle.std.proofs.lemmas.Int.{ints}
use Rattle.sources.proofs.extent.within.Goals as goal

pub returns : goal.returns
returns c = (λ _. (omega (arith, ints), omega (arith, ints)), λ _. refl)
