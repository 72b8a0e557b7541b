use Rattle.std.proofs.Common.{◌≡◌}
use Rattle.images.specs.Samples.{wide}
use Rattle.images.specs.Reading.{highest}
use Rattle.images.proofs.raster.Raster.highest.Given as goal

abbrev pub invariant-loop-k : goal.invariant-loop-k
invariant-loop-k l = l.top ≡ highest (wide l.self.header) l.self.bytes.now l.k
