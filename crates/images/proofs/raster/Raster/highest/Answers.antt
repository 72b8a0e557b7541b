use Rattle.images.specs.Samples.{wide}
use Rattle.images.proofs.Checks.{highest_more}
use Rattle.images.proofs.raster.Raster.highest.Goals as goal

pub loop-k-preserved : goal.loop-k-preserved
loop-k-preserved c = highest_more (wide c.args.self.header) c.args.self.bytes.now c.loop-k.k c.loop-k.top c.sample.result c.max-top.result c.loop-k.invariant c.sample.ensures c.max-top.ensures
