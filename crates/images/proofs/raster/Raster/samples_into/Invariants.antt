use Rattle.std.proofs.Common.{◌≡◌, ℕ, ◌+◌, ◌<◌, get_or}
use Rattle.elements.specs.declared.pixel.Pixel.{Pixel}
use Rattle.images.specs.Samples.{wide, pixel, sample_at}
use Rattle.images.proofs.raster.Raster.samples_into.Given as goal

abbrev pub invariant-loop-i : goal.invariant-loop-i
invariant-loop-i l =
    (k : ℕ) (d : Pixel) → k < l.i → get_or l.out k d ≡ pixel (sample_at (wide l.self.header) l.self.bytes.now (l.at + k))
