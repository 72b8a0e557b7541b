-- Samples by their place in an image.
use Rattle.std.proofs.Common.{◌≡◌, ℕ, ◌+◌, ◌*◌, List, ℤ}
use Rattle.sources.specs.Edges.{nearest}
use Rattle.images.specs.declared.header.Header.{Header}
use Rattle.images.specs.Samples.{wide, pixel, sample_at}

-- what is shown beside a row is the same for equal headers, rasters, rows and columns
pub shown_same : {h i : Header} {bs cs : List ℕ} {r s : ℕ} {y z : ℤ} → h ≡ i → bs ≡ cs → r ≡ s → y ≡ z
    → pixel (sample_at (wide h) bs (r * h.width + nearest h.width y)) ≡ pixel (sample_at (wide i) cs (s * i.width + nearest i.width z))
shown_same e f g k = rw (e, f, g, k)
