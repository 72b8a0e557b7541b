-- The samples of a raster, and what an image shows.
use Rattle.std.specs.Prelude.{ℕ, ◌+◌, ◌*◌, Bool, true, false, List, nat_le, slice_index}
use Rattle.elements.specs.declared.pixel.Pixel.{Pixel}
use Rattle.sources.specs.Meaning.{Meaning}
use Rattle.sources.specs.Edges.{repeated}
use Rattle.images.specs.declared.header.Header.{Header}

-- a maximum of 256 and more takes two bytes a sample
abbrev pub wide : Header → Bool
wide h = nat_le 256 h.maximum

abbrev pub sample_bytes : Bool → ℕ
sample_bytes true = 2
sample_bytes false = 1

-- sample k of a raster; of two bytes the more significant comes first
abbrev pub sample_at : Bool → List ℕ → ℕ → ℕ
sample_at true raster k = slice_index raster (2 * k) * 256 + slice_index raster (2 * k + 1)
sample_at false raster k = slice_index raster k

abbrev pub pixel : ℕ → Pixel
pixel n = record { 0 = n }

-- rows lie one after the other
abbrev pub image_meaning : Header → List ℕ → Meaning Pixel
image_meaning h raster = repeated h.height h.width (λ row column. pixel (sample_at (wide h) raster (row * h.width + column)))
