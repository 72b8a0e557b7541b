-- Which bytes are a PGM image, and which of the tests declines others.
use Rattle.std.specs.Prelude.{◌≡◌, ℕ, ◌*◌, ◌<◌, ◌≤◌, List, length, ◌≢◌}
use Rattle.images.specs.declared.header.Header.{Header}
use Rattle.images.specs.declared.refusal.ImageRefusal.{ImageRefusal}
use Rattle.images.specs.declared.refusal.ImageRefusal.TheVariants.{NotPgm, MalformedHeader, OutOfRange, WrongLength, AboveMaximum}
use Rattle.images.specs.Header.{Magic, Headed}
use Rattle.images.specs.Samples.{wide, sample_at}
use Rattle.images.specs.Fits.{InRange, raster_length}

-- sample k of an image with that header and raster
abbrev pub sample_of : Header → List ℕ → ℕ → ℕ
sample_of h raster k = sample_at (wide h) raster k

-- bs is the image with the header h and the raster
pub record Pgm (bs : List ℕ) (h : Header) (raster : List ℕ) : Type 0 where
  pub headed : Headed bs h raster
  pub numbers_in_range : InRange h
  pub long : length raster ≡ raster_length h
  pub under : (k : ℕ) → k < h.height * h.width → sample_of h raster k ≤ h.maximum

-- what holds of bytes that are declined: the tests before are passed, and this one is not
abbrev pub Declines : ImageRefusal → List ℕ → Type 0
Declines NotPgm bs = (s : List ℕ) → Magic bs s → ⊥
Declines MalformedHeader bs =
    ((s : List ℕ) × Magic bs s) × ((h : Header) (raster : List ℕ) → Headed bs h raster → ⊥)
Declines OutOfRange bs = (h : Header) × (raster : List ℕ) × Headed bs h raster × (InRange h → ⊥)
Declines WrongLength bs =
    (h : Header) × (raster : List ℕ) × Headed bs h raster × InRange h × (length raster ≢ raster_length h)
Declines AboveMaximum bs =
    (h : Header) × (raster : List ℕ) × Headed bs h raster × InRange h × (length raster ≡ raster_length h)
    × ((k : ℕ) × (k < h.height * h.width) × (h.maximum < sample_of h raster k))
