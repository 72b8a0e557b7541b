-- The outcome of taking bytes for an image or for a log.
use Rattle.std.specs.Prelude.{◌≡◌, ℕ, List, drop, Ok, Err, vec_items, Result}
use Rattle.elements.specs.declared.event.Event.{Event}
use Rattle.elements.specs.declared.pixel.Pixel.{Pixel}
use Rattle.sources.specs.Meaning.{Meaning}
use Rattle.images.specs.declared.declined.Declined.{Declined}
use Rattle.images.specs.declared.header.Header.{Header}
use Rattle.images.specs.declared.image.Image.{Image}
use Rattle.images.specs.declared.log.Log.{Log}
use Rattle.images.specs.declared.refusal.ImageRefusal.{ImageRefusal}
use Rattle.images.specs.declared.refusal.LogRefusal.{LogRefusal}
use Rattle.images.specs.declared.refusal.LogRefusal.TheVariants.{NotRecords}
use Rattle.images.specs.Samples.{image_meaning}
use Rattle.images.specs.Pgm.{Pgm, Declines}
use Rattle.images.specs.Records.{Records, record_count, log_meaning}

abbrev pub header : Image → Header
header i = i.layout.header

abbrev pub raster : Image → List ℕ
raster i = drop i.layout.start (vec_items i.bytes)

-- what an image shows
abbrev pub shown : Image → Meaning Pixel
shown i = image_meaning (header i) (raster i)

-- bytes that are an image give it, and no other; bytes that are none give the refusal of the first
-- test that they fail, and no other
abbrev pub ImageOutcome : List ℕ → Result Image (Declined ImageRefusal) → Type 0
ImageOutcome bs (Ok i) =
    Pgm bs (header i) (raster i)
    × ((h : Header) (r : List ℕ) → Pgm bs h r → (h ≡ header i) × (r ≡ raster i))
    × ((e : ImageRefusal) → Declines e bs → ⊥)
ImageOutcome bs (Err d) =
    Declines d.refusal bs
    × ((e : ImageRefusal) → Declines e bs → e ≡ d.refusal)
    × ((h : Header) (r : List ℕ) → Pgm bs h r → ⊥)

-- how many records a log has
abbrev pub count : Log → ℕ
count l = record_count (vec_items l.bytes)

-- what a log shows
abbrev pub events : Log → Meaning Event
events l = log_meaning (vec_items l.bytes) (count l)

-- bytes are a log exactly when they are records
abbrev pub LogOutcome : List ℕ → Result Log (Declined LogRefusal) → Type 0
LogOutcome bs (Ok l) = Records bs (count l)
LogOutcome bs (Err d) = (d.refusal ≡ NotRecords) × ((n : ℕ) → Records bs n → ⊥)
