-- When a layout fits the bytes of an image.
use Rattle.std.specs.Prelude.{◌≡◌, ℕ, ◌+◌, ◌*◌, ◌≤◌, List, length}
use Rattle.sources.specs.Meaning.{longest}
use Rattle.images.specs.declared.header.Header.{Header}
use Rattle.images.specs.declared.header.Layout.{Layout}
use Rattle.images.specs.Samples.{wide, sample_bytes}

-- a side is from 1 to the longest
abbrev pub Side : ℕ → Type 0
Side n = (1 ≤ n) × (n ≤ longest)

-- the highest maximum, and a maximum from 1 to it
abbrev pub highest_maximum : ℕ
highest_maximum = 65535

abbrev pub Maximum : ℕ → Type 0
Maximum n = (1 ≤ n) × (n ≤ highest_maximum)

abbrev pub InRange : Header → Type 0
InRange h = Side h.height × Side h.width × Maximum h.maximum

abbrev pub raster_length : Header → ℕ
raster_length h = h.height * h.width * sample_bytes (wide h)

-- the raster is what the bytes end with
abbrev pub Fits : Layout → List ℕ → Type 0
Fits l bs = InRange l.header × (length bs ≡ l.start + raster_length l.header)
