-- The reading of an image as a function of its bytes, byte places counted from 0.
use Rattle.std.specs.Prelude.{ℕ, zero, suc, ◌+◌, ◌-◌, ◌*◌, max, Bool, cond, ◌&&◌, ◌||◌, List, length, drop, Some, None, Ok, Err, Option, Result, ◌==◌, nat_le, nat_lt, slice_index, slice_range}
use Rattle.std.specs.List.{prefix_len}
use Rattle.sources.specs.Meaning.{longest}
use Rattle.images.specs.declared.header.Header.{Header}
use Rattle.images.specs.declared.header.Layout.{Layout}
use Rattle.images.specs.declared.refusal.ImageRefusal.{ImageRefusal}
use Rattle.images.specs.declared.refusal.ImageRefusal.TheVariants.{NotPgm, MalformedHeader, OutOfRange, WrongLength, AboveMaximum}
use Rattle.images.specs.Header.{white, digit, decimal, most_digits}
use Rattle.images.specs.Samples.{wide, sample_at}
use Rattle.images.specs.Fits.{highest_maximum, raster_length}

-- white space, or digits
pub data Class : Type 0 where
  White : Class
  Digit : Class

abbrev pub belongs : Class → ℕ → Bool
belongs White b = white b
belongs Digit b = digit b

-- where the longest run of bytes of a class that starts at a place ends
abbrev pub run_end : Class → List ℕ → ℕ → ℕ
run_end class bs at = at + prefix_len (belongs class) (drop at bs)

-- white space from `at` to `start`, one to the most digits from there to `end`: the number, and its end
abbrev pub field_between : List ℕ → ℕ → ℕ → ℕ → Option (ℕ × ℕ)
field_between bs at start end =
    cond (start == at || (end == start || nat_lt most_digits (end - start))) None (Some (decimal (slice_range bs start end), end))

abbrev pub field_from : List ℕ → ℕ → ℕ → Option (ℕ × ℕ)
field_from bs at start = field_between bs at start (run_end Digit bs start)

abbrev pub field_at : List ℕ → ℕ → Option (ℕ × ℕ)
field_at bs at = field_from bs at (run_end White bs at)

abbrev pub and_then : {A B : Type 0} → Option A → (A → Option B) → Option B
and_then None f = None
and_then (Some x) f = f x

-- the header ends with one byte of white space
abbrev pub closed : List ℕ → Header → ℕ → Option Layout
closed bs h at = cond (nat_lt at (length bs) && white (slice_index bs at)) (Some (record { header = h; start = at + 1 })) None

abbrev pub header_of : List ℕ → Option Layout
header_of bs =
    and_then (field_at bs 2) (λ w.
    and_then (field_at bs w.1) (λ h.
    and_then (field_at bs h.1) (λ m.
    closed bs (record { height = h.0; width = w.0; maximum = m.0 }) m.1)))

abbrev pub side_good : ℕ → Bool
side_good n = nat_le 1 n && nat_le n longest

abbrev pub in_range : Header → Bool
in_range h = side_good h.height && (side_good h.width && (nat_le 1 h.maximum && nat_le h.maximum highest_maximum))

-- the highest of the first n samples, or 0
abbrev pub highest : Bool → List ℕ → ℕ → ℕ
highest wide raster zero = 0
highest wide raster (suc n) = max (highest wide raster n) (sample_at wide raster n)

abbrev pub highest_of : List ℕ → Layout → ℕ
highest_of bs l = highest (wide l.header) (drop l.start bs) (l.header.height * l.header.width)

-- the tests that follow the header, in order
abbrev pub checked : List ℕ → Layout → Result Layout ImageRefusal
checked bs l =
    cond (in_range l.header)
    (cond (length bs - l.start == raster_length l.header)
    (cond (nat_le (highest_of bs l) l.header.maximum) (Ok l) (Err AboveMaximum))
    (Err WrongLength))
    (Err OutOfRange)

abbrev pub of_header : List ℕ → Option Layout → Result Layout ImageRefusal
of_header bs None = Err MalformedHeader
of_header bs (Some l) = checked bs l

abbrev pub has_magic : List ℕ → Bool
has_magic bs = nat_le 2 (length bs) && (slice_index bs 0 == 80 && slice_index bs 1 == 53)

unfoldable pub surveyed : List ℕ → Result Layout ImageRefusal
surveyed bs = cond (has_magic bs) (of_header bs (header_of bs)) (Err NotPgm)
