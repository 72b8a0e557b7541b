-- Bits in bytes, the most significant first.
use Rattle.std.specs.Prelude.{ℕ, zero, suc, ◌+◌, ◌-◌, ◌*◌, ◌/◌, ◌%◌, ◌^◌, ◌<◌, List, [], ◌∷◌, ◌++◌, slice_index}

-- zeros and ones
abbrev pub IsBits : (ℕ → ℕ) → Type 0
IsBits b = (i : ℕ) → b i < 2

-- bit k, counted from the most significant, of the number n in a field of w bits
abbrev pub field_bit : ℕ → ℕ → ℕ → ℕ
field_bit w n k = n / 2 ^ (w - 1 - k) % 2

-- the number that w of the bits b spell, from the place `from` on
unfoldable pub spelled : (ℕ → ℕ) → ℕ → ℕ → ℕ
spelled b from zero = 0
spelled b from (suc w) = 2 * spelled b from w + b (from + w)

-- bit i of bytes
abbrev pub bit_at : List ℕ → ℕ → ℕ
bit_at bytes i = field_bit 8 (slice_index bytes (i / 8)) (i % 8)

-- n bytes of the bits b
abbrev pub packed : (ℕ → ℕ) → ℕ → List ℕ
packed b zero = []
packed b (suc n) = packed b n ++ spelled b (8 * n) 8 ∷ []
