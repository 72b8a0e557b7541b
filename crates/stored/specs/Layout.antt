-- The stored bytes of a form, for a version v whose count field has w bits:
-- 4 bits of version, w bits of the term count less 1, 63 bits for each term, and zero bits to the end of the byte.
use Rattle.std.specs.Prelude.{◌≡◌, ℕ, zero, suc, ◌+◌, ◌-◌, ◌*◌, ◌/◌, ◌%◌, ◌^◌, ◌<◌, ◌≤◌, Bool, true, if◌then◌else◌, not, ◌&&◌, ◌||◌, List, [], ◌∷◌, ◌++◌, length, ◌==◌, nat_lt, slice_index}
use Rattle.forms.specs.Sets.{sub, every}
use Rattle.forms.specs.Terms.{Terms, Ascending, Apart}
use Rattle.stored.specs.Packing.{field_bit, spelled, bit_at, packed}

-- the place of the first bit of term k, and of the first filling bit where there are k terms
abbrev pub term_start : ℕ → ℕ → ℕ
term_start w k = 4 + w + 63 * k

-- how many bytes n terms take
abbrev pub bytes_for : ℕ → ℕ → ℕ
bytes_for w n = (term_start w n + 7) / 8

-- bit i of a stored form
abbrev pub stored_bit : ℕ → ℕ → List ℕ → ℕ → ℕ
stored_bit w v f i =
    if nat_lt i 4 then field_bit 4 v i
    else if nat_lt i (4 + w) then field_bit w (length f - 1) (i - 4)
    else field_bit 63 (slice_index f ((i - (4 + w)) / 63)) ((i - (4 + w)) % 63)

unfoldable pub stored : ℕ → ℕ → List ℕ → List ℕ
stored w v f = packed (stored_bit w v f) (bytes_for w (length f))

-- what bytes hold: the version, the term count, term k, the first n terms, and the filling after n terms
abbrev pub version_in : List ℕ → ℕ
version_in bytes = spelled (bit_at bytes) 0 4

abbrev pub count_in : ℕ → List ℕ → ℕ
count_in w bytes = spelled (bit_at bytes) 4 w + 1

abbrev pub term_in : ℕ → List ℕ → ℕ → ℕ
term_in w bytes k = spelled (bit_at bytes) (term_start w k) 63

abbrev pub terms_in : ℕ → List ℕ → ℕ → List ℕ
terms_in w bytes zero = []
terms_in w bytes (suc n) = terms_in w bytes n ++ term_in w bytes n ∷ []

abbrev pub filling_in : ℕ → List ℕ → ℕ → ℕ
filling_in w bytes n = spelled (bit_at bytes) (term_start w n) (8 * length bytes - term_start w n)

-- each term is above the one before it, and the first is above 0
abbrev pub ascends : ℕ → List ℕ → Bool
ascends before [] = true
ascends before (t ∷ ts) = nat_lt before t && ascends t ts

-- no term is inside another
abbrev pub none_inside : List ℕ → Bool
none_inside ts = every (λ t. every (λ u. not (sub t u) || t == u) ts) ts

-- the terms that bytes store, or the number under which they are refused
pub data Loaded : Type 0 where
  accepted : List ℕ → Loaded
  refused : ℕ → Loaded

-- the tests of the terms
abbrev pub checked : List ℕ → Loaded
checked f =
    if not (ascends 0 f) then refused 14
    else if not (none_inside f) then refused 15
    else accepted f

unfoldable pub loaded : ℕ → ℕ → List ℕ → Loaded
loaded w v bytes =
    if nat_lt (length bytes) 2 || not (version_in bytes == v) then refused 11
    else if not (length bytes == bytes_for w (count_in w bytes)) then refused 12
    else if not (filling_in w bytes (count_in w bytes) == 0) then refused 13
    else checked (terms_in w bytes (count_in w bytes))

-- loading undoes storing: every list of terms that a form can have, and that the count can tell, comes back
abbrev pub LoadsBack : ℕ → ℕ → Type 0
LoadsBack w v = (f : List ℕ) → 0 < length f → length f ≤ 2 ^ w → Terms f → Ascending f → Apart f
    → loaded w v (stored w v f) ≡ accepted f

-- storing undoes loading: the bytes that are accepted are those of the terms that they store
abbrev pub StoresBack : ℕ → ℕ → Type 0
StoresBack w v = (bytes f : List ℕ) → ((j : ℕ) → slice_index bytes j < 2 ^ 8) → loaded w v bytes ≡ accepted f → stored w v f ≡ bytes

-- version 1 has a count of 8 bits
abbrev pub count_bits : ℕ
count_bits = 8

abbrev pub version : ℕ
version = 1
