-- The header of a PGM file: which bytes spell one, and what it says.
use Rattle.std.specs.Prelude.{◌≡◌, ℕ, ◌-◌, ◌≤◌, Bool, true, ◌&&◌, ◌||◌, List, ◌∷◌, ◌++◌, map, length, ◌==◌, nat_le}
use Rattle.std.specs.List.{AllByRecursion}
use Rattle.std.specs.Int.Digits.{number_from_digits}
use Rattle.images.specs.declared.header.Header.{Header}

-- blank, tab, carriage return, line feed
abbrev pub white : ℕ → Bool
white b = b == 32 || (b == 9 || (b == 13 || b == 10))

-- the characters 0 to 9
abbrev pub digit : ℕ → Bool
digit b = nat_le 48 b && nat_le b 57

-- the number that digits write
abbrev pub decimal : List ℕ → ℕ
decimal ds = number_from_digits 10 (map (λ d. d - 48) ds)

-- the most digits of a number in a header
abbrev pub most_digits : ℕ
most_digits = 5

-- s is white space, a number n of one to so many digits, and then t
pub record Field (s : List ℕ) (n : ℕ) (t : List ℕ) : Type 0 where
  pub gap : List ℕ
  pub digits : List ℕ
  pub spelling : s ≡ gap ++ (digits ++ t)
  pub some_gap : 1 ≤ length gap
  pub all_white : AllByRecursion (λ b. white b ≡ true) gap
  pub some_digits : 1 ≤ length digits
  pub few_digits : length digits ≤ most_digits
  pub all_digits : AllByRecursion (λ b. digit b ≡ true) digits
  pub value : decimal digits ≡ n

-- bs begins with the two bytes `P5`, and s follows
abbrev pub Magic : List ℕ → List ℕ → Type 0
Magic bs s = bs ≡ 80 ∷ 53 ∷ s

-- bs is `P5`, width, height, maximum, one byte of white space, and then the raster
pub record Headed (bs : List ℕ) (h : Header) (raster : List ℕ) : Type 0 where
  pub at_width : List ℕ
  pub at_height : List ℕ
  pub at_maximum : List ℕ
  pub last : ℕ
  pub magic : Magic bs at_width
  pub width : Field at_width h.width at_height
  pub height : Field at_height h.height at_maximum
  pub maximum : Field at_maximum h.maximum (last ∷ raster)
  pub last_white : white last ≡ true
