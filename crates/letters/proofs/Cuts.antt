-- The first token of a text, by its first byte, and how many bytes it takes.
use Rattle.std.proofs.Common.{◌≡◌, ℕ, suc, ◌<◌, ◌≤◌, Bool, true, false, cond, eqb, List, [], ◌∷◌, length, take, ℤ, Some, None, Option, refl, subst, zero-add, arith}
use Rattle.std.specs.List.{prefix_len}
use Rattle.std.proofs.lemmas.List.Sums.{prefix_len-le-length}
use Rattle.std.proofs.lemmas.Bool.{eqb-true}
use Rattle.letters.specs.declared.tokens.Sign.{Sign}
use Rattle.letters.specs.Bytes.{letter, digit, minus}
use Rattle.letters.specs.Tokens.{word, number, finish, wrong}
use Rattle.letters.specs.Scanning.{Cut, sign_of, sign_cut, is_numeral, number_of, cut_of_number, cut_of}

module _ (s : List ℕ) (b : ℕ) (bs : List ℕ) (is : s ≡ b ∷ bs) where
  pub cut_word : letter b ≡ true → record { tok = word (take (prefix_len letter s) s); size = prefix_len letter s } ≡ cut_of s
  cut_word l = simp (is, l)

  pub cut_digits : (k : ℕ) → k ≡ 0 → letter b ≡ false → digit b ≡ true → cut_of_number false k s ≡ cut_of s
  cut_digits k z l d = simp (is, l, d, z, zero-add)

  pub cut_minus : (k : ℕ) → k ≡ 1 → letter b ≡ false → digit b ≡ false → eqb b minus ≡ true → cut_of_number true k bs ≡ cut_of s
  cut_minus k z l d m = simp (is, l, d, m, z)

  pub cut_sign : letter b ≡ false → digit b ≡ false → eqb b minus ≡ false → sign_cut (sign_of b) ≡ cut_of s
  cut_sign l d m = simp (is, l, d, m)

-- what holds of each cut that the first byte can ask for holds of the cut
pub cut_by : (P : Cut → Type 0) (b : ℕ) (bs : List ℕ)
    → (letter b ≡ true → P (record { tok = word (take (prefix_len letter (b ∷ bs)) (b ∷ bs)); size = prefix_len letter (b ∷ bs) }))
    → (digit b ≡ true → P (cut_of_number false 0 (b ∷ bs))) → (b ≡ minus → P (cut_of_number true 1 bs)) → P (sign_cut (sign_of b)) → P (cut_of (b ∷ bs))
cut_by P b bs words digits minuses signs = by_letter (letter b) refl
  where
    by_minus : letter b ≡ false → digit b ≡ false → (t : Bool) → eqb b minus ≡ t → P (cut_of (b ∷ bs))
    by_minus l d true m = subst P (cut_minus (b ∷ bs) b bs refl 1 refl l d m) (minuses (eqb-true b minus m))
    by_minus l d false m = subst P (cut_sign (b ∷ bs) b bs refl l d m) signs

    by_digit : letter b ≡ false → (t : Bool) → digit b ≡ t → P (cut_of (b ∷ bs))
    by_digit l true d = subst P (cut_digits (b ∷ bs) b bs refl 0 refl l d) (digits d)
    by_digit l false d = by_minus l d (eqb b minus) refl

    by_letter : (t : Bool) → letter b ≡ t → P (cut_of (b ∷ bs))
    by_letter true l = subst P (cut_word (b ∷ bs) b bs refl l) (words l)
    by_letter false l = by_digit l (digit b) refl

pub leading_grows : (p : ℕ → Bool) (b : ℕ) (bs : List ℕ) → p b ≡ true → 0 < prefix_len p (b ∷ bs)
leading_grows p b bs e = simp e (omega arith)

abbrev Sized : ℕ → Cut → Type 0
Sized n c = (0 < c.size) × (c.size ≤ n)

sign_sized : (o : Option Sign) (bs : List ℕ) → Sized (suc (length bs)) (sign_cut o)
sign_sized (Some s) bs = (omega arith, omega arith)
sign_sized None bs = (omega arith, omega arith)

-- a cut of one or more bytes takes some of them
pub cut_sized : (b : ℕ) (bs : List ℕ) → (0 < (cut_of (b ∷ bs)).size) × ((cut_of (b ∷ bs)).size ≤ length (b ∷ bs))
cut_sized b bs =
    cut_by (Sized (length (b ∷ bs))) b bs
    (λ l. (leading_grows letter b bs l, prefix_len-le-length letter (b ∷ bs)))
    (λ d. (let g = leading_grows digit b bs d in omega arith, let w = prefix_len-le-length digit (b ∷ bs) in omega arith))
    (λ _. let w = prefix_len-le-length digit bs in (omega arith, omega arith))
    (sign_sized (sign_of b) bs)

pub cut_within : (s : List ℕ) → (cut_of s).size ≤ length s
cut_within [] = omega arith
cut_within (b ∷ bs) = (cut_sized b bs).1

number_no_finish : (negative : Bool) (ds : List ℕ) → number_of negative ds ≡ finish → ⊥
number_no_finish negative ds = go (is_numeral negative ds) _
  where
    go : (t : Bool) (z : ℤ) → cond t (number z) wrong ≡ finish → ⊥
    go true z e = let z : ◌≡◌ {A = ℕ} 0 1 = cc in omega arith
    go false z e = let z : ◌≡◌ {A = ℕ} 0 1 = cc in omega arith

sign_no_finish : (o : Option Sign) → (sign_cut o).tok ≡ finish → ⊥
sign_no_finish (Some s) e = let z : ◌≡◌ {A = ℕ} 0 1 = cc in omega arith
sign_no_finish None e = let z : ◌≡◌ {A = ℕ} 0 1 = cc in omega arith

-- the end is found only where no byte is left
pub no_finish : (b : ℕ) (bs : List ℕ) → (cut_of (b ∷ bs)).tok ≡ finish → ⊥
no_finish b bs =
    cut_by (λ (c : Cut). c.tok ≡ finish → ⊥) b bs (λ _ e. let z : ◌≡◌ {A = ℕ} 0 1 = cc in omega arith)
    (λ _. number_no_finish false (take (prefix_len digit (b ∷ bs)) (b ∷ bs))) (λ _. number_no_finish true (take (prefix_len digit bs) bs)) (sign_no_finish (sign_of b))

pub cut_takes : (s : List ℕ) → ((cut_of s).tok ≡ finish → ⊥) → 0 < (cut_of s).size
cut_takes [] n = absurd (n refl)
cut_takes (b ∷ bs) n = (cut_sized b bs).0
