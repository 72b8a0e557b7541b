-- The first cell of a set, found by the zeros in front of it.
use Rattle.std.proofs.Common.{◌≡◌, ℕ, zero, suc, ◌+◌, ◌-◌, ◌*◌, ◌%◌, ◌^◌, ◌<◌, ◌≤◌, Bool, eqb, ◌⊎◌, List, [], ◌∷◌, sym, ap, ◌∙◌, subst, inl, inr, one-mul, pow-suc, ap₂, arith}
use native.Mathlib.Nat.{div-eq_of_lt}
use lib.Bits.{bit_or}
use lib.Count.{count_leading_zeros}
use Rattle.std.proofs.lemmas.Nat.{leading_top, one_shl, or_shifted, pow_below}
use Rattle.std.proofs.lemmas.Bool.{cases_order, eq-eqb, ne_eqb}
use Rattle.forms.specs.Sets.{bit, single, only_if, cells_below, cells, cells_from}
use Rattle.forms.proofs.Bits.{bit_of_or, bit_lt, has_single, power_other}
use Rattle.forms.proofs.Listed.{below_suc, below_zero, cells_whole}

-- the first cell of a set that is not empty, by the zeros in front of it once the unused bit is shifted out
pub record Top (s n : ℕ) : Type 0 where
  pub cell : n < 63
  pub low : 2 ^ (62 - n) ≤ s
  pub high : s < 2 * 2 ^ (62 - n)

top_of : (s : ℕ) → 0 < s → s < 2 ^ 63 → Top s (count_leading_zeros 64 (s * 2))
top_of s p q = go (leading_top 64 (s * 2) (omega (arith, p)) (omega (arith, q)))
  where
    go : (j : ℕ) × (count_leading_zeros 64 (s * 2) + suc j ≡ 64) × (2 ^ j ≤ s * 2) × (s * 2 < 2 ^ suc j) → Top s (count_leading_zeros 64 (s * 2))
    go (zero, e, l, h) = absurd (omega (arith, p, h))
    go (suc j, e, l, h) =
        let k : 62 - count_leading_zeros 64 (s * 2) ≡ j = omega arith in
        record {
          cell = omega arith;
          low = subst (λ (i : ℕ). 2 ^ i ≤ s) (sym k) (omega (arith, l, pow-suc 2 j));
          high = subst (λ (i : ℕ). s < 2 * 2 ^ i) (sym k) (omega (arith, h, pow-suc 2 j, pow-suc 2 (suc j)));
        }

-- the shift loses no bit of a set
pub top : (s : ℕ) → 0 < s → s < 2 ^ 63 → Top s (count_leading_zeros 64 ((s * 2) % 2 ^ 64))
top s p q =
    let e : (s * 2) % 2 ^ 64 ≡ s * 2 = omega (arith, q) in
    subst (λ (x : ℕ). Top s (count_leading_zeros 64 x)) (sym e) (top_of s p q)

-- no bit at j or above
pub below_high : (n j s : ℕ) → j ≤ n → s < 2 ^ j → cells_below n s ≡ cells_below j s
below_high zero j s l h = let e : j ≡ 0 = omega arith in ap (λ (k : ℕ). cells_below k s) (sym e)
below_high (suc n) j s l h = go (λ m. below_high n j s m h) (cases_order j (suc n))
  where
    clear : j ≤ n → j < suc n → s < 2 ^ n
    clear k m = go' (cases_order j n)
      where
        go' : (j ≡ n) ⊎ ((j < n) ⊎ (n < j)) → s < 2 ^ n
        go' (inl e) = subst (λ (i : ℕ). s < 2 ^ i) e h
        go' (inr (inl g)) = omega (arith, h, pow_below j n g)
        go' (inr (inr g)) = absurd (omega arith)

    skip : j ≤ n → j < suc n → cells_below (suc n) s ≡ cells_below n s
    skip k m =
        let z : bit s n ≡ 0 = ap (λ (x : ℕ). x % 2) (div-eq_of_lt (clear k m)) in
        below_suc n s ∙ ap (λ (b : Bool). only_if b (62 - n) (cells_below n s)) (ne_eqb (bit s n) 1 (λ e. omega (arith, e, z)))

    go : (j ≤ n → cells_below n s ≡ cells_below j s) → (j ≡ suc n) ⊎ ((j < suc n) ⊎ (suc n < j)) → cells_below (suc n) s ≡ cells_below j s
    go ih (inl e) = ap (λ (k : ℕ). cells_below k s) (sym e)
    go ih (inr (inl g)) = skip (omega arith) g ∙ ih (omega arith)
    go ih (inr (inr g)) = absurd (omega arith)

-- a bit at j or above changes nothing below j
pub below_low : (k j t : ℕ) → k ≤ j → cells_below k (bit_or (2 ^ j) t) ≡ cells_below k t
below_low zero j t l = below_zero _ ∙ sym (below_zero t)
below_low (suc k) j t l =
    let e : bit (bit_or (2 ^ j) t) k ≡ bit t k = omega (arith, bit_of_or (2 ^ j) t k, power_other j k (inr (let q : k < j = omega arith in q))) in
    below_suc k (bit_or (2 ^ j) t)
    ∙ ap₂ (λ (b : ℕ) (cs : List ℕ). only_if (eqb b 1) (62 - k) cs) e (below_low k j t (omega arith)) ∙ sym (below_suc k t)

module _ (s c : ℕ) (p : 0 < s) (l : c < 63) (a : single c ≤ s) (b : s < 2 * single c) where
  whole : s ≡ bit_or (single c) (s - single c)
  whole = sym (ap (λ (y : ℕ). bit_or y (s - single c)) (sym (one-mul (single c))) ∙ or_shifted 1 (62 - c) (s - single c) (omega (arith, a, b)) ∙ (omega (arith, a)))

  set_there : bit s (62 - c) ≡ 1
  set_there = omega (arith, ap (λ (x : ℕ). bit x (62 - c)) whole, bit_of_or (single c) (s - single c) (62 - c), has_single c, bit_lt (s - single c) (62 - c))

  pub others_from : cells (s - single c) ≡ cells_from (c + 1) s
  others_from =
      let k : 62 - c ≡ 63 - (c + 1) = omega arith in
      cells_whole (s - single c) ∙ below_high 63 (62 - c) (s - single c) (omega arith) (omega (arith, a, b))
      ∙ sym (below_low (62 - c) (62 - c) (s - single c) (omega arith))
      ∙ ap (cells_below (62 - c)) (sym whole) ∙ ap (λ (n : ℕ). cells_below n s) k

  pub first_and_others : cells s ≡ c ∷ cells (s - single c)
  first_and_others =
      let z : 62 - (62 - c) ≡ c = omega arith in
      let k : 63 - (c + 1) ≡ 62 - c = omega arith in
      cells_whole s ∙ below_high 63 (suc (62 - c)) s (omega arith) (omega (arith, b, pow-suc 2 (62 - c)))
      ∙ below_suc (62 - c) s
      ∙ ap (λ (v : Bool). only_if v (62 - (62 - c)) (cells_below (62 - c) s)) (eq-eqb (bit s (62 - c)) 1 set_there)
      ∙ ap₂ (λ (d : ℕ) (n : ℕ). d ∷ cells_below n s) z (sym k)
      ∙ ap (λ (cs : List ℕ). c ∷ cs) (sym others_from)

pub none_in_empty : cells 0 ≡ []
none_in_empty = cells_whole 0 ∙ below_high 63 0 0 (omega arith) (omega arith) ∙ below_zero 0

-- `1 << (62 - c)` is the set of the cell c
pub mask_is : (c : ℕ) → (1 * 2 ^ (62 - c)) % 2 ^ 64 ≡ single c
mask_is c = one_shl (62 - c) 64 (omega arith)
