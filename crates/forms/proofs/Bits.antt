-- The bits of sets of cells, and the order that `inside` is.
use Rattle.std.proofs.Common.{◌≡◌, ℕ, zero, suc, ◌+◌, ◌-◌, ◌/◌, ◌%◌, ◌^◌, ◌<◌, ◌≤◌, min, max, eqb, IsTrue, ◌⊎◌, sym, refl, ap, ◌∙◌, subst, inl, inr, one-mul, pow-suc, arith}
use native.Mathlib.Nat.{div-eq_of_lt}
use lib.Bits.{bit_and, bit_or, and_mask, and_step, or_step, and_self, and_comm, shifted_even, or_lt, or_add_and}
use Rattle.std.proofs.lemmas.Nat.{and_shr, or_shr, and_le_l, and_le_r, shr-shr, shl-shr, pow-add, pow_below, pow_pos}
use Rattle.std.proofs.lemmas.Bool.{cases_order, eqb-true, eq-eqb}
use Rattle.forms.specs.Sets.{bit, Has, Sub, CellByCell, single}

pub bit_lt : (a k : ℕ) → bit a k < 2
bit_lt a k = omega arith

pub bit_of_and : (a b k : ℕ) → bit (bit_and a b) k ≡ min (bit a k) (bit b k)
bit_of_and a b k = rw (and_shr a b k) (omega (arith, and_step (a / 2 ^ k) (b / 2 ^ k)))

pub bit_of_or : (a b k : ℕ) → bit (bit_or a b) k ≡ max (bit a k) (bit b k)
bit_of_or a b k = rw (or_shr a b k) (omega (arith, or_step (a / 2 ^ k) (b / 2 ^ k)))

pub bit_half : (a k : ℕ) → bit (a / 2) k ≡ bit a (1 + k)
bit_half a k = ap (λ (x : ℕ). x % 2) (shr-shr a 1 k)

-- numbers of n bits are equal where their bits are
pub ext : (n a b : ℕ) → a < 2 ^ n → b < 2 ^ n → ((k : ℕ) → k < n → bit a k ≡ bit b k) → a ≡ b
ext zero a b ha hb h = omega arith
ext (suc n) a b ha hb h =
    let e : a / 2 ≡ b / 2 = ext n (a / 2) (b / 2) (omega (arith, pow-suc 2 n)) (omega (arith, pow-suc 2 n))
    (λ k l. bit_half a k ∙ h (1 + k) (omega arith) ∙ sym (bit_half b k)) in
    let z : a % 2 ≡ b % 2 = omega (arith, h 0 (omega arith)) in
    omega arith

-- over any width
pub sub_bits : (a b : ℕ) → Sub a b → (k : ℕ) → bit a k ≡ 1 → bit b k ≡ 1
sub_bits a b e k h = omega (arith, ap (λ (x : ℕ). bit x k) e, bit_of_and a b k)

pub bits_sub : (n a b : ℕ) → a < 2 ^ n → ((k : ℕ) → k < n → bit a k ≡ 1 → bit b k ≡ 1) → Sub a b
bits_sub n a b ha h = ext n (bit_and a b) a (omega (arith, and_le_l a b)) ha (λ k l. go k l)
  where
    go : (k : ℕ) → k < n → bit (bit_and a b) k ≡ bit a k
    go k l = elim (split (bit a k) (bit_lt a k)) [ inl z ↦ omega (arith, bit_of_and a b k) | inr o ↦ omega (arith, bit_of_and a b k, h k l o) ]
      where
        split : (x : ℕ) → x < 2 → (x ≡ 0) ⊎ (x ≡ 1)
        split zero l = inl refl
        split (suc zero) l = inr refl
        split (suc (suc x)) l = absurd (omega arith)

-- inside is cell by cell
pub bridge : (a b : ℕ) → a < 2 ^ 63 → (Sub a b → CellByCell a b) × (CellByCell a b → Sub a b)
bridge a b ha = (
  (λ e c l h. sub_bits a b e (62 - c) h),
  (λ h. bits_sub 63 a b ha (λ k l o. go k l (h (62 - k) (omega arith)) o)),
)
  where
    back : (k : ℕ) → k < 63 → 62 - (62 - k) ≡ k
    back k l = omega arith

    go : (k : ℕ) → k < 63 → (Has a (62 - k) → Has b (62 - k)) → bit a k ≡ 1 → bit b k ≡ 1
    go k l f o = subst (λ (j : ℕ). bit b j ≡ 1) (back k l) (f (subst (λ (j : ℕ). bit a j ≡ 1) (sym (back k l)) o))

-- the order of terms, with no bound on the width
pub lt_two_pow : (a : ℕ) → a < 2 ^ a
lt_two_pow zero = omega arith
lt_two_pow (suc a) = omega (arith, lt_two_pow a, pow-suc 2 a)

pub sub_refl : (a : ℕ) → Sub a a
sub_refl a = and_self a

pub sub_trans : (a b c : ℕ) → Sub a b → Sub b c → Sub a c
sub_trans a b c p q = bits_sub a a c (lt_two_pow a) (λ k l o. sub_bits b c q k (sub_bits a b p k o))

pub sub_anti : (a b : ℕ) → Sub a b → Sub b a → a ≡ b
sub_anti a b p q = sym p ∙ and_comm a b ∙ q

pub sub_le : (a b : ℕ) → Sub a b → a ≤ b
sub_le a b p = omega (arith, and_le_r a b)

-- ---- the set of one cell, and sets that are put together
pub power_other : (k j : ℕ) → (k < j) ⊎ (j < k) → bit (2 ^ k) j ≡ 0
power_other k j (inl h) = ap (λ (x : ℕ). x % 2) (div-eq_of_lt (pow_below k j h))
power_other k j (inr h) =
    let e : suc (k - j - 1) + j ≡ k = omega arith in
    ap (λ (n : ℕ). bit (2 ^ n) j) (sym e) ∙ ap (λ (x : ℕ). x / 2 ^ j % 2) (pow-add 2 (suc (k - j - 1)) j)
    ∙ ap (λ (x : ℕ). x % 2) (shl-shr (2 ^ suc (k - j - 1)) j) ∙ ap (λ (x : ℕ). x % 2) (sym (one-mul (2 ^ suc (k - j - 1)))) ∙ shifted_even 1 (k - j - 1)

power_own : (k : ℕ) → bit (2 ^ k) k ≡ 1
power_own k = ap (λ (x : ℕ). x / 2 ^ k % 2) (sym (one-mul (2 ^ k))) ∙ ap (λ (x : ℕ). x % 2) (shl-shr 1 k)

pub has_single : (c : ℕ) → Has (single c) c
has_single c = power_own (62 - c)

pub single_has : (c d : ℕ) → c < 63 → d < 63 → Has (single c) d → d ≡ c
single_has c d l m h = go (cases_order (62 - c) (62 - d))
  where
    go : (62 - c ≡ 62 - d) ⊎ ((62 - c < 62 - d) ⊎ (62 - d < 62 - c)) → d ≡ c
    go (inl e) = omega arith
    go (inr q) = absurd (omega (arith, h, power_other (62 - c) (62 - d) q))

pub single_small : (c : ℕ) → single c < 2 ^ 63
single_small c = pow_below (62 - c) 63 (omega arith)

pub single_some : (c : ℕ) → 0 < single c
single_some c = pow_pos (62 - c)

pub has_or : (a b c : ℕ) → (Has (bit_or a b) c → Has a c ⊎ Has b c) × (Has a c ⊎ Has b c → Has (bit_or a b) c)
has_or a b c = (to, from)
  where
    to : Has (bit_or a b) c → Has a c ⊎ Has b c
    to h = go (bit a (62 - c)) refl
      where
        go : (x : ℕ) → bit a (62 - c) ≡ x → Has a c ⊎ Has b c
        go zero e = inr (omega (arith, h, e, bit_of_or a b (62 - c), bit_lt b (62 - c)))
        go (suc x) e = inl (omega (arith, e, bit_lt a (62 - c)))

    from : Has a c ⊎ Has b c → Has (bit_or a b) c
    from (inl h) = omega (arith, h, bit_of_or a b (62 - c), bit_lt b (62 - c))
    from (inr h) = omega (arith, h, bit_of_or a b (62 - c), bit_lt a (62 - c))

pub or_some : (t u : ℕ) → 0 < t → 0 < bit_or t u
or_some t u p = omega (arith, or_add_and t u, and_le_r t u)

pub or_small : (t u : ℕ) → t < 2 ^ 63 → u < 2 ^ 63 → bit_or t u < 2 ^ 63
or_small t u p q = or_lt 63 t u p q

-- the test of the bit of a cell
pub has_test : (s n : ℕ) → (IsTrue (eqb (bit_and (s / 2 ^ (62 - n)) 1) 1) → Has s n) × (Has s n → IsTrue (eqb (bit_and (s / 2 ^ (62 - n)) 1) 1))
has_test s n = ((λ e. sym (and_mask (s / 2 ^ (62 - n)) 1) ∙ eqb-true _ 1 e), λ h. eq-eqb _ 1 (and_mask (s / 2 ^ (62 - n)) 1 ∙ h))
