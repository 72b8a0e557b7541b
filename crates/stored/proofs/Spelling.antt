-- Numbers and the bits that spell them.
use Rattle.std.proofs.Common.{◌≡◌, ℕ, zero, suc, ◌+◌, ◌-◌, ◌*◌, ◌/◌, ◌%◌, ◌^◌, ◌<◌, ◌≤◌, ◌⊎◌, List, [], ◌∷◌, ◌++◌, length, get_or, fold, sym, refl, ap, ◌∙◌, ap₂, inl, inr, pow-suc, pow_mono, arith}
use native.Mathlib.Nat.{zero-div}
use Rattle.std.specs.List.{range_with_len}
use Rattle.std.proofs.lemmas.Nat.{shr-shr}
use Rattle.std.proofs.lemmas.List.{get_or_append_left, get_or_push, length_push}
use Rattle.std.proofs.lemmas.Bool.{cases_order}
use Rattle.stored.specs.Packing.{IsBits, field_bit, spelled, bit_at, packed}

pub field_bits : (w n k : ℕ) → field_bit w n k < 2
field_bits w n k = omega arith

-- a field of one more bit: the last bit, and the others
last_bit : (w n : ℕ) → field_bit (suc w) n w ≡ n % 2
last_bit w n =
    let e : suc w - 1 - w ≡ 0 = omega arith in
    ap (λ (j : ℕ). n / 2 ^ j % 2) e ∙ omega arith

other_bits : (w n k : ℕ) → k < w → field_bit (suc w) n k ≡ field_bit w (n / 2) k
other_bits w n k l =
    let e : suc w - 1 - k ≡ 1 + (w - 1 - k) = omega arith in
    ap (λ (j : ℕ). n / 2 ^ j % 2) e ∙ ap (λ (y : ℕ). y % 2) (sym (shr-shr n 1 (w - 1 - k)))

-- the bits of what is spelled
pub spelled_bit : (b : ℕ → ℕ) → IsBits b → (from w k : ℕ) → k < w → field_bit w (spelled b from w) k ≡ b (from + k)
unfolding spelled
spelled_bit b z from zero k l = absurd (omega arith)
spelled_bit b z from (suc w) k l = go (λ m. spelled_bit b z from w k m) (cases_order k w)
  where
    half : (2 * spelled b from w + b (from + w)) / 2 ≡ spelled b from w
    half = omega (arith, z (from + w))

    odd : (2 * spelled b from w + b (from + w)) % 2 ≡ b (from + w)
    odd = omega (arith, z (from + w))

    go : (k < w → field_bit w (spelled b from w) k ≡ b (from + k)) → (k ≡ w) ⊎ ((k < w) ⊎ (w < k)) → field_bit (suc w) (2 * spelled b from w + b (from + w)) k ≡ b (from + k)
    go ih (inl e) =
        ap (λ (j : ℕ). field_bit (suc w) (2 * spelled b from w + b (from + w)) j) e
        ∙ last_bit w (2 * spelled b from w + b (from + w)) ∙ odd ∙ ap (λ (j : ℕ). b (from + j)) (sym e)
    go ih (inr (inl m)) = other_bits w (2 * spelled b from w + b (from + w)) k m ∙ ap (λ (n : ℕ). field_bit w n k) half ∙ ih m
    go ih (inr (inr m)) = absurd (omega arith)

-- the number whose bits they are
pub field_spelled : (b : ℕ → ℕ) (from w n : ℕ) → n < 2 ^ w → ((k : ℕ) → k < w → b (from + k) ≡ field_bit w n k) → spelled b from w ≡ n
unfolding spelled
field_spelled b from zero n l h = omega arith
field_spelled b from (suc w) n l h =
    let p : spelled b from w ≡ n / 2 = field_spelled b from w (n / 2) (omega (arith, pow-suc 2 w)) (λ k m. h k (omega arith) ∙ other_bits w n k m) in
    let q : b (from + w) ≡ n % 2 = h w (omega arith) ∙ last_bit w n in
    omega arith

pub spelled_below : (b : ℕ → ℕ) → IsBits b → (from w : ℕ) → spelled b from w < 2 ^ w
unfolding spelled
spelled_below b z from zero = omega arith
spelled_below b z from (suc w) = omega (arith, spelled_below b z from w, z (from + w), pow-suc 2 w)

pub spelled_same : (a b : ℕ → ℕ) (from w : ℕ) → ((k : ℕ) → k < w → a (from + k) ≡ b (from + k)) → spelled a from w ≡ spelled b from w
unfolding spelled
spelled_same a b from zero h = refl
spelled_same a b from (suc w) h = ap₂ (λ (x y : ℕ). 2 * x + y) (spelled_same a b from w (λ k l. h k (omega arith))) (h w (omega arith))

pub zero_bit : (w k : ℕ) → field_bit w 0 k ≡ 0
zero_bit w k = ap (λ (x : ℕ). x % 2) (zero-div (2 ^ (w - 1 - k)))

-- ---- bytes
pub at_bits : (bytes : List ℕ) → IsBits (bit_at bytes)
at_bits bytes i = omega arith

pub packed_length : (b : ℕ → ℕ) (n : ℕ) → length (packed b n) ≡ n
packed_length b zero = refl
packed_length b (suc n) = omega (arith, length_push (packed b n) (spelled b (8 * n) 8), packed_length b n)

-- one more value behind n values of g
pub push_at : (xs : List ℕ) (n : ℕ) (g : ℕ → ℕ) → length xs ≡ n → (k : ℕ) → k < suc n → (k < n → get_or xs k 0 ≡ g k) → get_or (xs ++ g n ∷ []) k 0 ≡ g k
push_at xs n g e k l h = go (cases_order k n)
  where
    go : (k ≡ n) ⊎ ((k < n) ⊎ (n < k)) → get_or (xs ++ g n ∷ []) k 0 ≡ g k
    go (inl d) = get_or_push xs (g n) 0 k (e ∙ sym d) ∙ ap g (sym d)
    go (inr (inl m)) = get_or_append_left xs (g n ∷ []) 0 k (omega arith) ∙ h m
    go (inr (inr m)) = absurd (omega arith)

pub packed_at : (b : ℕ → ℕ) (n j : ℕ) → j < n → get_or (packed b n) j 0 ≡ spelled b (8 * j) 8
packed_at b zero j l = absurd (omega arith)
packed_at b (suc n) j l = push_at (packed b n) n (λ k. spelled b (8 * k) 8) (packed_length b n) j l (packed_at b n j)

pub packed_bit : (b : ℕ → ℕ) → IsBits b → (n i : ℕ) → i < 8 * n → bit_at (packed b n) i ≡ b i
packed_bit b z n i l =
    let e : 8 * (i / 8) + i % 8 ≡ i = omega arith in
    ap (λ (y : ℕ). field_bit 8 y (i % 8)) (packed_at b n (i / 8) (omega arith))
    ∙ spelled_bit b z (8 * (i / 8)) 8 (i % 8) (omega arith) ∙ ap b e

pub byte_spelled : (bytes : List ℕ) (j : ℕ) → get_or bytes j 0 < 2 ^ 8 → spelled (bit_at bytes) (8 * j) 8 ≡ get_or bytes j 0
byte_spelled bytes j l = field_spelled (bit_at bytes) (8 * j) 8 (get_or bytes j 0) l (λ k m.
    let d : (8 * j + k) / 8 ≡ j = omega arith in
    let r : (8 * j + k) % 8 ≡ k = omega arith in
    ap₂ (λ (x y : ℕ). field_bit 8 (get_or bytes x 0) y) d r)

-- the number so far doubled, and a bit more, for each bit in turn
abbrev pub more : (ℕ → ℕ) → ℕ → ℕ → ℕ
more b n i = n * 2 ^ 1 % 2 ^ 64 + b i

fold_from : (b : ℕ → ℕ) → IsBits b → (from k w i n : ℕ) → from + k ≡ i → k + w ≤ 63 → n ≡ spelled b from k → fold (more b) n (range_with_len i w) ≡ spelled b from (k + w)
unfolding spelled
fold_from b z from k zero i n e l q = q ∙ ap (spelled b from) (let r : k ≡ k + zero = omega arith in r)
fold_from b z from k (suc w) i n e r q =
    let l : k ≤ 62 = omega arith in
    let m : 2 ^ k ≤ 2 ^ 62 = pow_mono l in
    let small : n < 2 ^ 62 = omega (arith, spelled_below b z from k) in
    let step : more b n i ≡ spelled b from (suc k) = omega (arith, q, ap b e) in
    fold_from b z from (suc k) w (i + 1) (more b n i) (omega arith) (omega arith) step ∙ ap (spelled b from) (let r : suc k + w ≡ k + suc w = omega arith in r)

pub fold_spelled : (b : ℕ → ℕ) → IsBits b → (from w : ℕ) → w ≤ 63 → fold (more b) 0 (range_with_len from w) ≡ spelled b from w
unfolding spelled
fold_spelled b z from w l = fold_from b z from 0 w from 0 (omega arith) (omega arith) refl ∙ ap (spelled b from) (let r : 0 + w ≡ w = omega arith in r)
