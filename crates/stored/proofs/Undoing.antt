-- Loading undoes storing, and storing undoes loading, for any width of the count field.
use Rattle.std.proofs.Common.{◌≡◌, ℕ, zero, suc, ◌+◌, ◌-◌, ◌*◌, ◌/◌, ◌%◌, ◌^◌, ◌<◌, ◌≤◌, true, not, ◌||◌, eqb, ltb, ◌⊎◌, List, [], ◌∷◌, ◌++◌, length, get_or, take, sym, refl, ap, ◌∙◌, ap₂, inl, inr, add-one, arith}
use lib.Bits.{bit_and}
use Rattle.std.proofs.lemmas.Nat.{pow_pos}
use Rattle.std.proofs.lemmas.List.{get_or_past, take_more, take_all, length_push, ext_get_or}
use Rattle.std.proofs.lemmas.Bool.{lt-ltb, eq-eqb, cases_lt, cases_eq, or_left, or_right, and_from, ne_eqb}
use Rattle.std.proofs.lemmas.Bool.Decides.{nat_tests}
use Rattle.forms.specs.Sets.{sub, every}
use Rattle.forms.specs.Terms.{In, Terms, Ascending, Apart}
use Rattle.forms.proofs.Entered.{in_at}
use Rattle.forms.proofs.Listed.{in_every}
use Rattle.stored.specs.Packing.{IsBits, field_bit, spelled, bit_at, packed}
use Rattle.stored.specs.Layout.{term_start, bytes_for, stored_bit, stored, version_in, count_in, term_in, terms_in, filling_in, ascends, none_inside, accepted, checked, loaded}
use Rattle.stored.proofs.Spelling.{push_at, spelled_bit, field_spelled, spelled_same, zero_bit, at_bits, packed_length, packed_at, packed_bit, byte_spelled}

-- ---- the bits of a stored form
module _ (w v : ℕ) (f : List ℕ) where
  pub stored_bits : IsBits (stored_bit w v f)
  stored_bits i = grind (arith, nat_tests)

  pub version_bit : (i : ℕ) → i < 4 → stored_bit w v f i ≡ field_bit 4 v i
  version_bit i l = grind (arith, nat_tests)

  pub count_bit : (i : ℕ) → 4 ≤ i → i < 4 + w → stored_bit w v f i ≡ field_bit w (length f - 1) (i - 4)
  count_bit i l m = grind (arith, nat_tests)

  pub late_bit : (i : ℕ) → 4 + w ≤ i → stored_bit w v f i ≡ field_bit 63 (get_or f ((i - (4 + w)) / 63) 0) ((i - (4 + w)) % 63)
  late_bit i l = grind (arith, nat_tests)

  pub term_bit : (k c : ℕ) → c < 63 → stored_bit w v f (term_start w k + c) ≡ field_bit 63 (get_or f k 0) c
  term_bit k c l =
      let d : (term_start w k + c - (4 + w)) / 63 ≡ k = omega arith in
      let r : (term_start w k + c - (4 + w)) % 63 ≡ c = omega arith in
      late_bit (term_start w k + c) (omega arith) ∙ ap₂ (λ (x y : ℕ). field_bit 63 (get_or f x 0) y) d r

  pub fill_bit : (i : ℕ) → term_start w (length f) ≤ i → stored_bit w v f i ≡ 0
  fill_bit i l =
      late_bit i (omega arith)
      ∙ ap (λ (y : ℕ). field_bit 63 y ((i - (4 + w)) % 63)) (get_or_past f ((i - (4 + w)) / 63) 0 (omega arith))
      ∙ zero_bit 63 ((i - (4 + w)) % 63)

  pub stored_length : length (stored w v f) ≡ bytes_for w (length f)
  unfolding stored
  stored_length = packed_length (stored_bit w v f) (bytes_for w (length f))

  pub stored_bit_lem : (i : ℕ) → i < 8 * bytes_for w (length f) → bit_at (stored w v f) i ≡ stored_bit w v f i
  unfolding stored
  stored_bit_lem i l = packed_bit (stored_bit w v f) stored_bits (bytes_for w (length f)) i l

-- ---- the tests
pub ascends_true : (b : ℕ) (f : List ℕ) → ((u : ℕ) → In u f → b < u) → Ascending f → ascends b f ≡ true
ascends_true b [] h a = refl
ascends_true b (t ∷ f) h a = and_from (ltb b t) (ascends t f) (lt-ltb b t (h t (inl refl))) (ascends_true t f a.0 a.1)

pub apart_true : (f : List ℕ) → Apart f → none_inside f ≡ true
apart_true f a = in_every (λ t. every (λ u. not (sub t u) || eqb t u) f) f (λ t m. in_every (λ u. not (sub t u) || eqb t u) f (λ u n. go t u m n))
  where
    go : (t u : ℕ) → In t f → In u f → (not (sub t u) || eqb t u) ≡ true
    go t u m n = elim (cases_eq (bit_and t u) t) [
      | inl s ↦ or_right (not (sub t u)) (eqb t u) (eq-eqb t u (a t u m n s))
      | inr k ↦ or_left (not (sub t u)) (eqb t u) (ap not (ne_eqb (bit_and t u) t k))
    ]

pub checked_accepts : (f : List ℕ) → Terms f → Ascending f → Apart f → checked f ≡ accepted f
checked_accepts f w a p =
    let e = ascends_true 0 f (λ u m. (w u m).0) a in let d = apart_true f p in grind (arith, nat_tests)

-- bytes that pass the tests of the layout
loaded_checks : (w v : ℕ) (bytes : List ℕ) (n : ℕ) (f : List ℕ) → 2 ≤ length bytes → version_in bytes ≡ v → count_in w bytes ≡ n → length bytes ≡ bytes_for w n
    → filling_in w bytes n ≡ 0 → terms_in w bytes n ≡ f → loaded w v bytes ≡ checked f
unfolding loaded
loaded_checks w v bytes n f l e c s z t = grind (arith, nat_tests)

-- ---- loading undoes storing
module _ (w v : ℕ) (f : List ℕ) (lv : v < 2 ^ 4) (some : 0 < length f) (room : length f ≤ 2 ^ w) (sets : Terms f) where
  abbrev bytes : List ℕ
  bytes = stored w v f

  back_version : version_in bytes ≡ v
  back_version = field_spelled (bit_at bytes) 0 4 v lv (λ k l. stored_bit_lem w v f (0 + k) (omega arith) ∙ version_bit w v f (0 + k) (omega arith) ∙ ap (field_bit 4 v) (let e : 0 + k ≡ k = omega arith in e))

  back_count : count_in w bytes ≡ length f
  back_count =
      let p : spelled (bit_at bytes) 4 w ≡ length f - 1 =
      field_spelled (bit_at bytes) 4 w (length f - 1) (omega arith) (λ k l.
      stored_bit_lem w v f (4 + k) (omega arith) ∙ count_bit w v f (4 + k) (omega arith) (omega arith) ∙ ap (field_bit w (length f - 1)) (let e : 4 + k - 4 ≡ k = omega arith in e)) in
      omega arith

  back_filling : filling_in w bytes (length f) ≡ 0
  back_filling = field_spelled (bit_at bytes) (term_start w (length f)) (8 * length bytes - term_start w (length f)) 0 (pow_pos (8 * length bytes - term_start w (length f))) (λ k l.
      let m : term_start w (length f) + k < 8 * bytes_for w (length f) = omega (arith, stored_length w v f, l) in
      stored_bit_lem w v f (term_start w (length f) + k) m ∙ fill_bit w v f (term_start w (length f) + k) (omega arith)
      ∙ sym (zero_bit (8 * length bytes - term_start w (length f)) k))

  back_term : (k : ℕ) → k < length f → term_in w bytes k ≡ get_or f k 0
  back_term k l = field_spelled (bit_at bytes) (term_start w k) 63 (get_or f k 0) (sets (get_or f k 0) (in_at f k l)).1 (λ c m.
      stored_bit_lem w v f (term_start w k + c) (omega arith) ∙ term_bit w v f k c m)

  back_terms : (n : ℕ) → n ≤ length f → terms_in w bytes n ≡ take n f
  back_terms zero l = refl
  back_terms (suc n) l =
      ap₂ (λ (xs : List ℕ) (t : ℕ). xs ++ t ∷ []) (back_terms n (omega arith)) (back_term n (omega arith))
      ∙ sym (ap (λ (k : ℕ). take k f) (sym (add-one n)) ∙ take_more f n 0 (omega arith))

  pub loaded_stored : Ascending f → Apart f → loaded w v bytes ≡ accepted f
  loaded_stored a p =
      loaded_checks w v bytes (length f) f (omega (arith, stored_length w v f)) back_version back_count (stored_length w v f) back_filling
      (back_terms (length f) (omega arith) ∙ take_all (length f) f (omega arith))
      ∙ checked_accepts f sets a p

-- ---- storing undoes loading
-- what accepted bytes passed
pub record Passed (w v : ℕ) (bytes f : List ℕ) : Type 0 where
  pub version : version_in bytes ≡ v
  pub size : length bytes ≡ bytes_for w (count_in w bytes)
  pub filling : filling_in w bytes (count_in w bytes) ≡ 0
  pub terms : terms_in w bytes (count_in w bytes) ≡ f

pub accepted_passed : (w v : ℕ) (bytes f : List ℕ) → loaded w v bytes ≡ accepted f → Passed w v bytes f
unfolding loaded
accepted_passed w v bytes f e = record {
  version = grind (arith, nat_tests);
  size = grind (arith, nat_tests);
  filling = grind (arith, nat_tests);
  terms = grind (arith, nat_tests);
}

pub terms_length : (w : ℕ) (bytes : List ℕ) (n : ℕ) → length (terms_in w bytes n) ≡ n
terms_length w bytes zero = refl
terms_length w bytes (suc n) = omega (arith, length_push (terms_in w bytes n) (term_in w bytes n), terms_length w bytes n)

pub terms_at : (w : ℕ) (bytes : List ℕ) (n k : ℕ) → k < n → get_or (terms_in w bytes n) k 0 ≡ term_in w bytes k
terms_at w bytes zero k l = absurd (omega arith)
terms_at w bytes (suc n) k l = push_at (terms_in w bytes n) n (term_in w bytes) (terms_length w bytes n) k l (terms_at w bytes n k)

module _ (w v : ℕ) (bytes f : List ℕ) (small : (j : ℕ) → get_or bytes j 0 < 2 ^ 8) (e : loaded w v bytes ≡ accepted f) where
  p : Passed w v bytes f
  p = accepted_passed w v bytes f e

  abbrev n : ℕ
  n = count_in w bytes

  same_count : length f ≡ n
  same_count = ap length (sym p.terms) ∙ terms_length w bytes n

  same_bit : (i : ℕ) → i < 8 * length bytes → stored_bit w v f i ≡ bit_at bytes i
  same_bit i l = go (cases_lt i 4) (cases_lt i (4 + w)) (cases_lt i (term_start w n))
    where
      go : (i < 4) ⊎ (4 ≤ i) → (i < 4 + w) ⊎ (4 + w ≤ i) → (i < term_start w n) ⊎ (term_start w n ≤ i) → stored_bit w v f i ≡ bit_at bytes i
      go (inl a) b c =
          version_bit w v f i a ∙ ap (λ (y : ℕ). field_bit 4 y i) (sym p.version) ∙ spelled_bit (bit_at bytes) (at_bits bytes) 0 4 i a
          ∙ ap (bit_at bytes) (let q : 0 + i ≡ i = omega arith in q)
      go (inr a) (inl b) c =
          let d : length f - 1 ≡ spelled (bit_at bytes) 4 w = omega (arith, same_count) in
          count_bit w v f i a b ∙ ap (λ (y : ℕ). field_bit w y (i - 4)) d ∙ spelled_bit (bit_at bytes) (at_bits bytes) 4 w (i - 4) (omega arith)
          ∙ ap (bit_at bytes) (let q : 4 + (i - 4) ≡ i = omega arith in q)
      go (inr a) (inr b) (inl c) =
          let k : ℕ = (i - (4 + w)) / 63 in
          let m : k < n = omega arith in
          let t : get_or f k 0 ≡ term_in w bytes k = ap (λ (y : List ℕ). get_or y k 0) (sym p.terms) ∙ terms_at w bytes n k m in
          late_bit w v f i b ∙ ap (λ (y : ℕ). field_bit 63 y ((i - (4 + w)) % 63)) t
          ∙ spelled_bit (bit_at bytes) (at_bits bytes) (term_start w k) 63 ((i - (4 + w)) % 63) (omega arith)
          ∙ ap (bit_at bytes) (let q : term_start w k + (i - (4 + w)) % 63 ≡ i = omega arith in q)
      go (inr a) (inr b) (inr c) =
          let r : ℕ = 8 * length bytes - term_start w n in
          let z : bit_at bytes (term_start w n + (i - term_start w n)) ≡ 0 =
          sym (spelled_bit (bit_at bytes) (at_bits bytes) (term_start w n) r (i - term_start w n) (omega arith))
          ∙ ap (λ (y : ℕ). field_bit r y (i - term_start w n)) p.filling ∙ zero_bit r (i - term_start w n) in
          fill_bit w v f i (omega (arith, same_count)) ∙ sym z ∙ ap (bit_at bytes) (let q : term_start w n + (i - term_start w n) ≡ i = omega arith in q)

  same_size : length (stored w v f) ≡ length bytes
  same_size = stored_length w v f ∙ ap (bytes_for w) same_count ∙ sym p.size

  pub stores_back : stored w v f ≡ bytes
  unfolding stored
  stores_back = ext_get_or 0 (packed (stored_bit w v f) (bytes_for w (length f))) bytes same_size (λ j l.
      let m : j < bytes_for w (length f) = omega (arith, packed_length (stored_bit w v f) (bytes_for w (length f))) in
      packed_at (stored_bit w v f) (bytes_for w (length f)) j m
      ∙ spelled_same (stored_bit w v f) (bit_at bytes) (8 * j) 8 (λ k h. same_bit (8 * j + k) (omega (arith, same_size, packed_length (stored_bit w v f) (bytes_for w (length f)))))
      ∙ byte_spelled bytes j (small j))
