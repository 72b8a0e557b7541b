-- Terms moved to a cell.
use Rattle.std.proofs.Common.{◌≡◌, ℕ, zero, suc, ◌+◌, ◌-◌, ◌*◌, ◌/◌, ◌%◌, ◌^◌, ◌<◌, ◌≤◌, true, ◌⊎◌, List, [], ◌∷◌, map, ℤ, ◌+ℤ◌, sym, refl, ap, ◌∙◌, subst, ap₂, inl, inr, mul_assoc, mul_comm, zero-mul, arith, pow_mono}
use Rattle.std.proofs.lemmas.Nat.{pow_pos, pow-add, shl-shr, shr-shr, shr_le, shr_split, mod-pow-add, mod_below, shl_below, shr_below, mul-le}
use Rattle.std.proofs.lemmas.Bool.{cases_order}
use lib.IntN.{+ℤ_assoc}
use Rattle.forms.specs.Window.{row_of, column_of, stays, added}
use Rattle.forms.specs.Sets.{bit, Has, Sub, cells, set_of, movable, moved}
use Rattle.forms.specs.Terms.{In, Inside, Terms, Uses, used}
use Rattle.forms.specs.Places.{TrueAt}
use Rattle.forms.proofs.Bits.{bit_lt, ext, bridge, sub_bits, sub_anti, lt_two_pow}
use Rattle.forms.proofs.Forms.{Sound}
use Rattle.forms.proofs.Steps.{Stays, stays_to, stays_low, stays_high, added_row, added_column, added_is}
use Rattle.forms.proofs.Listed.{in_cells, cells_in, set_has, has_set, set_small, every_in, in_every, uses_used, used_uses}

-- the term t moved so that the middle cell, 31, goes to the cell c, as the machine does
abbrev pub slid : ℕ → ℕ → ℕ
slid c t = t * 2 ^ 31 / 2 ^ c

-- no cell of the term, or of any term, leaves the numbers
abbrev pub Whole : ℕ → ℕ → Type 0
Whole c t = Inside t (λ k. (31 ≤ c + k) × (c + k < 94))

abbrev pub Moves : ℕ → List ℕ → Type 0
Moves c f = (t : ℕ) → In t f → Whole c t

pub in_map : (k : ℕ → ℕ) (f : List ℕ) (u : ℕ) → In u (map k f) → (t : ℕ) × In t f × (u ≡ k t)
in_map k [] u m = absurd m
in_map k (t ∷ f) u (inl e) = (t, inl refl, e)
in_map k (t ∷ f) u (inr m) = let (v, n, e) = in_map k f u m in (v, inr n, e)

pub map_in : (k : ℕ → ℕ) (f : List ℕ) (t : ℕ) → In t f → In (k t) (map k f)
map_in k [] t m = absurd m
map_in k (u ∷ f) t (inl e) = inl (ap k e)
map_in k (u ∷ f) t (inr m) = inr (map_in k f t m)

at_least : (n k : ℕ) → (n ≤ k) ⊎ (k < n)
at_least n k = elim (cases_order k n) [ inl e ↦ inl (omega arith) | inr q ↦ elim q [ inl a ↦ inr a | inr b ↦ inl (omega arith) ] ]

bit_none : (k : ℕ) → bit 0 k ≡ 0
bit_none k = omega (arith, shr_le 0 k)

high_none : (t k : ℕ) → t < 2 ^ 63 → 63 ≤ k → bit t k ≡ 0
high_none t k l h =
    let p : 2 ^ 63 ≤ 2 ^ k = pow_mono h in
    let z : t < 2 ^ (0 + k) = subst (λ (j : ℕ). t < 2 ^ j) (let q : k ≡ 0 + k = omega arith in q) (omega arith) in
    omega (arith, shr_below t 0 k z)

-- no bit from m on
below_bits : (m t : ℕ) → ((k : ℕ) → m ≤ k → bit t k ≡ 1 → ⊥) → t < 2 ^ m
below_bits m t h =
    let z : t / 2 ^ m ≡ 0 = ext t (t / 2 ^ m) 0 (omega (arith, shr_le t m, lt_two_pow t)) (pow_pos t) none in
    omega (arith, ap (λ (y : ℕ). y * 2 ^ m) z, shr_split t m, mod_below t (2 ^ m) (pow_pos m))
  where
    none : (j : ℕ) → j < t → bit (t / 2 ^ m) j ≡ bit 0 j
    none j l =
        let n : bit t (m + j) ≡ 1 → ⊥ = h (m + j) (omega arith) in
        omega (arith, ap (λ (y : ℕ). y % 2) (shr-shr t m j), bit_none j, bit_lt t (m + j))

-- no bit before m
above_bits : (m t : ℕ) → ((k : ℕ) → k < m → bit t k ≡ 1 → ⊥) → t % 2 ^ m ≡ 0
above_bits zero t h = omega arith
above_bits (suc m) t h =
    let r : t % 2 ^ m ≡ 0 = above_bits m t (λ k l. h k (omega arith)) in
    let n : bit t m ≡ 1 → ⊥ = h m (omega arith) in
    let b : bit t m ≡ 0 = omega (arith, bit_lt t m) in
    let e : t % 2 ^ (1 + m) ≡ bit t m * 2 ^ m + t % 2 ^ m = mod-pow-add t 1 m in
    let z : bit t m * 2 ^ m ≡ 0 = ap (λ (y : ℕ). y * 2 ^ m) b ∙ zero-mul (2 ^ m) in
    subst (λ (j : ℕ). t % 2 ^ j ≡ 0) (let q : 1 + m ≡ suc m = omega arith in q) (omega arith)

-- moving to the left and to the right, as the machine does
pub slid_left : (c t : ℕ) → c ≤ 31 → slid c t ≡ t * 2 ^ (31 - c)
slid_left c t l =
    let e : 31 - c + c ≡ 31 = omega arith in
    ap (λ (j : ℕ). t * 2 ^ j / 2 ^ c) (sym e)
    ∙ ap (λ (y : ℕ). t * y / 2 ^ c) (pow-add 2 (31 - c) c)
    ∙ ap (λ (y : ℕ). y / 2 ^ c) (sym (mul_assoc t (2 ^ (31 - c)) (2 ^ c)))
    ∙ shl-shr (t * 2 ^ (31 - c)) c

pub slid_right : (c t : ℕ) → 31 ≤ c → slid c t ≡ t / 2 ^ (c - 31)
slid_right c t l =
    let e : 31 + (c - 31) ≡ c = omega arith in
    ap (λ (j : ℕ). t * 2 ^ 31 / 2 ^ j) (sym e)
    ∙ sym (shr-shr (t * 2 ^ 31) 31 (c - 31))
    ∙ ap (λ (y : ℕ). y / 2 ^ (c - 31)) (shl-shr t 31)

-- the bits of what was slid
pub bit_slid : (c t j : ℕ) → 31 ≤ c + j → bit (slid c t) j ≡ bit t (c + j - 31)
bit_slid c t j l = ap (λ (y : ℕ). y % 2) (shr-shr (t * 2 ^ 31) c j ∙ slid_right (c + j) t l)

pub bit_slid_none : (c t j : ℕ) → c + j < 31 → bit (slid c t) j ≡ 0
bit_slid_none c t j l =
    let e : 1 + (31 - (c + j) - 1) ≡ 31 - (c + j) = omega arith in
    let p : 2 ^ (31 - (c + j)) ≡ 2 * 2 ^ (31 - (c + j) - 1) = ap (λ (k : ℕ). 2 ^ k) (sym e) ∙ pow-add 2 1 (31 - (c + j) - 1) in
    ap (λ (y : ℕ). y % 2) (shr-shr (t * 2 ^ 31) c j ∙ slid_left (c + j) t (omega arith) ∙ ap (λ (y : ℕ). t * y) p
    ∙ sym (mul_assoc t 2 (2 ^ (31 - (c + j) - 1))) ∙ ap (λ (y : ℕ). y * 2 ^ (31 - (c + j) - 1)) (mul_comm t 2) ∙ mul_assoc 2 t (2 ^ (31 - (c + j) - 1)))
    ∙ omega arith

pub slid_has : (c t m : ℕ) → t < 2 ^ 63 → m < 63 → Has (slid c t) m → (k : ℕ) × (k < 63) × Has t k × (31 ≤ c + k) × (c + k - 31 ≡ m)
slid_has c t m s l h = elim (at_least 31 (c + (62 - m))) [
  | inr q ↦ absurd (omega (arith, h, bit_slid_none c t (62 - m) q))
  | inl q ↦ go q (at_least 63 (c + (62 - m) - 31))
]
  where
    go : 31 ≤ c + (62 - m) → (63 ≤ c + (62 - m) - 31) ⊎ (c + (62 - m) - 31 < 63) → (k : ℕ) × (k < 63) × Has t k × (31 ≤ c + k) × (c + k - 31 ≡ m)
    go q (inl a) = absurd (omega (arith, h, bit_slid c t (62 - m) q, high_none t (c + (62 - m) - 31) s a))
    go q (inr b) =
        let e : c + (62 - m) - 31 ≡ 62 - (m + 31 - c) = omega arith in (
          m + 31 - c,
          omega arith,
          sym (ap (λ (j : ℕ). bit t j) e) ∙ sym (bit_slid c t (62 - m) q) ∙ h,
          omega arith,
          omega arith,
        )

pub has_slid : (c t k : ℕ) → k < 63 → 31 ≤ c + k → c + k < 94 → Has t k → Has (slid c t) (c + k - 31)
has_slid c t k l a b h =
    let e : c + (62 - (c + k - 31)) - 31 ≡ 62 - k = omega arith in
    bit_slid c t (62 - (c + k - 31)) (omega arith) ∙ ap (λ (j : ℕ). bit t j) e ∙ h

-- nothing is lost: the number slid back is the number
module _ (c t : ℕ) (l : c < 63) (s : t < 2 ^ 63) (w : Whole c t) where
  back : (k : ℕ) → k < 63 → bit t k ≡ 1 → Has t (62 - k)
  back k m h = subst (λ (j : ℕ). bit t j ≡ 1) (let q : k ≡ 62 - (62 - k) = omega arith in q) h

  left_small : c ≤ 31 → t < 2 ^ (32 + c)
  left_small m = below_bits (32 + c) t (λ k g h. elim (at_least 63 k)
      [ inl a ↦ omega (arith, high_none t k s a) | inr b ↦ omega (arith, (w (62 - k) (omega arith) (back k b h)).0) ])

  right_none : 31 ≤ c → t % 2 ^ (c - 31) ≡ 0
  right_none m = above_bits (c - 31) t (λ k g h. omega (arith, (w (62 - k) (omega arith) (back k (omega arith) h)).1))

  pub slid_small : slid c t < 2 ^ 63
  slid_small = elim (at_least 31 c) [
    | inl a ↦ omega (arith, slid_right c t a, shr_le t (c - 31))
    | inr b ↦ (let e : 32 + c + (31 - c) ≡ 63 = omega arith in
        subst (λ (y : ℕ). y < 2 ^ 63) (sym (slid_left c t (omega arith)))
        (subst (λ (j : ℕ). t * 2 ^ (31 - c) < 2 ^ j) e (shl_below t (32 + c) (31 - c) (left_small (omega arith)))))
  ]

  pub slid_back : slid c t * 2 ^ c ≡ t * 2 ^ 31
  slid_back = elim (at_least 31 c)
      [ inl a ↦ right a | inr b ↦ left (omega arith) ]
    where
      left : c ≤ 31 → slid c t * 2 ^ c ≡ t * 2 ^ 31
      left m =
          let e : 31 - c + c ≡ 31 = omega arith in
          ap (λ (y : ℕ). y * 2 ^ c) (slid_left c t m) ∙ mul_assoc t (2 ^ (31 - c)) (2 ^ c)
          ∙ ap (λ (y : ℕ). t * y) (sym (pow-add 2 (31 - c) c)) ∙ ap (λ (j : ℕ). t * 2 ^ j) e

      right : 31 ≤ c → slid c t * 2 ^ c ≡ t * 2 ^ 31
      right m =
          let e : c - 31 + 31 ≡ c = omega arith in
          let q : t / 2 ^ (c - 31) * 2 ^ (c - 31) ≡ t = omega (arith, shr_split t (c - 31), right_none m) in
          ap (λ (y : ℕ). y * 2 ^ c) (slid_right c t m) ∙ ap (λ (j : ℕ). t / 2 ^ (c - 31) * 2 ^ j) (sym e)
          ∙ ap (λ (y : ℕ). t / 2 ^ (c - 31) * y) (pow-add 2 (c - 31) 31)
          ∙ sym (mul_assoc (t / 2 ^ (c - 31)) (2 ^ (c - 31)) (2 ^ 31)) ∙ ap (λ (y : ℕ). y * 2 ^ 31) q

  pub slid_some : 0 < t → 0 < slid c t
  slid_some p = elim (at_least 1 (slid c t)) [
    | inl a ↦ a
    | inr b ↦
        absurd (let z : slid c t ≡ 0 = omega arith in omega (arith, ap (λ (y : ℕ). y * 2 ^ c) z, slid_back))
  ]

  pub slid_inside : (P : ℕ → Type 0) → Inside (slid c t) P → Inside t (λ k. P (c + k - 31))
  slid_inside P h k m i = h (c + k - 31) (omega (arith, (w k m i).1)) (has_slid c t k m (w k m i).0 (w k m i).1 i)

  pub inside_slid : (P : ℕ → Type 0) → Inside t (λ k. P (c + k - 31)) → Inside (slid c t) P
  inside_slid P h m k i = let (j, a, b, d, e) = slid_has c t m s k i in subst P e (h j a b)

pub slid_less : (c t u : ℕ) → c < 63 → t < 2 ^ 63 → u < 2 ^ 63 → Whole c t → Whole c u → t < u → slid c t < slid c u
slid_less c t u l a b w v p = elim (at_least (slid c u) (slid c t)) [
  | inr q ↦ q
  | inl q ↦ absurd (omega (arith, slid_back c t l a w, slid_back c u l b v, mul-le (slid c u) (2 ^ c) (slid c t) (2 ^ c) q (omega arith)))
]

pub slid_sub : (c t u : ℕ) → t < 2 ^ 63 → u < 2 ^ 63 → Whole c t → Sub (slid c t) (slid c u) → Sub t u
slid_sub c t u a b w p = (bridge t u a).1 (λ k l h.
    let (j, m, i, d, e) = slid_has c u (c + k - 31) b (omega (arith, (w k l h).1)) (sub_bits (slid c t) (slid c u) p (62 - (c + k - 31)) (has_slid c t k l (w k l h).0 (w k l h).1 h)) in
    subst (λ (y : ℕ). Has u y) (let q : j ≡ k = omega (arith, e, d, (w k l h).0) in q) i)

-- a form that is slid whole is a form
module _ (c : ℕ) (l : c < 63) where
  pub slid_terms : (f : List ℕ) → Terms f → Moves c f → Terms (map (λ t. slid c t) f)
  slid_terms f s w u m = let (t, n, e) = in_map (λ t. slid c t) f u m in
      (subst (λ (y : ℕ). 0 < y) (sym e) (slid_some c t l (s t n).1 (w t n) (s t n).0), subst (λ (y : ℕ). y < 2 ^ 63) (sym e) (slid_small c t l (s t n).1 (w t n)))

  pub slid_form : (f : List ℕ) → Sound f → Terms f → Moves c f → Sound (map (λ t. slid c t) f)
  slid_form [] o s w = tt
  slid_form (t ∷ f) o s w = (first, slid_form f o.1 (λ u m. s u (inr m)) (λ u m. w u (inr m)))
    where
      first : (u : ℕ) → In u (map (λ t. slid c t) f) → (slid c t < u) × (Sub (slid c t) u → ⊥)
      first u m = let (v, n, e) = in_map (λ t. slid c t) f u m in (
        subst (λ (y : ℕ). slid c t < y) (sym e) (slid_less c t v l (s t (inl refl)).1 (s v (inr n)).1 (w t (inl refl)) (w v (inr n)) (o.0 v n).0),
        λ p. (o.0 v n).1 (slid_sub c t v (s t (inl refl)).1 (s v (inr n)).1 (w t (inl refl)) (subst (λ (y : ℕ). Sub (slid c t) y) e p)),
      )

-- ---- moving by rows and by columns is what the machine does, where all cells stay in the window
module _ (c t : ℕ) (l : c < 63) (small : t < 2 ^ 63) (st : Inside t (λ k. Stays c k)) where
  pub stays_whole : Whole c t
  stays_whole k m h = (stays_low c k (st k m h), stays_high c k (st k m h))

  low : (d : ℕ) → In d (map (added c) (cells t)) → d < 63
  low d m =
      let (k, n, e) = in_map (added c) (cells t) d m in
      let s = st k (in_cells t k n).0 (in_cells t k n).1 in
      omega (arith, e, added_is c k s, stays_high c k s)

  pub moved_slid : moved c t ≡ slid c t
  unfolding moved
  moved_slid = sub_anti (set_of (map (added c) (cells t))) (slid c t)
      ((bridge (set_of (map (added c) (cells t))) (slid c t) (set_small (map (added c) (cells t)))).1 to)
      ((bridge (slid c t) (set_of (map (added c) (cells t))) (slid_small c t l small stays_whole)).1 from)
    where
      to : (m : ℕ) → m < 63 → Has (set_of (map (added c) (cells t))) m → Has (slid c t) m
      to m a h =
          let (k, n, e) = in_map (added c) (cells t) m (set_has (map (added c) (cells t)) low m a h) in
          let (b, i) = in_cells t k n in
          let s = st k b i in
          subst (λ (y : ℕ). Has (slid c t) y) (sym (e ∙ added_is c k s)) (has_slid c t k b (stays_low c k s) (stays_high c k s) i)

      from : (m : ℕ) → m < 63 → Has (slid c t) m → Has (set_of (map (added c) (cells t))) m
      from m a h =
          let (k, b, i, d, e) = slid_has c t m small a h in
          let s = st k b i in
          has_set (map (added c) (cells t)) m
          (subst (λ (y : ℕ). In y (map (added c) (cells t))) (added_is c k s ∙ e) (map_in (added c) (cells t) k (cells_in t k b i)))

-- each cell of each term stays in the window
abbrev pub Fits : ℕ → List ℕ → Type 0
Fits c f = (t : ℕ) → In t f → Inside t (λ k. Stays c k)

pub movable_fits : (c : ℕ) (f : List ℕ) → movable c (used f) ≡ true → Fits c f
movable_fits c f e t m k l h = stays_to c k (every_in (stays c) (cells (used f)) e k (cells_in (used f) k l (uses_used f k (t, m, h))))

map_same : (a b : ℕ → ℕ) (f : List ℕ) → ((t : ℕ) → In t f → a t ≡ b t) → map a f ≡ map b f
map_same a b [] h = refl
map_same a b (t ∷ f) h = ap₂ (λ (x : ℕ) (y : List ℕ). x ∷ y) (h t (inl refl)) (map_same a b f (λ u m. h u (inr m)))

module _ (c : ℕ) (f : List ℕ) (l : c < 63) (w : Terms f) (s : Fits c f) where
  fits_moves : Moves c f
  fits_moves t m = stays_whole c t l (w t m).1 (s t m)

  pub moved_same : map (λ t. slid c t) f ≡ map (moved c) f
  moved_same = map_same (λ t. slid c t) (moved c) f (λ t m. sym (moved_slid c t l (w t m).1 (s t m)))

  pub moved_terms : Terms (map (moved c) f)
  moved_terms = subst Terms moved_same (slid_terms c l f w fits_moves)

  pub moved_sound : Sound f → Sound (map (moved c) f)
  moved_sound o = subst Sound moved_same (slid_form c l f o w fits_moves)

  -- where a moved form is true
  module _ (P : ℤ → ℤ → Type 0) (x y : ℤ) where
    there : (k : ℕ) → Stays c k → (P (x +ℤ row_of (c + k - 31)) (y +ℤ column_of (c + k - 31)) → P ((x +ℤ row_of c) +ℤ row_of k) ((y +ℤ column_of c) +ℤ column_of k))
        × (P ((x +ℤ row_of c) +ℤ row_of k) ((y +ℤ column_of c) +ℤ column_of k) → P (x +ℤ row_of (c + k - 31)) (y +ℤ column_of (c + k - 31)))
    there k q =
        let a : x +ℤ row_of (c + k - 31) ≡ (x +ℤ row_of c) +ℤ row_of k = ap (λ (z : ℤ). x +ℤ z) (added_row c k q) ∙ sym (+ℤ_assoc x (row_of c) (row_of k)) in
        let b : y +ℤ column_of (c + k - 31) ≡ (y +ℤ column_of c) +ℤ column_of k = ap (λ (z : ℤ). y +ℤ z) (added_column c k q) ∙ sym (+ℤ_assoc y (column_of c) (column_of k)) in (
          (λ h. subst (λ (z : ℤ). P z ((y +ℤ column_of c) +ℤ column_of k)) a (subst (λ (z : ℤ). P (x +ℤ row_of (c + k - 31)) z) b h)),
          (λ h. subst (λ (z : ℤ). P (x +ℤ row_of (c + k - 31)) z) (sym b) (subst (λ (z : ℤ). P z ((y +ℤ column_of c) +ℤ column_of k)) (sym a) h)),
        )

    pub moved_to : TrueAt (map (moved c) f) P x y → TrueAt f P (x +ℤ row_of c) (y +ℤ column_of c)
    moved_to h =
        let (t, n, e) = in_map (moved c) f h.0 h.1 in
        let i : Inside (slid c t) (λ k. P (x +ℤ row_of k) (y +ℤ column_of k)) =
        subst (λ (z : ℕ). Inside z (λ k. P (x +ℤ row_of k) (y +ℤ column_of k))) (e ∙ moved_slid c t l (w t n).1 (s t n)) h.2 in
        (t, n, λ k m q. (there k (s t n k m q)).0 (slid_inside c t l (w t n).1 (fits_moves t n) (λ k. P (x +ℤ row_of k) (y +ℤ column_of k)) i k m q))

    pub moved_from : TrueAt f P (x +ℤ row_of c) (y +ℤ column_of c) → TrueAt (map (moved c) f) P x y
    moved_from h =
        let t : ℕ = h.0 in
        let n = h.1 in (
          moved c t,
          map_in (moved c) f t n,
          subst (λ (z : ℕ). Inside z (λ k. P (x +ℤ row_of k) (y +ℤ column_of k))) (sym (moved_slid c t l (w t n).1 (s t n)))
              (inside_slid c t l (w t n).1 (fits_moves t n) (λ k. P (x +ℤ row_of k) (y +ℤ column_of k)) (λ k m q. (there k (s t n k m q)).1 (h.2 k m q))),
        )

pub movable_stays : (c t : ℕ) → movable c t ≡ true → Inside t (λ k. Stays c k)
movable_stays c t e k l h = stays_to c k (every_in (stays c) (cells t) e k (cells_in t k l h))

pub fits_movable : (c : ℕ) (f : List ℕ) → movable c (used f) ≡ true → (t : ℕ) → In t f → movable c t ≡ true
fits_movable c f e t m = in_every (stays c) (cells t) (λ k n.
    every_in (stays c) (cells (used f)) e k (cells_in (used f) k (in_cells t k n).0 (uses_used f k (t, m, (in_cells t k n).1))))

-- the test of the used cells is that of each cell that is used
pub window_to : (c : ℕ) (f : List ℕ) → movable c (used f) ≡ true → (k : ℕ) → k < 63 → Uses f k → stays c k ≡ true
window_to c f e k l u = every_in (stays c) (cells (used f)) e k (cells_in (used f) k l (uses_used f k u))

pub window_from : (c : ℕ) (f : List ℕ) → ((k : ℕ) → k < 63 → Uses f k → stays c k ≡ true) → movable c (used f) ≡ true
window_from c f h = in_every (stays c) (cells (used f)) (λ k n. h k (in_cells (used f) k n).0 (used_uses f k (in_cells (used f) k n).1))
