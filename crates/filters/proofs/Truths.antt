-- Where the forms of the basic filters are true, that their terms are terms, and that entering them is never declined.
use Rattle.std.proofs.Common.{◌≡◌, ℕ, zero, suc, ◌+◌, ◌-◌, ◌*◌, ◌/◌, ◌%◌, ◌^◌, ◌<◌, ◌≤◌, Bool, true, false, cond, ◌⊎◌, List, [], ◌∷◌, map, length, pos, ◌-ℤ◌, neg_ℤ, sym, refl, ap, ◌∙◌, subst, inl, inr, mul-le-mul, arith}
use lib.Bits.{bit_or}
use Rattle.std.proofs.lemmas.Nat.{shr_le}
use Rattle.std.proofs.lemmas.List.{length-append, length-map}
use Rattle.std.proofs.lemmas.Int.{ints}
use Rattle.std.proofs.lemmas.Bool.{cond-true}
use Rattle.forms.specs.Window.{row_of, column_of}
use Rattle.forms.specs.Sets.{Has, single, sub, set_of}
use Rattle.forms.specs.Terms.{most_terms, In, Inside, Terms, TrueOn}
use Rattle.forms.specs.Entering.{Made, made, bounded, covers, without, put, enter}
use Rattle.forms.proofs.Bits.{has_single, single_has, single_small, single_some, or_small, or_some}
use Rattle.forms.proofs.Entered.{some, enter_terms, length_put, bounded_made}
use Rattle.forms.proofs.Listed.{set_has, has_set, set_small}
use Rattle.forms.proofs.Moving.{in_map, map_in}
use Rattle.joins.specs.Joins.{after, enter_all}
use Rattle.joins.specs.Outcomes.{On}
use Rattle.joins.proofs.Entries.{between, bounded_is, all_to, all_from, in_append, append_in, or_inside, inside_or}
use Rattle.filters.specs.Boxes.{Sides, up_from, box_cell, box}
use Rattle.filters.specs.Basic.{opposite, erosion_of, dilation_of, Weighed, reaching, weight_of}
use Rattle.filters.specs.Truths.{counted, Cells}
use Rattle.filters.proofs.Spans.{cell_number, number_below, in_box, box_in, length_up, opposite_is}
use Rattle.filters.proofs.Unions.{window, from_window}

-- ---- the box
pub box_length : (h w : ℕ) → length (box h w) ≡ h * w
unfolding box
box_length h w = length-map (up_from 0 (h * w)) (box_cell h w) ∙ length_up 0 (h * w)

pub box_cells : (h w : ℕ) → Sides h w → (c : ℕ) → In c (box h w) → c < 63
box_cells h w s c m =
    let (i, l, e) = in_box h w c m in
    subst (λ (n : ℕ). n < 63) (sym (e ∙ cell_number h w s i)) (number_below h w s i l)

pub opposite_place : (c : ℕ) → c < 63 → (row_of (opposite c) ≡ neg_ℤ (row_of c)) × (column_of (opposite c) ≡ neg_ℤ (column_of c)) × (opposite c < 63)
opposite_place c l = (
  ap row_of (opposite_is c l) ∙ row,
  ap column_of (opposite_is c l) ∙ column,
  omega (arith, opposite_is c l),
)
  where
    row : row_of (62 - c) ≡ neg_ℤ (row_of c)
    row = let e : (62 - c) / 7 + c / 7 ≡ 8 = omega arith in go ((62 - c) / 7) (c / 7) e
      where
        go : (x y : ℕ) → x + y ≡ 8 → pos x -ℤ pos 4 ≡ neg_ℤ (pos y -ℤ pos 4)
        go x y e = omega (arith, ints)

    column : column_of (62 - c) ≡ neg_ℤ (column_of c)
    column = let e : (62 - c) % 7 + c % 7 ≡ 6 = omega arith in go ((62 - c) % 7) (c % 7) e
      where
        go : (x y : ℕ) → x + y ≡ 6 → pos x -ℤ pos 3 ≡ neg_ℤ (pos y -ℤ pos 3)
        go x y e = omega (arith, ints)

box_some : (h w : ℕ) → Sides h w → (c : ℕ) × In c (box h w)
box_some h w s = (_, box_in h w 0 (omega (arith, mul-le-mul s.some_rows s.some_columns)))

-- ---- the least
pub erosion_to : (P : ℕ → Type 0) (h w : ℕ) → Sides h w → TrueOn (erosion_of h w) P → (c : ℕ) → In c (box h w) → P c
erosion_to P h w s x c m = go x.1
  where
    go : In x.0 (erosion_of h w) → P c
    go (inl e) = x.2 c (box_cells h w s c m) (subst (λ (t : ℕ). Has t c) (sym e) (has_set (box h w) c m))
    go (inr n) = absurd n

pub erosion_from : (P : ℕ → Type 0) (h w : ℕ) → Sides h w → ((c : ℕ) → In c (box h w) → P c) → TrueOn (erosion_of h w) P
erosion_from P h w s x = (set_of (box h w), inl refl, λ c l k. x c (set_has (box h w) (box_cells h w s) c l k))

pub erosion_sets : (h w : ℕ) → Sides h w → Terms (erosion_of h w)
erosion_sets h w s t (inl e) = (
  let (c, m) = box_some h w s in above c (has_set (box h w) c m),
  subst (λ (y : ℕ). y < 2 ^ 63) (sym e) (set_small (box h w)),
)
  where
    above : (c : ℕ) → Has (set_of (box h w)) c → 0 < t
    above c k = omega (arith, e, k, shr_le (set_of (box h w)) (62 - c))
erosion_sets h w s t (inr m) = absurd m

-- ---- what is entered from nothing
all_terms : (ts f h : List ℕ) → enter_all ts f ≡ made h → Terms ts → Terms f → Terms h
all_terms [] f h e w v = subst Terms (let q : f ≡ h = cc in q) v
all_terms (t ∷ ts) f h e w v =
    let (g, m, r) = between (bounded (enter t f)) (λ y. enter_all ts y) h e in
    all_terms ts g h r (λ u n. w u (inr n))
    (subst Terms (bounded_is (enter t f) g m) (enter_terms t f (w t (inl refl)).0 (w t (inl refl)).1 v))

without_length : (t : ℕ) (f : List ℕ) → length (without t f) ≤ length f
without_length t [] = omega arith
without_length t (u ∷ f) = go (without_length t f) (sub t u)
  where
    go : length (without t f) ≤ length f → (b : Bool) → length (cond b (without t f) (u ∷ without t f)) ≤ suc (length f)
    go l true = omega arith
    go l false = omega arith

enter_length : (t : ℕ) (f : List ℕ) → length (enter t f) ≤ suc (length f)
enter_length t f = go (covers f t)
  where
    go : (b : Bool) → length (cond b f (put t (without t f))) ≤ suc (length f)
    go true = omega arith
    go false = omega (arith, length_put t (without t f), without_length t f)

all_made : (ts f : List ℕ) → length ts + length f ≤ most_terms → (h : List ℕ) × (enter_all ts f ≡ made h)
all_made [] f l = (f, refl)
all_made (t ∷ ts) f l =
    let e : bounded (enter t f) ≡ made (enter t f) = bounded_made (enter t f) (omega (arith, enter_length t f)) in
    let (h, r) = all_made ts (enter t f) (omega (arith, enter_length t f)) in
    (h, ap (λ (m : Made). after m (λ y. enter_all ts y)) e ∙ r)

-- ---- the greatest over the turned box
abbrev pub turned_of : ℕ → ℕ → List ℕ
turned_of h w = map (λ c. single (opposite c)) (box h w)

module _ (P : ℕ → Type 0) (h w : ℕ) (f : List ℕ) (s : Sides h w) (e : dilation_of h w ≡ made f) where
  pub dilation_to : TrueOn f P → (c : ℕ) × In c (box h w) × P (opposite c)
  dilation_to x = elim (all_to P (turned_of h w) [] f e x) [ inl y ↦ absurd y.1 | inr y ↦ go y ]
    where
      go : TrueOn (turned_of h w) P → (c : ℕ) × In c (box h w) × P (opposite c)
      go y =
          let (c, m, q) = in_map (λ c. single (opposite c)) (box h w) y.0 y.1 in
          (c, m, y.2 (opposite c) (opposite_place c (box_cells h w s c m)).2 (subst (λ (t : ℕ). Has t (opposite c)) (sym q) (has_single (opposite c))))

  pub dilation_from : (c : ℕ) → In c (box h w) → P (opposite c) → TrueOn f P
  dilation_from c m p = all_from P (turned_of h w) [] f e (inr (single (opposite c), map_in (λ c. single (opposite c)) (box h w) c m, inside))
    where
      inside : Inside (single (opposite c)) P
      inside d l k = subst P (sym (single_has (opposite c) d (opposite_place c (box_cells h w s c m)).2 l k)) p

turned_terms : (h w : ℕ) → Terms (turned_of h w)
turned_terms h w t m =
    let (c, n, q) = in_map (λ c. single (opposite c)) (box h w) t m in
    (subst (λ (y : ℕ). 0 < y) (sym q) (single_some (opposite c)), subst (λ (y : ℕ). y < 2 ^ 63) (sym q) (single_small (opposite c)))

pub dilation_sets : (h w : ℕ) (f : List ℕ) → Sides h w → dilation_of h w ≡ made f → Terms f
dilation_sets h w f s e = all_terms (turned_of h w) [] f e (turned_terms h w) (λ t m. absurd m)

pub dilation_start : (h w : ℕ) → Sides h w → enter_all (turned_of h w) (window ∷ []) ≡ dilation_of h w
dilation_start h w s =
    let (c, m) = box_some h w s in
    from_window (turned_of h w) (some (turned_of h w) (single (opposite c)) (map_in (λ c. single (opposite c)) (box h w) c m)) (λ t n. (turned_terms h w t n).1)

pub dilation_made : (h w : ℕ) → Sides h w → (f : List ℕ) × (dilation_of h w ≡ made f)
dilation_made h w s = all_made (turned_of h w) []
    (omega (arith, length-map (box h w) (λ c. single (opposite c)), box_length h w, mul-le-mul s.few_rows s.few_columns))

-- ---- the sets that count enough
no_cells : (P : ℕ → Type 0) → Inside 0 P
no_cells P c l k = absurd (omega (arith, k, shr_le 0 (62 - c)))

reaching_to : (p : ℕ → Bool) (xs : List Weighed) (k : ℕ) → Cells xs → TrueOn (reaching xs k) (On p) → k ≤ counted p xs
reaching_to p xs zero w y = omega arith
reaching_to p [] (suc k) w y = absurd y.1
reaching_to p (x ∷ xs) (suc k) w y =
    go (λ z. reaching_to p xs (suc k) w.1 z) (λ z. reaching_to p xs (suc k - x.times) w.1 z)
    (in_append (reaching xs (suc k)) (map (bit_or (single x.cell)) (reaching xs (suc k - x.times))) y.0 y.1)
  where
    most : counted p xs ≤ cond (p x.cell) (x.times + counted p xs) (counted p xs)
    most = elim (p x.cell) as (λ b. counted p xs ≤ cond b (x.times + counted p xs) (counted p xs)) [ true ↦ omega arith | false ↦ omega arith ]

    with_it : (u : ℕ) → In u (reaching xs (suc k - x.times)) → y.0 ≡ bit_or (single x.cell) u
        → (TrueOn (reaching xs (suc k - x.times)) (On p) → suc k - x.times ≤ counted p xs) → suc k ≤ counted p (x ∷ xs)
    with_it u n q ih =
        let i = or_inside (On p) (single x.cell) u (subst (λ (t : ℕ). Inside t (On p)) q y.2) in
        let l : suc k - x.times ≤ counted p xs = ih (u, n, i.1) in
        let c : cond (p x.cell) (x.times + counted p xs) (counted p xs) ≡ x.times + counted p xs =
        cond-true (p x.cell) (x.times + counted p xs) (counted p xs) (i.0 x.cell w.0 (has_single x.cell)) in
        omega arith

    go : (TrueOn (reaching xs (suc k)) (On p) → suc k ≤ counted p xs)
        → (TrueOn (reaching xs (suc k - x.times)) (On p) → suc k - x.times ≤ counted p xs)
        → In y.0 (reaching xs (suc k)) ⊎ In y.0 (map (bit_or (single x.cell)) (reaching xs (suc k - x.times)))
        → suc k ≤ counted p (x ∷ xs)
    go ih ig (inl m) = let l : suc k ≤ counted p xs = ih (y.0, m, y.2) in omega (arith, most)
    go ih ig (inr m) = let (u, n, q) = in_map (bit_or (single x.cell)) (reaching xs (suc k - x.times)) y.0 m in with_it u n q ig

pub reaching_from : (p : ℕ → Bool) (xs : List Weighed) (k : ℕ) → Cells xs → k ≤ counted p xs → TrueOn (reaching xs k) (On p)
reaching_from p xs zero w l = (0, inl refl, no_cells (On p))
reaching_from p [] (suc k) w l = absurd (omega arith)
reaching_from p (x ∷ xs) (suc k) w l =
    go (λ z. reaching_from p xs (suc k) w.1 z) (λ z. reaching_from p xs (suc k - x.times) w.1 z) (p x.cell) refl l
  where
    go : (suc k ≤ counted p xs → TrueOn (reaching xs (suc k)) (On p))
        → (suc k - x.times ≤ counted p xs → TrueOn (reaching xs (suc k - x.times)) (On p))
        → (b : Bool) → p x.cell ≡ b → suc k ≤ cond b (x.times + counted p xs) (counted p xs) → TrueOn (reaching (x ∷ xs) (suc k)) (On p)
    go ih ig true e l =
        let (u, n, i) = ig (omega arith) in (
          bit_or (single x.cell) u,
          append_in (reaching xs (suc k)) (map (bit_or (single x.cell)) (reaching xs (suc k - x.times))) (bit_or (single x.cell) u)
              (inr (map_in (bit_or (single x.cell)) (reaching xs (suc k - x.times)) u n)),
          inside_or (On p) (single x.cell) u (λ d m q. subst (On p) (sym (single_has x.cell d w.0 m q)) e) i,
        )
    go ih ig false e l =
        let (u, n, i) = ih l in
        (u, append_in (reaching xs (suc k)) (map (bit_or (single x.cell)) (reaching xs (suc k - x.times))) u (inl n), i)

module _ (p : ℕ → Bool) (k : ℕ) (xs : List Weighed) (f : List ℕ) (w : Cells xs) (e : weight_of k xs ≡ made f) where
  pub weight_to : TrueOn f (On p) → k ≤ counted p xs
  weight_to y = elim (all_to (On p) (reaching xs k) [] f e y) [ inl z ↦ absurd z.1 | inr z ↦ reaching_to p xs k w z ]

  pub weight_from : k ≤ counted p xs → TrueOn f (On p)
  weight_from l = all_from (On p) (reaching xs k) [] f e (inr (reaching_from p xs k w l))

pub reaching_small : (xs : List Weighed) (k t : ℕ) → In t (reaching xs k) → t < 2 ^ 63
reaching_small xs zero t (inl e) = omega arith
reaching_small xs zero t (inr m) = absurd m
reaching_small [] (suc k) t m = absurd m
reaching_small (x ∷ xs) (suc k) t m =
    go (λ z. reaching_small xs (suc k) t z) (λ u z. reaching_small xs (suc k - x.times) u z)
    (in_append (reaching xs (suc k)) (map (bit_or (single x.cell)) (reaching xs (suc k - x.times))) t m)
  where
    go : (In t (reaching xs (suc k)) → t < 2 ^ 63) → ((u : ℕ) → In u (reaching xs (suc k - x.times)) → u < 2 ^ 63)
        → In t (reaching xs (suc k)) ⊎ In t (map (bit_or (single x.cell)) (reaching xs (suc k - x.times))) → t < 2 ^ 63
    go ih ig (inl n) = ih n
    go ih ig (inr n) =
        let (u, q, e) = in_map (bit_or (single x.cell)) (reaching xs (suc k - x.times)) t n in
        subst (λ (y : ℕ). y < 2 ^ 63) (sym e) (or_small (single x.cell) u (single_small x.cell) (ig u q))

reaching_some : (xs : List Weighed) (k t : ℕ) → 0 < k → In t (reaching xs k) → 0 < t
reaching_some xs zero t l m = absurd (omega arith)
reaching_some [] (suc k) t l m = absurd m
reaching_some (x ∷ xs) (suc k) t l m =
    go (λ z. reaching_some xs (suc k) t l z)
    (in_append (reaching xs (suc k)) (map (bit_or (single x.cell)) (reaching xs (suc k - x.times))) t m)
  where
    go : (In t (reaching xs (suc k)) → 0 < t)
        → In t (reaching xs (suc k)) ⊎ In t (map (bit_or (single x.cell)) (reaching xs (suc k - x.times))) → 0 < t
    go ih (inl n) = ih n
    go ih (inr n) =
        let (u, q, e) = in_map (bit_or (single x.cell)) (reaching xs (suc k - x.times)) t n in
        subst (λ (y : ℕ). 0 < y) (sym e) (or_some (single x.cell) u (single_some x.cell))

pub weight_sets : (k : ℕ) (xs : List Weighed) (f : List ℕ) → Cells xs → 0 < k → weight_of k xs ≡ made f → Terms f
weight_sets k xs f w l e = all_terms (reaching xs k) [] f e (λ t m. (reaching_some xs k t l m, reaching_small xs k t m)) (λ t m. absurd m)

-- how many such sets there are at most: none of no cell, and for one more cell as many again, or one
abbrev at_most : ℕ → ℕ
at_most zero = 0
at_most (suc n) = at_most n + (1 + (at_most n - 1))

reaching_few : (xs : List Weighed) (k : ℕ) → (length (reaching xs k) ≤ 1 + (at_most (length xs) - 1)) × (0 < k → length (reaching xs k) ≤ at_most (length xs))
reaching_few xs zero = (omega arith, λ l. absurd (omega arith))
reaching_few [] (suc k) = (omega arith, λ l. omega arith)
reaching_few (x ∷ xs) (suc k) =
    let a : length (reaching xs (suc k)) ≤ at_most (length xs) = (reaching_few xs (suc k)).1 (omega arith) in
    let b : length (reaching xs (suc k - x.times)) ≤ 1 + (at_most (length xs) - 1) = (reaching_few xs (suc k - x.times)).0 in
    let e : length (reaching (x ∷ xs) (suc k)) ≡ length (reaching xs (suc k)) + length (reaching xs (suc k - x.times)) =
    length-append (reaching xs (suc k)) (map (bit_or (single x.cell)) (reaching xs (suc k - x.times)))
    ∙ ap (λ (n : ℕ). length (reaching xs (suc k)) + n) (length-map (reaching xs (suc k - x.times)) (bit_or (single x.cell))) in
    (omega arith, λ l. omega arith)

most_most : (n m : ℕ) → n ≤ m → at_most n ≤ at_most m
most_most zero m l = omega arith
most_most (suc n) zero l = absurd (omega arith)
most_most (suc n) (suc m) l = omega (arith, most_most n m (omega arith))

pub weight_made : (k : ℕ) (xs : List Weighed) → length xs ≤ 9 → 0 < k → (f : List ℕ) × (weight_of k xs ≡ made f)
weight_made k xs l p = all_made (reaching xs k) [] (omega (arith, (reaching_few xs k).1 p, most_most (length xs) 9 l))
