-- A term put at its place, and the terms that are kept, one after the other.
use Rattle.std.proofs.Common.{◌≡◌, ℕ, zero, suc, ◌<◌, ◌≤◌, Bool, true, false, cond, eqb, ltb, List, [], ◌∷◌, ◌++◌, length, get_or, take, drop, sym, refl, ap, ◌∙◌, ◌||◌, ap₂, subst, inl, inr, arith, append-nil}
use Rattle.std.specs.List.{list_any}
use Rattle.std.proofs.lemmas.Bool.{ne_eqb, or_parts, cond-true, cond-false, lt-ltb, le-ltb, ltb-true, ltb-false}
use Rattle.std.specs.List.Sorted.{IsPartitionPoint, IsPartitionedBy}
use Rattle.forms.specs.Sets.{sub}
use Rattle.forms.specs.Terms.{In, Ascending}
use Rattle.forms.specs.Entering.{holds, put, without}
use Rattle.forms.proofs.Entered.{in_at_or}

put_less : (h u : ℕ) (us : List ℕ) → h < u → put h (u ∷ us) ≡ h ∷ put u us
put_less h u us l = cond-true (ltb h u) (h ∷ put u us) (u ∷ put h us) (lt-ltb h u l)

put_more : (h u : ℕ) (us : List ℕ) → u ≤ h → put h (u ∷ us) ≡ u ∷ put h us
put_more h u us l = cond-false (ltb h u) (h ∷ put u us) (u ∷ put h us) (le-ltb h u l)

put_front : (u : ℕ) (us : List ℕ) → Ascending (u ∷ us) → put u us ≡ u ∷ us
put_front u [] a = refl
put_front u (v ∷ us) a = put_less u v us (a.0 v (inl refl)) ∙ ap (λ (y : List ℕ). u ∷ y) (put_front v us a.1)

-- the terms before the place i are less, and those from it on are greater
pub put_at : (t : ℕ) (xs : List ℕ) (i : ℕ) → Ascending xs → ((k : ℕ) → k < i → k < length xs → get_or xs k 0 < t)
    → ((k : ℕ) → i ≤ k → k < length xs → t < get_or xs k 0) → put t xs ≡ take i xs ++ t ∷ drop i xs
put_at t [] zero a l g = refl
put_at t [] (suc i) a l g = refl
put_at t (u ∷ us) zero a l g = put_less t u us (g 0 (omega arith) (omega arith)) ∙ ap (λ (y : List ℕ). t ∷ y) (put_front u us a)
put_at t (u ∷ us) (suc i) a l g =
    put_more t u us (omega (arith, l 0 (omega arith) (omega arith)))
    ∙ ap (λ (y : List ℕ). u ∷ y)
    (put_at t us i a.1 (λ k m n. l (suc k) (omega arith) (omega arith)) (λ k m n. g (suc k) (omega arith) (omega arith)))

-- a list of which no term contains t
pub without_none : (t : ℕ) (xs : List ℕ) → list_any (λ u. sub t u) xs ≡ false → without t xs ≡ xs
without_none t [] e = refl
without_none t (u ∷ us) e =
    let p = or_parts (sub t u) (list_any (λ v. sub t v) us) e in
    cond-false (sub t u) (without t us) (u ∷ without t us) p.0 ∙ ap (λ (y : List ℕ). u ∷ y) (without_none t us p.1)

-- one term more, which is kept or not
without_more : (t u : ℕ) (xs : List ℕ) → without t (xs ++ u ∷ []) ≡ without t xs ++ cond (sub t u) [] (u ∷ [])
without_more t u [] = refl
without_more t u (x ∷ xs) = go (sub t x) (without_more t u xs)
  where
    go : (b : Bool) → without t (xs ++ u ∷ []) ≡ without t xs ++ cond (sub t u) [] (u ∷ [])
        → cond b (without t (xs ++ u ∷ [])) (x ∷ without t (xs ++ u ∷ [])) ≡ cond b (without t xs) (x ∷ without t xs) ++ cond (sub t u) [] (u ∷ [])
    go true e = e
    go false e = ap (λ (y : List ℕ). x ∷ y) e

pub without_kept : (t u : ℕ) (xs : List ℕ) → sub t u ≡ false → without t (xs ++ u ∷ []) ≡ without t xs ++ u ∷ []
without_kept t u xs e = without_more t u xs ∙ ap (λ (b : Bool). without t xs ++ cond b [] (u ∷ [])) e

pub without_left : (t u : ℕ) (xs : List ℕ) → sub t u ≡ true → without t (xs ++ u ∷ []) ≡ without t xs
without_left t u xs e = without_more t u xs ∙ ap (λ (b : Bool). without t xs ++ cond b [] (u ∷ [])) e ∙ append-nil (without t xs)

-- no term is above a later one
pub ascending_le : (xs : List ℕ) → Ascending xs → (i j : ℕ) (d : ℕ) → i ≤ j → j < length xs → get_or xs i d ≤ get_or xs j d
ascending_le [] a i j d l m = absurd (omega arith)
ascending_le (x ∷ xs) a zero zero d l m = omega arith
ascending_le (x ∷ xs) a zero (suc j) d l m = omega (arith, a.0 (get_or xs j d) (in_at_or xs j d (omega arith)))
ascending_le (x ∷ xs) a (suc i) zero d l m = absurd (omega arith)
ascending_le (x ∷ xs) a (suc i) (suc j) d l m = ascending_le xs a.1 i j d (omega arith) (omega arith)

-- the place that a test of each term tells
pub put_there : (t : ℕ) (xs ys : List ℕ) (i : ℕ) → ys ≡ xs → Ascending xs → (In t xs → ⊥) → i ≤ length ys
    → IsPartitionPoint (λ u. ltb u t ≡ true) (λ u. ltb u t ≡ false) ys i → put t xs ≡ take i xs ++ t ∷ drop i xs
put_there t xs ys i e a n l p = put_at t xs i a below above
  where
    below : (k : ℕ) → k < i → k < length xs → get_or xs k 0 < t
    below k m q = ltb-true _ _ (rw e at (p.0 k 0 (omega arith) m))

    above : (k : ℕ) → i ≤ k → k < length xs → t < get_or xs k 0
    above k m q =
        let g : t ≤ get_or xs k 0 = ltb-false _ _ (rw e at (p.1 k 0 m (omega (arith, ap length e)))) in
        let o : t ≡ get_or xs k 0 → ⊥ = λ d. n (subst (λ (y : ℕ). In y xs) (sym d) (in_at_or xs k 0 q)) in
        omega arith

pub parted : (t : ℕ) (xs ys : List ℕ) → ys ≡ xs → Ascending xs → IsPartitionedBy (λ u. ltb u t) ys
parted t xs ys e a = rw e (λ i j d l m h. lt-ltb _ _ (omega (arith, ltb-true _ _ h, ascending_le xs a i j d l m)))

-- ---- t is one of ascending terms exactly where it is the one at its place
none_above : (t : ℕ) (us : List ℕ) → ((v : ℕ) → In v us → t < v) → holds us t ≡ false
none_above t [] h = refl
none_above t (u ∷ us) h =
    ap₂ (λ (a b : Bool). a || b) (ne_eqb u t (λ e. omega (arith, e, h u (inl refl)))) (none_above t us (λ v m. h v (inr m)))

or_none : (a b : Bool) → b ≡ false → (a || b) ≡ a
or_none true b e = refl
or_none false b e = e

abbrev Below : ℕ → List ℕ → ℕ → Type 0
Below t xs i = (k : ℕ) → k < i → k < length xs → get_or xs k 0 < t

abbrev Above : ℕ → List ℕ → ℕ → Type 0
Above t xs i = (k : ℕ) → i ≤ k → k < length xs → t ≤ get_or xs k 0

holds_in : (t : ℕ) (xs : List ℕ) (i : ℕ) → Ascending xs → Below t xs i → Above t xs i → i < length xs → holds xs t ≡ eqb (get_or xs i 0) t
holds_in t [] i a l g m = absurd (omega arith)
holds_in t (u ∷ us) zero a l g m =
    or_none (eqb u t) (holds us t) (none_above t us (λ v n. omega (arith, a.0 v n, g 0 (omega arith) (omega arith))))
holds_in t (u ∷ us) (suc i) a l g m =
    ap (λ (b : Bool). b || holds us t) (ne_eqb u t (λ e. omega (arith, e, l 0 (omega arith) (omega arith))))
    ∙ holds_in t us i a.1 (λ k n o. l (suc k) (omega arith) (omega arith)) (λ k n o. g (suc k) (omega arith) (omega arith)) (omega arith)

holds_past : (t : ℕ) (xs : List ℕ) (i : ℕ) → Below t xs i → length xs ≤ i → holds xs t ≡ false
holds_past t [] i l m = refl
holds_past t (u ∷ us) zero l m = absurd (omega arith)
holds_past t (u ∷ us) (suc i) l m =
    ap (λ (b : Bool). b || holds us t) (ne_eqb u t (λ e. omega (arith, e, l 0 (omega arith) (omega arith))))
    ∙ holds_past t us i (λ k n o. l (suc k) (omega arith) (omega arith)) (omega arith)

module _ (t : ℕ) (xs ys : List ℕ) (i : ℕ) (e : ys ≡ xs) (p : IsPartitionPoint (λ u. ltb u t ≡ true) (λ u. ltb u t ≡ false) ys i) where
  under : Below t xs i
  under = λ k m q. ltb-true _ _ (rw e at (p.0 k 0 (omega (arith, ap length e)) m))

  over : Above t xs i
  over = λ k m q. ltb-false _ _ (rw e at (p.1 k 0 m (omega (arith, ap length e))))

  pub held_there : Ascending xs → i < length xs → holds xs t ≡ eqb (get_or xs i 0) t
  held_there a l = holds_in t xs i a under over l

  pub held_nowhere : length xs ≤ i → holds xs t ≡ false
  held_nowhere l = holds_past t xs i under l
