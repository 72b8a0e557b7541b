-- Entering a term: its members, its truth, and that it leaves the minimal sets.
use Rattle.std.proofs.Common.{◌≡◌, ℕ, zero, suc, ◌-◌, ◌^◌, ◌<◌, ◌≤◌, Bool, true, false, cond, ◌||◌, ltb, leb, ◌⊎◌, List, [], ◌∷◌, ◌++◌, length, get_or, sym, refl, ap, ◌∙◌, subst, ap₂, inl, inr, arith}
use mathlib.Core.Logic.{∥∥₁_elim}
use mathlib.Core.HLevel.{Π_prop, ×_prop}
use native.Mathlib.Bridge.{le_prop}
use native.Mathlib.Nat.{ℕ_set}
use lib.Bits.{bit_and}
use Rattle.std.proofs.lemmas.Bool.{cond-false, cases_eq, eqb-true, eqb-false, ne_eqb, or_cases, or_parts, ltb-true, ltb-false, cond-true, le-leb, lt-leb, le-ltb}
use Rattle.forms.specs.Sets.{Sub, sub}
use Rattle.forms.specs.Terms.{most_terms, In, True, Inside, TrueOn, Ascending, Apart, Terms}
use Rattle.forms.specs.Entering.{made, declined, bounded, covers, without, put, enter, Minimal}
use Rattle.forms.proofs.Bits.{sub_refl, sub_trans, sub_anti, sub_le, sub_bits}
use Rattle.forms.proofs.Forms.{Sound, sound, sound_ascending, apart, same}

pub inside_sub : (P : ℕ → Type 0) (t u : ℕ) → Sub t u → Inside u P → Inside t P
inside_sub P t u s h c l k = h c l (sub_bits t u s (62 - c) k)

-- what `covers` tells
pub covers_true : (f : List ℕ) (s : ℕ) → covers f s ≡ true → True f s
covers_true [] s e = absurd (mathlib.Core.Bool.false≢true e)
covers_true (t ∷ f) s e =
    elim (or_cases (sub t s) (covers f s) e) [
      | inl p ↦ (t, inl refl, eqb-true (bit_and t s) t p)
      | inr q ↦ (let (u, m, r) = covers_true f s q in (u, inr m, r))
    ]

pub covers_false : (f : List ℕ) (s : ℕ) → covers f s ≡ false → (t : ℕ) → In t f → Sub t s → ⊥
covers_false [] s e t m p = m
covers_false (u ∷ f) s e t (inl q) p =
    eqb-false (bit_and u s) u (or_parts (sub u s) (covers f s) e).0 (subst (λ (y : ℕ). Sub y s) q p)
covers_false (u ∷ f) s e t (inr m) p = covers_false f s (or_parts (sub u s) (covers f s) e).1 t m p

-- the members of `without t f` and of `put t f`
pub in_without : (t : ℕ) (f : List ℕ) (u : ℕ) → In u (without t f) → In u f × (Sub t u → ⊥)
in_without t [] u = λ m. absurd m
in_without t (v ∷ f) u = go (in_without t f u) (sub t v) refl
  where
    go : (In u (without t f) → In u f × (Sub t u → ⊥)) → (b : Bool) → sub t v ≡ b
        → In u (cond b (without t f) (v ∷ without t f)) → In u (v ∷ f) × (Sub t u → ⊥)
    go ih true e m = (inr (ih m).0, (ih m).1)
    go ih false e (inl p) = (inl p, λ s. eqb-false (bit_and t v) t e (subst (λ (y : ℕ). Sub t y) p s))
    go ih false e (inr m) = (inr (ih m).0, (ih m).1)

pub without_in : (t : ℕ) (f : List ℕ) (u : ℕ) → In u f → (Sub t u → ⊥) → In u (without t f)
without_in t [] u = λ m k. m
without_in t (v ∷ f) u = go (without_in t f u) (sub t v) refl
  where
    go : (In u f → (Sub t u → ⊥) → In u (without t f)) → (b : Bool) → sub t v ≡ b
        → In u (v ∷ f) → (Sub t u → ⊥) → In u (cond b (without t f) (v ∷ without t f))
    go ih true e (inl p) k = absurd (k (subst (λ (y : ℕ). Sub t y) (sym p) (eqb-true (bit_and t v) t e)))
    go ih true e (inr m) k = ih m k
    go ih false e (inl p) k = inl p
    go ih false e (inr m) k = inr (ih m k)

pub in_put : (t : ℕ) (f : List ℕ) (u : ℕ) → In u (put t f) → (u ≡ t) ⊎ In u f
in_put t [] u = λ m. m
in_put t (v ∷ f) u = go (in_put t f u) (in_put v f u) (ltb t v)
  where
    go : (In u (put t f) → (u ≡ t) ⊎ In u f) → (In u (put v f) → (u ≡ v) ⊎ In u f) → (b : Bool)
        → In u (cond b (t ∷ put v f) (v ∷ put t f)) → (u ≡ t) ⊎ In u (v ∷ f)
    go ih ig true (inl p) = inl p
    go ih ig true (inr m) = inr (ig m)
    go ih ig false (inl p) = inr (inl p)
    go ih ig false (inr m) = elim (ih m) [ inl e ↦ inl e | inr n ↦ inr (inr n) ]

pub put_in : (t : ℕ) (f : List ℕ) (u : ℕ) → (u ≡ t) ⊎ In u f → In u (put t f)
put_in t [] u = λ m. m
put_in t (v ∷ f) u = go (put_in t f u) (put_in v f u) (ltb t v)
  where
    go : ((u ≡ t) ⊎ In u f → In u (put t f)) → ((u ≡ v) ⊎ In u f → In u (put v f)) → (b : Bool)
        → (u ≡ t) ⊎ In u (v ∷ f) → In u (cond b (t ∷ put v f) (v ∷ put t f))
    go ih ig true (inl p) = inl p
    go ih ig true (inr m) = inr (ig m)
    go ih ig false (inl p) = inr (ih (inl p))
    go ih ig false (inr (inl p)) = inl p
    go ih ig false (inr (inr m)) = inr (ih (inr m))

-- where a form is true after a term was entered
pub enter_to : (P : ℕ → Type 0) (t : ℕ) (f : List ℕ) → TrueOn (enter t f) P → TrueOn f P ⊎ Inside t P
enter_to P t f = go (covers f t)
  where
    one : (u : ℕ) → In u (put t (without t f)) → Inside u P → TrueOn f P ⊎ Inside t P
    one u m h = elim (in_put t (without t f) u m) [
      | inl e ↦ inr (subst (λ (y : ℕ). Inside y P) e h)
      | inr n ↦ inl (u, (in_without t f u n).0, h)
    ]

    go : (b : Bool) → TrueOn (cond b f (put t (without t f))) P → TrueOn f P ⊎ Inside t P
    go true h = inl h
    go false h = one h.0 h.1 h.2

pub enter_from : (P : ℕ → Type 0) (t : ℕ) (f : List ℕ) → TrueOn f P ⊎ Inside t P → TrueOn (enter t f) P
enter_from P t f = go (covers f t) refl
  where
    keep : (u : ℕ) → In u f → Inside u P → TrueOn (put t (without t f)) P
    keep u m h = elim (cases_eq (bit_and t u) t) [
      | inl s ↦ (t, put_in t (without t f) t (inl refl), inside_sub P t u s h)
      | inr k ↦ (u, put_in t (without t f) u (inr (without_in t f u m k)), h)
    ]

    old : True f t → Inside t P → TrueOn f P
    old x h = (x.0, x.1, inside_sub P x.0 t x.2 h)

    go : (b : Bool) → covers f t ≡ b → TrueOn f P ⊎ Inside t P → TrueOn (cond b f (put t (without t f))) P
    go true e (inl h) = h
    go true e (inr h) = old (covers_true f t e) h
    go false e (inl h) = keep h.0 h.1 h.2
    go false e (inr h) = (t, put_in t (without t f) t (inl refl), h)

-- the result is a form
pub without_form : (t : ℕ) (f : List ℕ) → Sound f → Sound (without t f)
without_form t [] w = tt
without_form t (v ∷ f) w = go (without_form t f w.1) (sub t v)
  where
    go : Sound (without t f) → (b : Bool) → Sound (cond b (without t f) (v ∷ without t f))
    go ih true = ih
    go ih false = ((λ u m. w.0 u (in_without t f u m).0), ih)

pub put_form : (t : ℕ) (f : List ℕ) → Sound f → ((u : ℕ) → In u f → (Sub t u → ⊥) × (Sub u t → ⊥)) → Sound (put t f)
put_form t [] w k = ((λ u m. absurd m), tt)
put_form t (v ∷ f) w k =
    go (put_form t f w.1 (λ u m. k u (inr m))) (put_form v f w.1 (λ u m. ((w.0 u m).1, above u m))) (ltb t v) refl
  where
    above : (u : ℕ) → In u f → Sub u v → ⊥
    above u m s = omega (arith, (w.0 u m).0, sub_le u v s)

    first : t < v → (u : ℕ) → (u ≡ v) ⊎ In u f → (t < u) × (Sub t u → ⊥)
    first l u (inl p) = (omega arith, (k u (inl p)).0)
    first l u (inr m) = (omega (arith, (w.0 u m).0), (k u (inr m)).0)

    later : v ≤ t → (u : ℕ) → (u ≡ t) ⊎ In u f → (v < u) × (Sub v u → ⊥)
    later l u (inl p) = (
      let ne : v ≡ t → ⊥ = λ e. (k v (inl refl)).1 (subst (λ (y : ℕ). Sub v y) e (sub_refl v)) in omega arith,
      λ s. (k v (inl refl)).1 (subst (λ (y : ℕ). Sub v y) p s),
    )
    later l u (inr m) = w.0 u m

    go : Sound (put t f) → Sound (put v f) → (b : Bool) → ltb t v ≡ b → Sound (cond b (t ∷ put v f) (v ∷ put t f))
    go ih ig true e = ((λ u m. first (ltb-true t v e) u (in_put v f u m)), ig)
    go ih ig false e = ((λ u m. later (ltb-false t v e) u (in_put t f u m)), ih)

pub enters : (t : ℕ) (f : List ℕ) → Sound f → Sound (enter t f)
enters t f w = go (covers f t) refl
  where
    go : (b : Bool) → covers f t ≡ b → Sound (cond b f (put t (without t f)))
    go true e = w
    go false e = put_form t (without t f) (without_form t f w)
        (λ u m. ((in_without t f u m).1, covers_false f t e u (in_without t f u m).0))

pub in_enter : (t : ℕ) (f : List ℕ) (u : ℕ) → In u (enter t f) → (u ≡ t) ⊎ In u f
in_enter t f u = go (covers f t)
  where
    one : (u ≡ t) ⊎ In u (without t f) → (u ≡ t) ⊎ In u f
    one (inl e) = inl e
    one (inr n) = inr (in_without t f u n).0

    go : (b : Bool) → In u (cond b f (put t (without t f))) → (u ≡ t) ⊎ In u f
    go true m = inr m
    go false m = one (in_put t (without t f) u m)

pub enter_terms : (t : ℕ) (f : List ℕ) → 0 < t → t < 2 ^ 63 → Terms f → Terms (enter t f)
enter_terms t f p q w u m = go (in_enter t f u m)
  where
    go : (u ≡ t) ⊎ In u f → (0 < u) × (u < 2 ^ 63)
    go (inl e) = (omega arith, omega arith)
    go (inr n) = w u n

pub some : (f : List ℕ) (u : ℕ) → In u f → f ≡ [] → ⊥
some f u m e = subst (λ (y : List ℕ). In u y) e m

pub enter_some : (t : ℕ) (f : List ℕ) → enter t f ≡ [] → ⊥
enter_some t f = let h : TrueOn (enter t f) (λ c. Unit {0}) = enter_from (λ c. Unit {0}) t f (inr (λ c l k. tt)) in some (enter t f) h.0 h.1

pub single_form : (t : ℕ) → Sound (t ∷ [])
single_form t = ((λ u m. absurd m), tt)

pub single_terms : (t : ℕ) → 0 < t → t < 2 ^ 63 → Terms (t ∷ [])
single_terms t p q u (inl e) = (omega arith, omega arith)
single_terms t p q u (inr m) = absurd m

pub enter_put : (t : ℕ) (f : List ℕ) → covers f t ≡ false → enter t f ≡ put t (without t f)
enter_put t f e = cond-false (covers f t) f (put t (without t f)) e

pub length_put : (t : ℕ) (f : List ℕ) → length (put t f) ≡ suc (length f)
length_put t [] = refl
length_put t (v ∷ f) = go (length_put t f) (length_put v f) (ltb t v)
  where
    go : length (put t f) ≡ suc (length f) → length (put v f) ≡ suc (length f) → (b : Bool)
        → length (cond b (t ∷ put v f) (v ∷ put t f)) ≡ suc (suc (length f))
    go p q true = ap suc q
    go p q false = ap suc p

-- entering by the steps of the code
pub entered : (t : ℕ) (f g h : List ℕ) → false ≡ covers f t → g ≡ without t f → h ≡ put t g → enter t f ≡ h
entered t f g h e p q = enter_put t f (sym e) ∙ sym (q ∙ ap (put t) p)

-- what a truncated invariant holds comes out again, since it has one proof at most
pub terms_of_lem : (f : List ℕ) → ∥ Terms f ∥₁ → Terms f
terms_of_lem f h = ∥∥₁_elim h (Π_prop (λ t. Π_prop (λ m. ×_prop le_prop le_prop))) (λ w. w)

ascending_prop : (f : List ℕ) → IsProp (Ascending f)
ascending_prop [] = λ x y. refl
ascending_prop (t ∷ f) = ×_prop (Π_prop (λ u. Π_prop (λ m. le_prop))) (ascending_prop f)

pub ascending_of : (f : List ℕ) → ∥ Ascending f ∥₁ → Ascending f
ascending_of f h = ∥∥₁_elim h (ascending_prop f) (λ w. w)

pub apart_of : (f : List ℕ) → ∥ Apart f ∥₁ → Apart f
apart_of f h = ∥∥₁_elim h (Π_prop (λ t. Π_prop (λ u. Π_prop (λ m. Π_prop (λ n. Π_prop (λ s. ℕ_set t u)))))) (λ w. w)

pub sound_of : (f : List ℕ) → ∥ Ascending f ∥₁ → ∥ Apart f ∥₁ → Sound f
sound_of f a p = sound f (ascending_of f a) (apart_of f p)

pub in_at_or : (f : List ℕ) (i d : ℕ) → i < length f → In (get_or f i d) f
in_at_or [] i d l = absurd (omega arith)
in_at_or (t ∷ f) zero d l = inl refl
in_at_or (t ∷ f) (suc i) d l = inr (in_at_or f i d (omega arith))

pub in_at : (f : List ℕ) (i : ℕ) → i < length f → In (get_or f i 0) f
in_at f i l = in_at_or f i 0 l

-- at most most_terms terms
pub bounded_made : (f : List ℕ) → length f ≤ most_terms → bounded f ≡ made f
bounded_made f l = cond-true (leb (length f) most_terms) (made f) (declined 8) (le-leb (length f) most_terms l)

pub bounded_full : (f : List ℕ) → most_terms < length f → bounded f ≡ declined 8
bounded_full f l = cond-false (leb (length f) most_terms) (made f) (declined 8) (lt-leb (length f) most_terms l)

pub length_enter : (t : ℕ) (f g : List ℕ) → covers f t ≡ false → g ≡ without t f → length (enter t f) ≡ suc (length g)
length_enter t f g e p = ap length (enter_put t f e) ∙ length_put t (without t f) ∙ ap (λ (y : List ℕ). suc (length y)) (sym p)

-- each set that was there or is entered has a kept one inside it
pub enter_inside : (t : ℕ) (f : List ℕ) (u : ℕ) → (u ≡ t) ⊎ In u f → True (enter t f) u
enter_inside t f u = go (covers f t) refl
  where
    go : (b : Bool) → covers f t ≡ b → (u ≡ t) ⊎ In u f → True (cond b f (put t (without t f))) u
    go true e (inl p) = let (v, m, s) = covers_true f t e in (v, m, subst (λ (y : ℕ). Sub v y) (sym p) s)
    go true e (inr m) = (u, m, sub_refl u)
    go false e (inl p) = (u, put_in t (without t f) u (inl p), sub_refl u)
    go false e (inr m) = elim (cases_eq (bit_and t u) t) [
      | inl s ↦ (t, put_in t (without t f) t (inl refl), s)
      | inr k ↦ (u, put_in t (without t f) u (inr (without_in t f u m k)), sub_refl u)
    ]

-- what is entered leaves the minimal sets
pub enter_minimal : (t : ℕ) (f : List ℕ) → Sound f → Minimal (t ∷ f) (enter t f)
enter_minimal t f w = record {
  among = λ u m. in_enter t f u m;
  least = least;
  whole = whole;
  ascending = sound_ascending (enter t f) (enters t f w);
}
  where
    least : (v u : ℕ) → In v (enter t f) → In u (t ∷ f) → Sub u v → u ≡ v
    least v u m n s =
        let (x, k, r) = enter_inside t f u n in
        let e : x ≡ v = apart (enter t f) (enters t f w) x v k m (sub_trans x u v r s) in
        sub_anti u v s (subst (λ (y : ℕ). Sub y u) e r)

    whole : (v : ℕ) → In v (t ∷ f) → ((u : ℕ) → In u (t ∷ f) → Sub u v → u ≡ v) → In v (enter t f)
    whole v m k =
        let (x, n, r) = enter_inside t f v m in
        subst (λ (y : ℕ). In y (enter t f)) (k x (in_enter t f x n) r) n

pub true_covers : (f : List ℕ) (s : ℕ) → True f s → covers f s ≡ true
true_covers f s h = go (covers f s) refl
  where
    go : (b : Bool) → covers f s ≡ b → b ≡ true
    go true e = refl
    go false e = absurd (covers_false f s e h.0 h.1 h.2)

-- a term above all others, none of which is inside it, goes to the end
covers_none : (f : List ℕ) (t : ℕ) → ((u : ℕ) → In u f → Sub u t → ⊥) → covers f t ≡ false
covers_none [] t h = refl
covers_none (u ∷ f) t h = ap₂ (λ (a b : Bool). a || b) (ne_eqb (bit_and u t) u (h u (inl refl))) (covers_none f t (λ v m. h v (inr m)))

without_none : (f : List ℕ) (t : ℕ) → ((u : ℕ) → In u f → Sub t u → ⊥) → without t f ≡ f
without_none [] t h = refl
without_none (u ∷ f) t h =
    cond-false (sub t u) (without t f) (u ∷ without t f) (ne_eqb (bit_and t u) t (h u (inl refl)))
    ∙ ap (λ (y : List ℕ). u ∷ y) (without_none f t (λ v m. h v (inr m)))

put_last : (f : List ℕ) (t : ℕ) → ((u : ℕ) → In u f → u < t) → put t f ≡ f ++ t ∷ []
put_last [] t h = refl
put_last (u ∷ f) t h =
    cond-false (ltb t u) (t ∷ put u f) (u ∷ put t f) (le-ltb t u (omega (arith, h u (inl refl))))
    ∙ ap (λ (y : List ℕ). u ∷ y) (put_last f t (λ v m. h v (inr m)))

pub enter_last : (f : List ℕ) (t : ℕ) → ((u : ℕ) → In u f → u < t) → ((u : ℕ) → In u f → Sub u t → ⊥) → enter t f ≡ f ++ t ∷ []
enter_last f t a b =
    enter_put t f (covers_none f t b)
    ∙ ap (put t) (without_none f t (λ u m s. omega (arith, a u m, sub_le t u s)))
    ∙ put_last f t a

-- there is one list of them
pub minimal_same : (ts f g : List ℕ) → Minimal ts f → Minimal ts g → f ≡ g
minimal_same ts f g a b = same f g a.ascending b.ascending
    (λ t m. b.whole t (a.among t m) (λ u n s. a.least t u m n s))
    (λ t m. a.whole t (b.among t m) (λ u n s. b.least t u m n s))
