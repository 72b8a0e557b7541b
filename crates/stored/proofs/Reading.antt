-- The terms that bytes hold, read in order.
use Rattle.std.proofs.Common.{◌≡◌, ℕ, zero, suc, ◌+◌, ◌-◌, ◌<◌, ◌≤◌, Bool, true, false, cond, not, ◌||◌, eqb, ltb, List, [], ◌∷◌, ◌++◌, length, get_or, take, drop, Ok, Err, OnOk, OnErr, Result, sym, refl, ap, ◌∙◌, subst, inl, inr, add-one, arith}
use lib.Bits.{bit_and}
use Rattle.std.specs.List.{AllAdjacentBelow, IsAllAdjacentAnswer}
use Rattle.std.proofs.lemmas.Grind.{get_or_after_one}
use Rattle.std.proofs.lemmas.List.{get_or-take, get_or_read, length-drop, length-take, take_more, take_all}
use Rattle.std.proofs.lemmas.Bool.{and_from, and_parts, ltb-true, ltb-false, lt-ltb, cases_Bool, or_cases, not-true, eqb-true, eqb-false}
use Rattle.tables.specs.declared.full.Full.{Full}
use Rattle.forms.specs.Sets.{Sub, sub, every}
use Rattle.forms.specs.Terms.{most_terms, In, True, Apart, Ascending}
use Rattle.forms.specs.Entering.{made, bounded, enter}
use Rattle.forms.specs.declared.faults.Fault.{Fault}
use Rattle.forms.specs.Parts.{told}
use Rattle.forms.proofs.Entered.{in_at, enter_last, bounded_made}
use Rattle.forms.proofs.Listed.{every_in}
use Rattle.stored.specs.Layout.{ascends, none_inside, accepted, refused}
use Rattle.stored.proofs.Undoing.{apart_true}

-- ---- whether they ascend
pub ascends_to : (b : ℕ) (f : List ℕ) → ascends b f ≡ true → ((u : ℕ) → In u f → b < u) × Ascending f
ascends_to b [] e = ((λ u m. absurd m), tt)
ascends_to b (t ∷ f) e = go (ltb-true b t (and_parts (ltb b t) (ascends t f) e).0) (ascends_to t f (and_parts (ltb b t) (ascends t f) e).1)
  where
    above : b < t → ((u : ℕ) → In u f → t < u) → (u : ℕ) → In u (t ∷ f) → b < u
    above l h u (inl p) = omega arith
    above l h u (inr m) = omega (arith, h u m)

    go : b < t → ((u : ℕ) → In u f → t < u) × Ascending f → ((u : ℕ) → In u (t ∷ f) → b < u) × Ascending (t ∷ f)
    go l r = (above l r.0, (r.0, r.1))

before_below : (ts : List ℕ) → Ascending ts → (i : ℕ) → i < length ts → (u : ℕ) → In u (take i ts) → u < get_or ts i 0
before_below [] a i l u m = absurd (omega arith)
before_below (t ∷ ts) a zero l u m = absurd m
before_below (t ∷ ts) a (suc i) l u (inl e) = subst (λ (y : ℕ). y < get_or ts i 0) (sym e) (a.0 (get_or ts i 0) (in_at ts i (omega arith)))
before_below (t ∷ ts) a (suc i) l u (inr m) = before_below ts a.1 i (omega arith) u m

ascends_by : (b : ℕ) (ts : List ℕ) → (0 < length ts → b < get_or ts 0 0) → AllAdjacentBelow (λ x y. true ≡ ltb x y) ts (length ts) → ascends b ts ≡ true
ascends_by b [] h a = refl
ascends_by b (t ∷ ts) h a =
    let l : b < t = h (omega arith) in
    let m : 0 < length ts → t < get_or ts 0 0 = λ k. ltb-true t (get_or ts 0 0) (sym (a 0 0 (omega arith))) in
    and_from (ltb b t) (ascends t ts) (lt-ltb b t l) (ascends_by t ts m (λ k d n. rw add-one (rw add-one at (a (suc k) d (omega arith)))))

falls_by : (ts : List ℕ) → Ascending ts → (k : ℕ) → k + 1 < length ts → get_or ts k 0 < get_or ts (k + 1) 0
falls_by ts a k l =
    let m : In (get_or (take (k + 1) ts) k 0) (take (k + 1) ts) = in_at (take (k + 1) ts) k (omega (arith, length-take (k + 1) ts)) in
    before_below ts a (k + 1) l (get_or ts k 0) (subst (λ (y : ℕ). In y (take (k + 1) ts)) (get_or-take (k + 1) ts k 0 (omega arith)) m)

-- what is answered of each two neighbours tells whether all ascend
pub ascends_answer : (r : Bool) (ts : List ℕ) → 0 < get_or ts 0 0 → IsAllAdjacentAnswer (λ x y b. b ≡ ltb x y) ts r → r ≡ ascends 0 ts
ascends_answer true ts p h = sym (ascends_by 0 ts (λ l. p) h)
ascends_answer false ts p h = elim (cases_Bool (ascends 0 ts)) [
  | inr e ↦ sym e
  | inl e ↦ absurd (omega (arith, falls_by ts (ascends_to 0 ts e).1 h.0 h.1, ltb-false (get_or ts h.0 0) (get_or ts (h.0 + 1) 0) (sym (h.2 0))))
]

-- an empty one does not
pub empty_falls : (ts : List ℕ) (i : ℕ) → i < length ts → get_or ts i 0 ≡ 0 → ascends 0 ts ≡ false
empty_falls ts i l z = elim (cases_Bool (ascends 0 ts)) [ inr e ↦ e | inl e ↦ absurd (omega (arith, (ascends_to 0 ts e).0 (get_or ts i 0) (in_at ts i l))) ]

-- ---- entering them in order
pub taken_in : (ts : List ℕ) (i u : ℕ) → In u (take i ts) → In u ts
taken_in [] zero u m = m
taken_in [] (suc i) u m = m
taken_in (t ∷ ts) zero u m = absurd m
taken_in (t ∷ ts) (suc i) u (inl e) = inl e
taken_in (t ∷ ts) (suc i) u (inr m) = inr (taken_in ts i u m)

module _ (ts : List ℕ) (a : Ascending ts) (i t : ℕ) (l : i < length ts) (q : t ≡ get_or ts i 0) where
  -- a term that has an earlier one inside it
  pub inside_found : True (take i ts) t → none_inside ts ≡ false
  inside_found h = elim (cases_Bool (none_inside ts)) [ inr e ↦ e | inl e ↦ absurd (none e) ]
    where
      u : ℕ
      u = h.0

      s : Sub h.0 (get_or ts i 0)
      s = subst (λ (y : ℕ). Sub h.0 y) q h.2

      less : h.0 < get_or ts i 0
      less = before_below ts a i l h.0 h.1

      none : none_inside ts ≡ true → ⊥
      none e = elim (or_cases (not (sub h.0 (get_or ts i 0))) (eqb h.0 (get_or ts i 0))
          (every_in (λ v. not (sub h.0 v) || eqb h.0 v) ts
          (every_in (λ t. every (λ v. not (sub t v) || eqb t v) ts) ts e h.0 (taken_in ts i h.0 h.1)) (get_or ts i 0) (in_at ts i l))) [
            | inl n ↦ eqb-false (bit_and h.0 (get_or ts i 0)) h.0 (not-true (sub h.0 (get_or ts i 0)) n) s
            | inr n ↦ (let z : h.0 ≡ get_or ts i 0 = eqb-true h.0 (get_or ts i 0) n in omega (arith, less))
          ]

  -- one that has none
  pub entered_next : (True (take i ts) t → ⊥) → i < most_terms → bounded (enter t (take i ts)) ≡ made (take (i + 1) ts)
  entered_next n m =
      let e : enter t (take i ts) ≡ take (i + 1) ts =
      enter_last (take i ts) t (λ u k. subst (λ (y : ℕ). u < y) (sym q) (before_below ts a i l u k)) (λ u k s. n (u, k, s))
      ∙ ap (λ (y : ℕ). take i ts ++ y ∷ []) q ∙ sym (take_more ts i 0 l) in
      ap bounded e ∙ bounded_made (take (i + 1) ts) (omega (arith, lib.ListN.length-take (i + 1) ts))

-- what comes behind the first
pub tail_at : (ts : List ℕ) (i x : ℕ) → i < length (take (length ts - 1) (drop 1 ts)) → x ≡ get_or (take (length ts - 1) (drop 1 ts)) i x → (i + 1 < length ts) × (x ≡ get_or ts (i + 1) 0)
tail_at ts i x l e =
    let t : take (length ts - 1) (drop 1 ts) ≡ drop 1 ts = take_all (length ts - 1) (drop 1 ts) (omega (arith, length-drop 1 ts)) in
    let a : i < length (drop 1 ts) = subst (λ (ys : List ℕ). i < length ys) t l in
    let b : x ≡ get_or (drop 1 ts) i x = e ∙ ap (λ (ys : List ℕ). get_or ys i x) t in
    let k : 1 + i ≡ i + 1 = omega arith in
    (omega (arith, length-drop 1 ts), get_or_read (drop 1 ts) i x a b 0 ∙ get_or_after_one ts i 0 ∙ ap (λ (j : ℕ). get_or ts j 0) k)

-- a push of one more, where there is room
pub pushed : (r : Result (Unit {0}) Full) (n : ℕ) {A : Type 0} → OnOk r A → OnErr r (n ≡ most_terms) → n < most_terms → A
pushed (Ok u) n a e l = a
pushed (Err x) n a e l = absurd (omega arith)

pub all_entered : (ts f : List ℕ) (i : ℕ) → f ≡ take i ts → length ts ≤ i → f ≡ ts
all_entered ts f i e l = e ∙ take_all i ts l

pub built_refused : (ts : List ℕ) → none_inside ts ≡ false → refused 15 ≡ cond (none_inside ts) (accepted ts) (refused 15)
built_refused ts e = rw e

pub built_accepted : (ts f : List ℕ) → f ≡ ts → Apart f → accepted f ≡ cond (none_inside ts) (accepted ts) (refused 15)
built_accepted ts f e p = rw (e, apart_true ts (subst Apart e p))

pub first_taken : (ts : List ℕ) → 0 < length ts → take 1 ts ≡ get_or ts 0 0 ∷ []
first_taken [] l = absurd (omega arith)
first_taken (t ∷ ts) l = refl

-- a turn that enters a term t, whose cells are the set s, into the form f
module _ (ts f : List ℕ) (a : Ascending ts) (i t s : ℕ) (l : i < length ts) (e : f ≡ take i ts) (q : t ≡ get_or ts i 0) (d : s ≡ t) where
  same_truth : True f s → True (take i ts) t
  same_truth h = subst (λ (y : List ℕ). True y t) e (subst (λ (y : ℕ). True f y) d h)

  truth_same : True (take i ts) t → True f s
  truth_same h = subst (λ (y : ℕ). True f y) (sym d) (subst (λ (y : List ℕ). True y t) (sym e) h)

  pub turn_refused : True f s → refused 15 ≡ cond (none_inside ts) (accepted ts) (refused 15)
  turn_refused h = built_refused ts (inside_found ts a i t l q (same_truth h))

  turn_made : (True f s → ⊥) → i < most_terms → bounded (enter t f) ≡ made (take (i + 1) ts)
  turn_made n m = ap (λ (y : List ℕ). bounded (enter t y)) e ∙ entered_next ts a i t l q (λ h. n (truth_same h)) m

  pub turn_more : (True f s → ⊥) → i < most_terms → (r : Result (Unit {0}) Fault) (g : List ℕ) → told r g ≡ bounded (enter t f) → g ≡ take (i + 1) ts
  turn_more n m (Ok u) g w = let r = turn_made n m in cc
  turn_more n m (Err x) g w = let r = turn_made n m in absurd (let z : ◌≡◌ {A = ℕ} 0 1 = cc in omega arith)
