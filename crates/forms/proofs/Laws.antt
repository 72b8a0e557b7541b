-- What tells two forms apart, and that a form has no term and no cell too many.
use Rattle.std.proofs.Common.{◌≡◌, ℕ, Bool, true, false, cond, eqb, ◌⊎◌, List, [], ◌∷◌, ◌++◌, take, sym, refl, ◌∙◌, subst, inl, inr, arith}
use Rattle.std.proofs.lemmas.Bool.{eqb-true, eqb-false, cases_eq}
use Rattle.forms.specs.Sets.{Sub}
use Rattle.forms.specs.Terms.{In, True, Apart, Terms}
use Rattle.forms.specs.Entering.{covers}
use Rattle.forms.specs.Truth.{SameTruth, OnlyFirst, Differ, outside, telling, replaced, dropped, Irredundant, OnlyOne}
use Rattle.forms.proofs.Bits.{sub_trans, sub_anti, sub_le}
use Rattle.forms.proofs.Forms.{Sound, sound, agree, self_true, unique}
use Rattle.forms.proofs.Entered.{covers_true, covers_false}

-- ---- the terms on which the other is false
in_outside : (f g : List ℕ) (t : ℕ) → In t (outside f g) → In t f × (True g t → ⊥)
in_outside [] g t = λ m. absurd m
in_outside (u ∷ f) g t = go (in_outside f g t) (covers g u) refl
  where
    go : (In t (outside f g) → In t f × (True g t → ⊥)) → (b : Bool) → covers g u ≡ b
        → In t (cond b (outside f g) (u ∷ outside f g)) → In t (u ∷ f) × (True g t → ⊥)
    go ih true e m = (inr (ih m).0, (ih m).1)
    go ih false e (inl p) = (inl p, λ h. covers_false g u e h.0 h.1 (subst (λ (y : ℕ). Sub h.0 y) p h.2))
    go ih false e (inr m) = (inr (ih m).0, (ih m).1)

outside_none : (f g : List ℕ) → outside f g ≡ [] → (t : ℕ) → In t f → True g t
outside_none [] g e t m = absurd m
outside_none (u ∷ f) g e t m = go (λ z n. outside_none f g z t n) (covers g u) refl e m
  where
    here : (outside f g ≡ [] → In t f → True g t) → True g u → outside f g ≡ [] → In t (u ∷ f) → True g t
    here ih h z (inl p) = subst (λ (y : ℕ). True g y) (sym p) h
    here ih h z (inr n) = ih z n

    go : (outside f g ≡ [] → In t f → True g t) → (b : Bool) → covers g u ≡ b → cond b (outside f g) (u ∷ outside f g) ≡ [] → In t (u ∷ f) → True g t
    go ih true q z n = here ih (covers_true g u q) z n
    go ih false q z n = absurd (let y : ◌≡◌ {A = ℕ} 0 1 = cc in omega arith)

first_in : (xs : List ℕ) (t : ℕ) → t ∷ [] ≡ take 1 xs → In t xs
first_in [] t e = absurd (let y : ◌≡◌ {A = ℕ} 0 1 = cc in omega arith)
first_in (x ∷ xs) t e = inl (let q : t ≡ x = cc in q)

none_left : (xs : List ℕ) → [] ≡ take 1 xs → xs ≡ []
none_left [] e = refl
none_left (x ∷ xs) e = absurd (let y : ◌≡◌ {A = ℕ} 0 1 = cc in omega arith)

append_none : (xs ys : List ℕ) → xs ++ ys ≡ [] → (xs ≡ []) × (ys ≡ [])
append_none [] ys e = (refl, e)
append_none (x ∷ xs) ys e = absurd (let y : ◌≡◌ {A = ℕ} 0 1 = cc in omega arith)

in_both : (xs ys : List ℕ) (t : ℕ) → In t (xs ++ ys) → In t xs ⊎ In t ys
in_both [] ys t m = inr m
in_both (x ∷ xs) ys t (inl e) = inl (inl e)
in_both (x ∷ xs) ys t (inr m) = elim (in_both xs ys t m) [ inl n ↦ inl (inr n) | inr n ↦ inr n ]

module _ (f g : List ℕ) where
  pub telling_some : (t : ℕ) → t ∷ [] ≡ take 1 (telling f g) → OnlyFirst f g t ⊎ OnlyFirst g f t
  telling_some t e = elim (in_both (outside f g) (outside g f) t (first_in (telling f g) t e)) [
    | inl m ↦ inl (self_true f t (in_outside f g t m).0, (in_outside f g t m).1)
    | inr m ↦ inr (self_true g t (in_outside g f t m).0, (in_outside g f t m).1)
  ]

  pub telling_none : Sound f → Sound g → [] ≡ take 1 (telling f g) → f ≡ g
  telling_none w v e =
      let z = append_none (outside f g) (outside g f) (none_left (telling f g) e) in
      agree f g w v (outside_none f g z.0) (outside_none g f z.1)

-- ---- forms that are true on the same sets
pub same_truth : (f g : List ℕ) → f ≡ g → SameTruth f g
same_truth f g e = subst (λ (y : List ℕ). SameTruth f y) e (λ s l. (λ h. h, λ h. h))

-- ---- a form has nothing too many
in_dropped : (t : ℕ) (f : List ℕ) (u : ℕ) → In u (dropped t f) → In u f × (u ≡ t → ⊥)
in_dropped t [] u = λ m. absurd m
in_dropped t (v ∷ f) u = go (in_dropped t f u) (eqb t v) refl
  where
    go : (In u (dropped t f) → In u f × (u ≡ t → ⊥)) → (b : Bool) → eqb t v ≡ b
        → In u (cond b (dropped t f) (v ∷ dropped t f)) → In u (v ∷ f) × (u ≡ t → ⊥)
    go ih true e m = (inr (ih m).0, (ih m).1)
    go ih false e (inl p) = (inl p, λ q. eqb-false t v e (sym q ∙ p))
    go ih false e (inr m) = (inr (ih m).0, (ih m).1)

dropped_in : (t : ℕ) (f : List ℕ) (u : ℕ) → In u f → (u ≡ t → ⊥) → In u (dropped t f)
dropped_in t [] u m n = m
dropped_in t (v ∷ f) u m n = go (dropped_in t f u) (eqb t v) refl m
  where
    go : (In u f → (u ≡ t → ⊥) → In u (dropped t f)) → (b : Bool) → eqb t v ≡ b → In u (v ∷ f) → In u (cond b (dropped t f) (v ∷ dropped t f))
    go ih true e (inl p) = absurd (n (p ∙ sym (eqb-true t v e)))
    go ih true e (inr k) = ih k n
    go ih false e (inl p) = inl p
    go ih false e (inr k) = inr (ih k n)

replaced_in : (t u : ℕ) (f : List ℕ) → In t f → In u (replaced t u f)
replaced_in t u [] m = m
replaced_in t u (v ∷ f) m = go (replaced_in t u f) (eqb t v) refl m
  where
    go : (In t f → In u (replaced t u f)) → (b : Bool) → eqb t v ≡ b → In t (v ∷ f) → In u (cond b (u ∷ replaced t u f) (v ∷ replaced t u f))
    go ih true e m = inl refl
    go ih false e (inl p) = absurd (eqb-false t v e p)
    go ih false e (inr k) = inr (ih k)

pub irredundant : (f : List ℕ) → Apart f → Terms f → Irredundant f
irredundant f a w = record { terms = terms; cells = cells }
  where
    terms : (t : ℕ) → In t f → Differ f (dropped t f)
    terms t m = (t, (w t m).1, inl (self_true f t m, λ h. (in_dropped t f h.0 h.1).1 (a h.0 t (in_dropped t f h.0 h.1).0 m h.2)))

    cells : (t u : ℕ) → In t f → Sub u t → (u ≡ t → ⊥) → Differ f (replaced t u f)
    cells t u m s n = (
      u,
      (let l = (w t m).1 in omega (arith, sub_le u t s)),
      inr (
        self_true (replaced t u f) u (replaced_in t u f m),
        λ h. let e : h.0 ≡ t = a h.0 t h.1 m (sub_trans h.0 u t h.2 s) in
            n (sub_anti u t s (subst (λ (y : ℕ). Sub y u) e h.2)),
      ),
    )

irredundant_apart : (g : List ℕ) → Irredundant g → Apart g
irredundant_apart g i t u m n s = elim (cases_eq t u) [ inl e ↦ e | inr k ↦ absurd (none k (i.terms u n)) ]
  where
    still : (t ≡ u → ⊥) → (x : ℕ) → True g x → True (dropped u g) x
    still k x h = elim (cases_eq h.0 u) [
      | inl e ↦ (t, dropped_in u g t m k, sub_trans t u x s (subst (λ (y : ℕ). Sub y x) e h.2))
      | inr j ↦ (h.0, dropped_in u g h.0 h.1 j, h.2)
    ]

    none : (t ≡ u → ⊥) → Differ g (dropped u g) → ⊥
    none k d = elim d.2 [
      | inl p ↦ p.1 (still k d.0 p.0)
      | inr p ↦ p.1 (p.0.0, (in_dropped u g p.0.0 p.0.1).0, p.0.2)
    ]

pub only_one : (f : List ℕ) → Sound f → Terms f → OnlyOne f
only_one f w a g b o i h = sym (unique f g w (sound g o (irredundant_apart g i)) a b h)
