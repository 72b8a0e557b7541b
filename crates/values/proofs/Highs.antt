-- Going through the terms of a form, with the greatest of their least elements so far.
use Rattle.std.proofs.Common.{◌≡◌, ℕ, Bool, List, [], ◌∷◌, ◌++◌, fold, sym, ap, ◌∙◌, subst, inl, inr, append_assoc, append-nil}
use Rattle.elements.specs.Order.{greater}
use Rattle.forms.specs.Terms.{In, Terms}
use Rattle.values.specs.Value.{Ordered, least, value}
use Rattle.values.proofs.Levels.{value_push, value_one}

-- the greatest so far, after one term more
abbrev pub higher : {E : Type 0} → (E → E → Bool) → (ℕ → E) → E → ℕ → E
higher le x high t = greater le high (least le x t)

module _ {E : Type 0} (le : E → E → Bool) (o : Ordered le) (x : ℕ → E) where
  some_push : (f : List ℕ) (t : ℕ) → f ++ t ∷ [] ≡ [] → ⊥
  some_push [] t e = absurd (cc)
  some_push (u ∷ f) t e = absurd (cc)

  terms_push : (f : List ℕ) (t : ℕ) (ts : List ℕ) → Terms f → Terms (t ∷ ts) → Terms (f ++ t ∷ [])
  terms_push [] t ts v w u (inl e) = w u (inl e)
  terms_push [] t ts v w u (inr m) = absurd m
  terms_push (d ∷ f) t ts v w u (inl e) = v u (inl e)
  terms_push (d ∷ f) t ts v w u (inr m) = terms_push f t ts (λ y n. v y (inr n)) w u m

  go_on : (f ts : List ℕ) → (f ≡ [] → ⊥) → Terms f → Terms ts → fold (higher le x) (value le x f) ts ≡ value le x (f ++ ts)
  go_on f [] n v w = ap (value le x) (sym (append-nil f))
  go_on f (t ∷ ts) n v w =
      let b = w t (inl (let e : t ≡ t = cc in e)) in
      ap (λ (h : E). fold (higher le x) h ts) (sym (value_push le o x f t n v b.0 b.1))
      ∙ go_on (f ++ t ∷ []) ts (some_push f t) (terms_push f t ts v w) (λ u m. w u (inr m))
      ∙ ap (value le x) (append_assoc f (t ∷ []) ts)

  pub whole_value : (t : ℕ) (ts : List ℕ) (high : E) → Terms (t ∷ ts) → high ≡ least le x t → fold (higher le x) high ts ≡ value le x (t ∷ ts)
  whole_value t ts high w e =
      ap (λ (h : E). fold (higher le x) h ts) (e ∙ sym (value_one le x t))
      ∙ go_on (t ∷ []) ts (λ q. absurd (cc)) (λ u m. elim m [ inl d ↦ w u (inl d) | inr n ↦ absurd n ]) (λ u m. w u (inr m))
