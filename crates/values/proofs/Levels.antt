-- Levels: an element is at most a form's value exactly when the form is true on the cells whose element it is at most.
use Rattle.std.proofs.Common.{◌≡◌, ℕ, ◌^◌, ◌<◌, Bool, true, false, cond, ◌⊎◌, List, [], ◌∷◌, ◌++◌, sym, refl, subst, inl, inr, arith}
use Rattle.forms.specs.Sets.{cells}
use Rattle.forms.specs.Terms.{In, Inside, TrueOn, Terms}
use Rattle.elements.specs.Order.{lesser, greater}
use Rattle.values.specs.Value.{Ordered, least_of, greatest_of, over, least, value}
use Rattle.forms.proofs.Listed.{cells_in, in_cells, cells_some}

-- a is at most b
abbrev pub Le : {E : Type 0} → (E → E → Bool) → E → E → Type 0
Le le a b = le a b ≡ true

module _ {E : Type 0} (le : E → E → Bool) (o : Ordered le) where
  -- an element is below the lesser where it is below both, and below the greater where it is below one
  pub lesser_to : (u a b : E) → Le le u (lesser le a b) → Le le u a × Le le u b
  lesser_to u a b = go (le a b) refl
    where
      go : (s : Bool) → le a b ≡ s → Le le u (cond s a b) → Le le u a × Le le u b
      go true e h = (h, o.transitive u a b h e)
      go false e h = (o.transitive u b a h (o.total a b e), h)

  pub lesser_from : (u a b : E) → Le le u a → Le le u b → Le le u (lesser le a b)
  lesser_from u a b h k = go (le a b)
    where
      go : (s : Bool) → Le le u (cond s a b)
      go true = h
      go false = k

  pub greater_to : (u a b : E) → Le le u (greater le a b) → Le le u a ⊎ Le le u b
  greater_to u a b = go (le a b)
    where
      go : (s : Bool) → Le le u (cond s b a) → Le le u a ⊎ Le le u b
      go true h = inr h
      go false h = inl h

  pub greater_from : (u a b : E) → Le le u a ⊎ Le le u b → Le le u (greater le a b)
  greater_from u a b = go (le a b) refl
    where
      go : (s : Bool) → le a b ≡ s → Le le u a ⊎ Le le u b → Le le u (cond s b a)
      go true e (inl h) = o.transitive u a b h e
      go true e (inr h) = h
      go false e (inl h) = h
      go false e (inr h) = o.transitive u b a h (o.total a b e)

  -- elements with the same elements below them are the same
  pub by_levels : (a b : E) → ((u : E) → Le le u a → Le le u b) → ((u : E) → Le le u b → Le le u a) → a ≡ b
  by_levels a b p q = o.antisymmetric a b (p a (o.reflexive a)) (q b (o.reflexive b))

  module _ (x : ℕ → E) (u : E) where
    pub least_of_to : (c : ℕ) (cs : List ℕ) → Le le u (least_of le x c cs) → (d : ℕ) → In d (c ∷ cs) → Le le u (x d)
    least_of_to c [] h d (inl e) = subst (λ (y : ℕ). Le le u (x y)) (sym e) h
    least_of_to c [] h d (inr m) = absurd m
    least_of_to c (k ∷ cs) h d (inl e) = subst (λ (y : ℕ). Le le u (x y)) (sym e) (lesser_to u (x c) (least_of le x k cs) h).0
    least_of_to c (k ∷ cs) h d (inr m) = least_of_to k cs (lesser_to u (x c) (least_of le x k cs) h).1 d m

    pub least_of_from : (c : ℕ) (cs : List ℕ) → ((d : ℕ) → In d (c ∷ cs) → Le le u (x d)) → Le le u (least_of le x c cs)
    least_of_from c [] h = h c (inl refl)
    least_of_from c (k ∷ cs) h = lesser_from u (x c) (least_of le x k cs) (h c (inl refl)) (least_of_from k cs (λ d m. h d (inr m)))

    pub greatest_of_to : (c : ℕ) (cs : List ℕ) → Le le u (greatest_of le x c cs) → (d : ℕ) × In d (c ∷ cs) × Le le u (x d)
    greatest_of_to c [] h = (c, inl refl, h)
    greatest_of_to c (k ∷ cs) h =
        elim (greater_to u (x c) (greatest_of le x k cs) h)
        [ inl p ↦ (c, inl refl, p) | inr q ↦ (let (d, m, r) = greatest_of_to k cs q in (d, inr m, r)) ]

    pub greatest_of_from : (c : ℕ) (cs : List ℕ) (d : ℕ) → In d (c ∷ cs) → Le le u (x d) → Le le u (greatest_of le x c cs)
    greatest_of_from c [] d (inl e) h = subst (λ (y : ℕ). Le le u (x y)) e h
    greatest_of_from c [] d (inr m) h = absurd m
    greatest_of_from c (k ∷ cs) d (inl e) h = greater_from u (x c) (greatest_of le x k cs) (inl (subst (λ (y : ℕ). Le le u (x y)) e h))
    greatest_of_from c (k ∷ cs) d (inr m) h = greater_from u (x c) (greatest_of le x k cs) (inr (greatest_of_from k cs d m h))

  -- an element is below a term's least where it is below each cell's,
  -- and below a form's value where the form is true on the cells whose element it is below
  module _ (x : ℕ → E) (u : E) where
    pub least_in : (t : ℕ) → (cells t ≡ [] → ⊥) → Le le u (least le x t) → Inside t (λ c. Le le u (x c))
    unfolding least
    least_in t n h c l k = go (cells t) n h (cells_in t c l k)
      where
        go : (cs : List ℕ) → (cs ≡ [] → ⊥) → Le le u (over (x 0) (least_of le x) cs) → In c cs → Le le u (x c)
        go [] n h m = absurd m
        go (d ∷ ds) n h m = least_of_to x u d ds h c m

    pub least_out : (t : ℕ) → (cells t ≡ [] → ⊥) → Inside t (λ c. Le le u (x c)) → Le le u (least le x t)
    unfolding least
    least_out t n h = go (cells t) n (λ c m. h c (in_cells t c m).0 (in_cells t c m).1)
      where
        go : (cs : List ℕ) → (cs ≡ [] → ⊥) → ((c : ℕ) → In c cs → Le le u (x c)) → Le le u (over (x 0) (least_of le x) cs)
        go [] n h = absurd (n refl)
        go (d ∷ ds) n h = least_of_from x u d ds h

    pub least_to : (t : ℕ) → 0 < t → t < 2 ^ 63 → Le le u (least le x t) → Inside t (λ c. Le le u (x c))
    least_to t p q = least_in t (cells_some t p q)

    pub least_from : (t : ℕ) → 0 < t → t < 2 ^ 63 → Inside t (λ c. Le le u (x c)) → Le le u (least le x t)
    least_from t p q = least_out t (cells_some t p q)

    pub value_to : (f : List ℕ) → (f ≡ [] → ⊥) → Terms f → Le le u (value le x f) → TrueOn f (λ c. Le le u (x c))
    unfolding value
    value_to [] n w h = absurd (n refl)
    value_to (t ∷ f) n w h =
        let (d, m, r) = greatest_of_to (least le x) u t f h in
        (d, m, least_to d (w d m).0 (w d m).1 r)

    pub value_from : (f : List ℕ) → (f ≡ [] → ⊥) → Terms f → TrueOn f (λ c. Le le u (x c)) → Le le u (value le x f)
    unfolding value
    value_from [] n w h = absurd (n refl)
    value_from (t ∷ f) n w h =
        greatest_of_from (least le x) u t f h.0 h.1 (least_from h.0 (w h.0 h.1).0 (w h.0 h.1).1 h.2)

-- one more term at the end
in_push : (f : List ℕ) (t u : ℕ) → In u (f ++ t ∷ []) → In u f ⊎ (u ≡ t)
in_push [] t u (inl e) = inr e
in_push [] t u (inr m) = absurd m
in_push (v ∷ f) t u (inl e) = inl (inl e)
in_push (v ∷ f) t u (inr m) = elim (in_push f t u m) [ inl n ↦ inl (inr n) | inr e ↦ inr e ]

push_in : (f : List ℕ) (t u : ℕ) → In u f ⊎ (u ≡ t) → In u (f ++ t ∷ [])
push_in [] t u (inl m) = absurd m
push_in [] t u (inr e) = inl e
push_in (v ∷ f) t u (inl (inl e)) = inl e
push_in (v ∷ f) t u (inl (inr m)) = inr (push_in f t u (inl m))
push_in (v ∷ f) t u (inr e) = inr (push_in f t u (inr e))

module _ {E : Type 0} (le : E → E → Bool) (o : Ordered le) (x : ℕ → E) (f : List ℕ) (t : ℕ)
    (n : f ≡ [] → ⊥) (w : Terms f) (p : 0 < t) (q : t < 2 ^ 63) where
  push_terms : Terms (f ++ t ∷ [])
  push_terms u m = elim (in_push f t u m) [ inl k ↦ w u k | inr e ↦ (omega arith, omega arith) ]

  push_some : f ++ t ∷ [] ≡ [] → ⊥
  push_some e = subst (λ (y : List ℕ). In t y) e (push_in f t t (inr refl))

  push_levels : (u : E) → TrueOn (f ++ t ∷ []) (λ c. Le le u (x c)) → Le le u (value le x f) ⊎ Le le u (least le x t)
  push_levels u h = elim (in_push f t h.0 h.1) [
    | inl m ↦ inl (value_from le o x u f n w (h.0, m, h.2))
    | inr e ↦ inr (least_from le o x u t p q (subst (λ (y : ℕ). Inside y (λ c. Le le u (x c))) e h.2))
  ]

  levels_push : (u : E) → Le le u (value le x f) ⊎ Le le u (least le x t) → TrueOn (f ++ t ∷ []) (λ c. Le le u (x c))
  levels_push u (inl h) = let (v, m, k) = value_to le o x u f n w h in (v, push_in f t v (inl m), k)
  levels_push u (inr h) = (t, push_in f t t (inr refl), least_to le o x u t p q h)

  pub value_push : value le x (f ++ t ∷ []) ≡ greater le (value le x f) (least le x t)
  value_push = by_levels le o (value le x (f ++ t ∷ [])) (greater le (value le x f) (least le x t))
      (λ u h. greater_from le o u (value le x f) (least le x t) (push_levels u (value_to le o x u (f ++ t ∷ []) push_some push_terms h)))
      (λ u h. value_from le o x u (f ++ t ∷ []) push_some push_terms (levels_push u (greater_to le o u (value le x f) (least le x t) h)))

pub value_one : {E : Type 0} (le : E → E → Bool) (x : ℕ → E) (t : ℕ) → value le x (t ∷ []) ≡ least le x t
unfolding value
value_one le x t = refl
