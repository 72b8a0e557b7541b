-- Windows on which two forms differ.
use Rattle.std.proofs.Common.{◌≡◌, ℕ, ◌-◌, ◌^◌, ◌<◌, Bool, true, false, cond, eqb, ◌⊎◌, List, [], ◌∷◌, get_or, take, sym, refl, ap, ◌∙◌, subst, ap₂, inl, inr, arith}
use Rattle.std.proofs.lemmas.List.{get_or-take}
use Rattle.std.proofs.lemmas.Bool.{eqb-true, eqb-false, both_ways}
use Rattle.elements.specs.Order.{lesser, greater}
use Rattle.forms.specs.Sets.{bit, Has, cells}
use Rattle.forms.specs.Terms.{True, TrueOn}
use Rattle.forms.specs.Truth.{OnlyFirst}
use Rattle.forms.proofs.Bits.{bridge}
use Rattle.forms.proofs.Listed.{in_cells, cells_some}
use Rattle.values.specs.declared.windows.Window.{Window}
use Rattle.values.specs.Value.{Ordered, value, marked}
use Rattle.values.specs.Windows.{element_at}
use Rattle.values.specs.Telling.{Marked, MarkLaw}
use Rattle.values.specs.Laws.{Whole}
use Rattle.values.proofs.Wholes.{some_term}
use Rattle.values.proofs.Levels.{Le, by_levels, value_to, value_from}

pub first_telling : (ts : List ℕ) (t : ℕ) → t ∷ [] ≡ take 1 ts → get_or ts 0 0 ≡ t
first_telling ts t e = sym (ap (λ (l : List ℕ). get_or l 0 0) e ∙ get_or-take 1 ts 0 0 (omega arith))

pub none_telling : (ts : List ℕ) → [] ≡ take 1 ts → ts ≡ []
none_telling [] e = refl
none_telling (t ∷ ts) e = cc

pub apart : (f g : List ℕ) (s : ℕ) → OnlyFirst f g s ⊎ OnlyFirst g f s → f ≡ g → ⊥
apart f g s (inl p) e = p.1 (subst (λ (h : List ℕ). True h s) e p.0)
apart f g s (inr p) e = p.1 (subst (λ (h : List ℕ). True h s) (sym e) p.0)

pub marked_as : {E : Type 0} (w : Window E) (s : ℕ) (l h low high : E) → l ≡ low → h ≡ high → Marked w l h s → Marked w low high s
marked_as w s l h low high p q m d c k = m d c k ∙ ap₂ (λ y z. marked y z s c) p q

some_cell : (t : ℕ) → 0 < t → t < 2 ^ 63 → (c : ℕ) × (c < 63) × Has t c
some_cell t p q = let (c, m) = some_term (cells t) (cells_some t p q) in (c, (in_cells t c m).0, (in_cells t c m).1)

module _ {E : Type 0} (le : E → E → Bool) (o : Ordered le) where
  -- the value depends on the elements at the cells alone
  pub value_cells : (x y : ℕ → E) (f : List ℕ) → Whole f → ((c : ℕ) → c < 63 → x c ≡ y c) → value le x f ≡ value le y f
  value_cells x y f w h = by_levels le o (value le x f) (value le y f)
      (λ u k. let (t, m, i) = value_to le o x u f w.some w.sets k in
      value_from le o y u f w.some w.sets (t, m, λ c l j. subst (λ (z : E). Le le u z) (h c l) (i c l j)))
      (λ u k. let (t, m, i) = value_to le o y u f w.some w.sets k in
      value_from le o x u f w.some w.sets (t, m, λ c l j. subst (λ (z : E). Le le u z) (sym (h c l)) (i c l j)))

  pub ends : (a b : E) → Le le (lesser le a b) (greater le a b)
  ends a b = go (le a b) refl
    where
      go : (s : Bool) → le a b ≡ s → Le le (cond s a b) (cond s b a)
      go true e = e
      go false e = o.total a b e

  pub unequal : (a b : E) → (a ≡ b → ⊥) → lesser le a b ≡ greater le a b → ⊥
  unequal a b n = go (le a b)
    where
      go : (s : Bool) → cond s a b ≡ cond s b a → ⊥
      go true e = n e
      go false e = n (sym e)

  module _ (low high : E) (up : Le le low high) (s : ℕ) where
    -- the element at a cell is high or low, as the cell is in s or not
    at : (c : ℕ) → (Has s c × (marked low high s c ≡ high)) ⊎ ((Has s c → ⊥) × (marked low high s c ≡ low))
    at c = go (eqb (bit s (62 - c)) 1) refl
      where
        go : (b : Bool) → eqb (bit s (62 - c)) 1 ≡ b → (Has s c × (cond b high low ≡ high)) ⊎ ((Has s c → ⊥) × (cond b high low ≡ low))
        go true e = inl (eqb-true (bit s (62 - c)) 1 e, refl)
        go false e = inr (eqb-false (bit s (62 - c)) 1 e, refl)

    under_high : (c : ℕ) → Le le (marked low high s c) high
    under_high c = elim (at c)
        [ inl p ↦ subst (λ (y : E). Le le y high) (sym p.1) (o.reflexive high) | inr p ↦ subst (λ (y : E). Le le y high) (sym p.1) up ]

    over_low : (c : ℕ) → Le le low (marked low high s c)
    over_low c = elim (at c)
        [ inl p ↦ subst (λ (y : E). Le le low y) (sym p.1) up | inr p ↦ subst (λ (y : E). Le le low y) (sym p.1) (o.reflexive low) ]

    in_high : (c : ℕ) → Has s c → Le le high (marked low high s c)
    in_high c h = elim (at c)
        [ inl p ↦ subst (λ (y : E). Le le high y) (sym p.1) (o.reflexive high) | inr p ↦ absurd (p.0 h) ]

    module _ (f : List ℕ) (w : Whole f) where
      abbrev got : E
      got = value le (marked low high s) f

      -- a term all of whose elements are at least the value
      witness : TrueOn f (λ c. Le le got (marked low high s c))
      witness = value_to le o (marked low high s) (value le (marked low high s) f) f w.some w.sets (o.reflexive (value le (marked low high s) f))

      got_under : Le le got high
      got_under =
          let (t, m, k) = witness in
          let (c, l, h) = some_cell t (w.sets t m).0 (w.sets t m).1 in
          o.transitive got (marked low high s c) high (k c l h) (under_high c)

      got_over : Le le low got
      got_over =
          let (t, m) = some_term f w.some in
          value_from le o (marked low high s) low f w.some w.sets (t, m, λ c l k. over_low c)

      got_high : True f s → got ≡ high
      got_high (t, m, k) =
          o.antisymmetric got high got_under
          (value_from le o (marked low high s) high f w.some w.sets (t, m, λ c l h. in_high c ((bridge t s (w.sets t m).1).0 k c l h)))

      got_low : (True f s → ⊥) → got ≡ low
      got_low n = o.antisymmetric got low (go (le got low) refl) got_over
        where
          go : (b : Bool) → le got low ≡ b → Le le got low
          go true e = e
          go false e =
              let (t, m, k) = witness in
              absurd (n (
                t,
                m,
                (bridge t s (w.sets t m).1).1 (λ c l h. elim (at c)
                    [ inl p ↦ p.0 | inr p ↦ absurd (both_ways (le got low) e (subst (λ (y : E). Le le got y) p.1 (k c l h))) ]),
              ))

  pub mark_value : MarkLaw le
  mark_value low high up f w s = (got_high low high up s f w, got_low low high up s f w)

  pub told_values : (a b : E) → (a ≡ b → ⊥) → (f g : List ℕ) → Whole f → Whole g → (s : ℕ) → OnlyFirst f g s ⊎ OnlyFirst g f s
      → (w : Window E) (d : E) → Marked w (lesser le a b) (greater le a b) s
      → value le (element_at w d) f ≡ value le (element_at w d) g → ⊥
  told_values a b n f g wf wg s p w d m e =
      elim p [ inl q ↦ tell (sym (high f wf q.0) ∙ e ∙ low g wg q.1) | inr q ↦ tell (sym (high g wg q.0) ∙ sym e ∙ low f wf q.1) ]
    where
      same : (h : List ℕ) → Whole h → value le (element_at w d) h ≡ value le (marked (lesser le a b) (greater le a b) s) h
      same h k = value_cells (element_at w d) (marked (lesser le a b) (greater le a b) s) h k (m d)

      high : (h : List ℕ) → Whole h → True h s → value le (element_at w d) h ≡ greater le a b
      high h k t = same h k ∙ (mark_value (lesser le a b) (greater le a b) (ends a b) h k s).0 t

      low : (h : List ℕ) → Whole h → (True h s → ⊥) → value le (element_at w d) h ≡ lesser le a b
      low h k t = same h k ∙ (mark_value (lesser le a b) (greater le a b) (ends a b) h k s).1 t

      tell : greater le a b ≡ lesser le a b → ⊥
      tell q = unequal a b n (sym q)
