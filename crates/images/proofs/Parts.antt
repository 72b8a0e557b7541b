-- A row in three parts: left of the frame, in it, right of it.
use Rattle.std.proofs.Common.{◌≡◌, ℕ, ◌+◌, ◌-◌, ◌<◌, List, ◌++◌, length, get_or, ℤ, pos, ◌+ℤ◌, sym, ap, ◌∙◌, inl, inr, arith}
use Rattle.std.proofs.lemmas.List.{get_or_append_left, get_or-append_right}
use Rattle.std.proofs.lemmas.Bool.{cases_lt}
use Rattle.sources.specs.Edges.{nearest}
use Rattle.images.specs.declared.span.Span.{Span}
use Rattle.images.specs.Rows.{Spanned}

-- the first n of xs are those of f from a place on
abbrev pub Holds : {E : Type 0} → (ℕ → E) → ℕ → List E → Type 0
Holds {E} f n xs = (k : ℕ) (d : E) → k < n → get_or xs k d ≡ f k

pub row_joined : {E : Type 0} (f : ℕ → E) (w : ℕ) (first : ℤ) (count : ℕ) (s : Span) (left middle right : List E) → Spanned w first count s
    → length left ≡ s.before → length middle ≡ s.inside → length right + (s.before + s.inside) ≡ count
    → Holds (λ k. f 0) (length left) left → Holds (λ k. f (s.skip + k)) (length middle) middle → Holds (λ k. f (w - 1)) (length right) right
    → Holds (λ k. f (nearest w (first +ℤ pos k))) count (left ++ (middle ++ right))
row_joined f w first count s left middle right spans a b c x y z k d l = elim (cases_lt k s.before) [
  | inl p ↦ get_or_append_left left (middle ++ right) d k (omega arith) ∙ x k d (omega arith) ∙ ap f (sym (spans.left k p))
  | inr p ↦
      get_or-append_right left (middle ++ right) s.before k d a p
      ∙ elim (cases_lt k (s.before + s.inside)) [
        | inl q ↦ get_or_append_left middle right d (k - s.before) (omega arith) ∙ y (k - s.before) d (omega arith) ∙ ap f (sym (spans.middle k p q))
        | inr q ↦ get_or-append_right middle right s.inside (k - s.before) d b (omega arith) ∙ z (k - s.before - s.inside) d (omega arith) ∙ ap f (sym (spans.right k q l))
      ]
]
