-- The values of joined forms, for every ordered kind.
use Rattle.std.proofs.Common.{◌≡◌, ℕ, Bool, ◌⊎◌, List, ℤ, ◌+ℤ◌, inl, inr}
use Rattle.forms.specs.Window.{row_of, column_of}
use Rattle.forms.specs.Terms.{TrueOn}
use Rattle.forms.specs.Places.{TrueAt}
use Rattle.forms.specs.Entering.{made}
use Rattle.elements.specs.Order.{lesser, greater}
use Rattle.values.specs.Value.{Ordered, value}
use Rattle.values.specs.Laws.{Whole, seen}
use Rattle.values.proofs.Levels.{Le, by_levels, lesser_to, lesser_from, greater_to, greater_from, value_to, value_from}
use Rattle.values.proofs.Wholes.{max_whole, min_whole, compose_whole}
use Rattle.joins.specs.Joins.{max_of, min_of, compose}
use Rattle.joins.proofs.Entries.{all_to, all_from, min_to, min_from}
use Rattle.joins.proofs.Composed.{compose_to, compose_from}

module _ {E : Type 0} (most : E → E → Bool) (o : Ordered most) where
  -- f is true on the cells whose element is at least u
  abbrev Reached : (ℕ → E) → E → List ℕ → Type 0
  Reached x u f = TrueOn f (λ c. Le most u (x c))

  module _ (x : ℕ → E) (f g h : List ℕ) (wf : Whole f) (wg : Whole g) where
    pub max_value : max_of f g ≡ made h → value most x h ≡ greater most (value most x f) (value most x g)
    max_value e = let wh : Whole h = max_whole f g h wf wg e in
        by_levels most o (value most x h) (greater most (value most x f) (value most x g))
        (λ u k. greater_from most o u (value most x f) (value most x g) (up u (all_to (λ c. Le most u (x c)) g f h e (value_to most o x u h wh.some wh.sets k))))
        (λ u k. value_from most o x u h wh.some wh.sets (all_from (λ c. Le most u (x c)) g f h e (down u (greater_to most o u (value most x f) (value most x g) k))))
      where
        up : (u : E) → Reached x u f ⊎ Reached x u g → Le most u (value most x f) ⊎ Le most u (value most x g)
        up u (inl k) = inl (value_from most o x u f wf.some wf.sets k)
        up u (inr k) = inr (value_from most o x u g wg.some wg.sets k)

        down : (u : E) → Le most u (value most x f) ⊎ Le most u (value most x g) → Reached x u f ⊎ Reached x u g
        down u (inl k) = inl (value_to most o x u f wf.some wf.sets k)
        down u (inr k) = inr (value_to most o x u g wg.some wg.sets k)

    pub min_value : min_of f g ≡ made h → value most x h ≡ lesser most (value most x f) (value most x g)
    min_value e = let wh : Whole h = min_whole f g h wf wg e in
        by_levels most o (value most x h) (lesser most (value most x f) (value most x g))
        (λ u k. let p = min_to (λ c. Le most u (x c)) f g h e (value_to most o x u h wh.some wh.sets k) in
        lesser_from most o u (value most x f) (value most x g) (value_from most o x u f wf.some wf.sets p.0) (value_from most o x u g wg.some wg.sets p.1))
        (λ u k. let p = lesser_to most o u (value most x f) (value most x g) k in
        value_from most o x u h wh.some wh.sets
        (min_from (λ c. Le most u (x c)) f g h e (value_to most o x u f wf.some wf.sets p.0) (value_to most o x u g wg.some wg.sets p.1)))

  -- the value of e after f is the value of e over the values of f
  pub compose_value : (x : ℤ → ℤ → E) (r c : ℤ) (e f h : List ℕ) → Whole e → Whole f → compose e f ≡ made h
      → value most (seen x r c) h ≡ value most (seen (λ p q. value most (seen x p q) f) r c) e
  compose_value x r c e f h we wf d = let wh : Whole h = compose_whole e f h we wf d in
      by_levels most o (value most (seen x r c) h) (value most (seen (λ p q. value most (seen x p q) f) r c) e)
      (λ u k. value_from most o (seen (λ p q. value most (seen x p q) f) r c) u e we.some we.sets
      (up u (compose_to (λ p q. Le most u (x p q)) r c e f h we.sets wf.sets d (value_to most o (seen x r c) u h wh.some wh.sets k))))
      (λ u k. value_from most o (seen x r c) u h wh.some wh.sets
      (compose_from (λ p q. Le most u (x p q)) r c e f h we.sets wf.sets d
      (down u (value_to most o (seen (λ p q. value most (seen x p q) f) r c) u e we.some we.sets k))))
    where
      up : (u : E) → TrueAt e (TrueAt f (λ p q. Le most u (x p q))) r c → TrueOn e (λ k. Le most u (seen (λ p q. value most (seen x p q) f) r c k))
      up u t = (t.0, t.1, λ k l i. value_from most o (seen x (r +ℤ row_of k) (c +ℤ column_of k)) u f wf.some wf.sets (t.2 k l i))

      down : (u : E) → TrueOn e (λ k. Le most u (seen (λ p q. value most (seen x p q) f) r c k)) → TrueAt e (TrueAt f (λ p q. Le most u (x p q))) r c
      down u t = (t.0, t.1, λ k l i. value_to most o (seen x (r +ℤ row_of k) (c +ℤ column_of k)) u f wf.some wf.sets (t.2 k l i))
