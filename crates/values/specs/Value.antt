-- The value of a form over elements of an ordered kind, one for each cell.
use Rattle.std.specs.Prelude.{◌≡◌, ℕ, ◌-◌, Bool, true, false, cond, List, [], ◌∷◌, ◌==◌}
use Rattle.elements.specs.Order.{lesser, greater}
use Rattle.forms.specs.Sets.{bit, cells}

-- the test `most` (at most) is a total order
pub record Ordered {E : Type 0} (most : E → E → Bool) : Type 0 where
  pub reflexive : (a : E) → most a a ≡ true
  pub total : (a b : E) → most a b ≡ false → most b a ≡ true
  pub antisymmetric : (a b : E) → most a b ≡ true → most b a ≡ true → a ≡ b
  pub transitive : (a b c : E) → most a b ≡ true → most b c ≡ true → most a c ≡ true

-- the least and the greatest over a list that is not empty: its first, and the others
abbrev pub least_of : {E : Type 0} → (E → E → Bool) → (ℕ → E) → ℕ → List ℕ → E
least_of most x c [] = x c
least_of most x c (d ∷ ds) = lesser most (x c) (least_of most x d ds)

abbrev pub greatest_of : {E : Type 0} → (E → E → Bool) → (ℕ → E) → ℕ → List ℕ → E
greatest_of most x c [] = x c
greatest_of most x c (d ∷ ds) = greater most (x c) (greatest_of most x d ds)

-- of the empty list, which no form and no term is, the element d
abbrev pub over : {E : Type 0} → E → (ℕ → List ℕ → E) → List ℕ → E
over d f [] = d
over d f (c ∷ cs) = f c cs

-- the least element among the cells of the term t
unfoldable pub least : {E : Type 0} → (E → E → Bool) → (ℕ → E) → ℕ → E
least most x t = over (x 0) (least_of most x) (cells t)

-- the greatest of these over the terms of f
unfoldable pub value : {E : Type 0} → (E → E → Bool) → (ℕ → E) → List ℕ → E
value most x f = over (x 0) (greatest_of most (least most x)) f

-- high on the cells of s and low elsewhere
abbrev pub marked : {E : Type 0} → E → E → ℕ → ℕ → E
marked low high s c = cond (bit s (62 - c) == 1) high low
