-- Letters that are the same one by one are equal.
use Rattle.std.proofs.Common.{◌≡◌, ℕ, Bool, true, false, ◌&&◌, eqb, List, [], ◌∷◌, refl, ap₂, eqb-true}
use mathlib.Core.Bool.{false≢true}
use Rattle.grammar.specs.Words.{same}

and_true : (a b : Bool) → (a && b) ≡ true → (a ≡ true) × (b ≡ true)
and_true true b e = (refl, e)
and_true false b e = absurd (false≢true e)

pub same_true : (xs ys : List ℕ) → same xs ys ≡ true → xs ≡ ys
same_true [] [] e = refl
same_true [] (y ∷ ys) e = absurd (false≢true e)
same_true (x ∷ xs) [] e = absurd (false≢true e)
same_true (x ∷ xs) (y ∷ ys) e = let p = and_true (eqb x y) (same xs ys) e in ap₂ ◌∷◌ (eqb-true x y p.0) (same_true xs ys p.1)
