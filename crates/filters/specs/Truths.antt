-- How often the picked cells of a list count.
use Rattle.std.specs.Prelude.{ℕ, ◌+◌, ◌<◌, Bool, cond, List, [], ◌∷◌}
use Rattle.filters.specs.Basic.{Weighed}

abbrev pub counted : (ℕ → Bool) → List Weighed → ℕ
counted p [] = 0
counted p (x ∷ xs) = cond (p x.cell) (x.times + counted p xs) (counted p xs)

-- every cell is one of the window
abbrev pub Cells : List Weighed → Type 0
Cells [] = Unit {0}
Cells (x ∷ xs) = (x.cell < 63) × Cells xs
