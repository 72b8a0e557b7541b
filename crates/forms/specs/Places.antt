-- Forms at the places of a plane of rows and columns.
use Rattle.std.specs.Prelude.{◌≡◌, ℕ, Bool, true, List, ℤ, ◌+ℤ◌}
use Rattle.forms.specs.Window.{row_of, column_of}
use Rattle.forms.specs.Terms.{TrueOn}

-- the places that a test picks out
abbrev pub Picks : (ℤ → ℤ → Bool) → ℤ → ℤ → Type 0
Picks p r c = p r c ≡ true

-- f, moved to row r and column c, is true on the places P: they have the place plus each cell of some term
abbrev pub TrueAt : List ℕ → (ℤ → ℤ → Type 0) → ℤ → ℤ → Type 0
TrueAt f P r c = TrueOn f (λ k. P (r +ℤ row_of k) (c +ℤ column_of k))
