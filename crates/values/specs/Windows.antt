-- A window of 63 elements, and its element at a cell.
use Rattle.std.specs.Prelude.{◌≡◌, ℕ, ◌<◌, cond, ◌==◌, slice_index_or}
use Rattle.values.specs.declared.windows.Window.{Window}

-- the window's element at the cell c; d stands for what lies past the 63 cells
abbrev pub element_at : {E : Type 0} → Window E → E → ℕ → E
element_at w d c = slice_index_or w.all c d

-- w has the element e at every cell
abbrev pub Filled : {E : Type 0} → Window E → E → Type 0
Filled {E} w e = (d : E) (c : ℕ) → c < 63 → element_at w d c ≡ e

-- w has become z: e at the cell k, and at every other cell what it was
abbrev pub Changed : {E : Type 0} → Window E → ℕ → E → Window E → Type 0
Changed {E} w k e z = (d : E) (c : ℕ) → c < 63 → element_at z d c ≡ cond (c == k) e (element_at w d c)
