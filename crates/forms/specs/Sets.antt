-- Sets of cells as numbers below 2 ^ 63: cell 0 is the most significant of the 63 bits, cell 62 the least.
use Rattle.std.specs.Prelude.{◌≡◌, ℕ, zero, suc, ◌-◌, ◌/◌, ◌%◌, ◌^◌, ◌<◌, Bool, true, false, List, [], ◌∷◌, map, ◌==◌, bit_and, bit_or}
use Rattle.std.specs.List.{list_all}
use Rattle.forms.specs.Window.{stays, added}

-- bit k of a
abbrev pub bit : ℕ → ℕ → ℕ
bit a k = a / 2 ^ k % 2

-- the cell c is in the set s
abbrev pub Has : ℕ → ℕ → Type 0
Has s c = bit s (62 - c) ≡ 1

-- the set of the one cell c
abbrev pub single : ℕ → ℕ
single c = 2 ^ (62 - c)

-- a is inside b: every cell of a is in b
abbrev pub Sub : ℕ → ℕ → Type 0
Sub a b = bit_and a b ≡ a

abbrev pub sub : ℕ → ℕ → Bool
sub a b = bit_and a b == a

-- the same in words
abbrev pub CellByCell : ℕ → ℕ → Type 0
CellByCell a b = (c : ℕ) → c < 63 → Has a c → Has b c

-- the cells of a set, ascending: those of the lowest n bits, and all
abbrev pub only_if : Bool → ℕ → List ℕ → List ℕ
only_if true c cs = c ∷ cs
only_if false c cs = cs

unfoldable pub cells_below : ℕ → ℕ → List ℕ
cells_below zero s = []
cells_below (suc n) s = only_if (bit s n == 1) (62 - n) (cells_below n s)

unfoldable pub cells : ℕ → List ℕ
cells s = cells_below 63 s

-- those numbered n or above
abbrev pub cells_from : ℕ → ℕ → List ℕ
cells_from n s = cells_below (63 - n) s

-- the set of the cells of a list
abbrev pub set_of : List ℕ → ℕ
set_of [] = 0
set_of (c ∷ cs) = bit_or (single c) (set_of cs)

abbrev pub every : (ℕ → Bool) → List ℕ → Bool
every p cs = list_all p cs

-- whether the set s, moved to the cell c (the middle cell goes to c), stays in the window, and what it becomes
abbrev pub movable : ℕ → ℕ → Bool
movable c s = every (stays c) (cells s)

unfoldable pub moved : ℕ → ℕ → ℕ
moved c s = set_of (map (added c) (cells s))
