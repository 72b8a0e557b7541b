-- The box of h rows and w columns around the middle cell.
use Rattle.std.specs.Prelude.{ℕ, zero, suc, ◌*◌, ◌/◌, ◌%◌, ◌<◌, ◌≤◌, List, [], ◌∷◌, map, ℤ, pos, ◌-ℤ◌, neg_ℤ, ◌≤ℤ◌, ◌<ℤ◌}
use Rattle.forms.specs.Window.{row_of, column_of, number_at}
use Rattle.forms.specs.Terms.{In}

abbrev pub tallest : ℕ
tallest = 9

abbrev pub widest : ℕ
widest = 7

-- the sides that a box may have
pub record Sides (h w : ℕ) : Type 0 where
  pub some_rows : 1 ≤ h
  pub few_rows : h ≤ tallest
  pub some_columns : 1 ≤ w
  pub few_columns : w ≤ widest

-- n numbers from a on
abbrev pub up_from : ℕ → ℕ → List ℕ
up_from a zero = []
up_from a (suc n) = a ∷ up_from (suc a) n

-- the box's cell i, counted row by row
abbrev pub box_cell : ℕ → ℕ → ℕ → ℕ
box_cell h w i = number_at (pos (i / w) -ℤ pos (h / 2)) (pos (i % w) -ℤ pos (w / 2))

unfoldable pub box : ℕ → ℕ → List ℕ
box h w = map (box_cell h w) (up_from 0 (h * w))

-- n lies from minus half the side, rounded down, on, as many places as the side has
abbrev pub Spans : ℕ → ℤ → Type 0
Spans side n = (neg_ℤ (pos (side / 2)) ≤ℤ n) × (n <ℤ (pos side -ℤ pos (side / 2)))

-- the box has just the cells whose rows and columns lie so
abbrev pub BoxLaw : ℕ → ℕ → Type 0
BoxLaw h w = (c : ℕ) → c < 63
    → (In c (box h w) → Spans h (row_of c) × Spans w (column_of c))
    × (Spans h (row_of c) × Spans w (column_of c) → In c (box h w))
