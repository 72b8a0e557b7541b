-- The lowest and the highest element of a frame, with the first place of each in reading order.
use Rattle.std.specs.Prelude.{◌≡◌, ℕ, ◌-◌, ◌<◌, Bool, true, false, ◌⊎◌, List, pos, ◌≤ℤ◌, Some, None, Option}
use Rattle.sources.specs.Meaning.{Meaning, RowHolds}
use Rattle.extremes.specs.declared.Found.{Found}
use Rattle.extremes.specs.declared.Extremes.{Extremes}

-- "at most", the other way round
abbrev pub turned : {E : Type 0} → (E → E → Bool) → E → E → Bool
turned most a b = most b a

-- one place comes before another: in an earlier row, or in the same row and an earlier column
abbrev pub Before : ℕ → ℕ → ℕ → ℕ → Type 0
Before r c row column = (r < row) ⊎ ((r ≡ row) × (c < column))

-- f shows the element at its place of the frame, it is at most every other, and it is the first such
pub record First {E : Type 0} (most : E → E → Bool) (m : Meaning E) (f : Found E) : Type 0 where
  pub in_rows : f.row < m.height
  pub in_columns : f.column < m.width
  pub shown : f.element ≡ m.element (pos f.row) (pos f.column)
  pub lowest : (r c : ℕ) → r < m.height → c < m.width → most f.element (m.element (pos r) (pos c)) ≡ true
  pub first : (r c : ℕ) → c < m.width → Before r c f.row f.column → most (m.element (pos r) (pos c)) f.element ≡ false

pub record BothFirst {E : Type 0} (most : E → E → Bool) (m : Meaning E) (x : Extremes E) : Type 0 where
  pub low : First most m x.lowest
  pub high : First (turned most) m x.highest

-- none exactly where the scratch row is not as wide as the frame, or the frame cannot be read to its edges
abbrev pub Answered : {E : Type 0} → (E → E → Bool) → Meaning E → ℕ → Option (Extremes E) → Type 0
Answered most m scratch None = (scratch ≡ m.width → pos 0 ≤ℤ m.margin → ⊥)
Answered most m scratch (Some x) = (scratch ≡ m.width) × (pos 0 ≤ℤ m.margin) × BothFirst most m x

-- the scratch row afterwards: as it was, or the last row of the frame
abbrev pub Scratch : {E : Type 0} → Meaning E → List E → List E → Option (Extremes E) → Type 0
Scratch m before after None = after ≡ before
Scratch m before after (Some x) = RowHolds m (pos (m.height - 1)) (pos 0) m.width after
