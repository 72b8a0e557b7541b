-- What a source means: its sides, its margin, and an element for every whole-number place.
use Rattle.std.specs.Prelude.{◌≡◌, ℕ, ◌<◌, ◌≤◌, List, ℤ, pos, ◌+ℤ◌, neg_ℤ, ◌≤ℤ◌, ◌<ℤ◌, slice_index_or}

pub record Meaning (E : Type 0) : Type 0 where
  pub height : ℕ
  pub width : ℕ
  pub margin : ℤ
  pub element : ℤ → ℤ → E

-- the longest side, and the widest margin either way
abbrev pub longest : ℕ
longest = 16384

-- sides from 1 to the longest, a margin from minus the longest to the longest
pub record Ranges {E : Type 0} (m : Meaning E) : Type 0 where
  pub some_rows : 1 ≤ m.height
  pub few_rows : m.height ≤ longest
  pub some_columns : 1 ≤ m.width
  pub few_columns : m.width ≤ longest
  pub deepest : neg_ℤ (pos longest) ≤ℤ m.margin
  pub widest : m.margin ≤ℤ pos longest

-- along one axis: at least minus the margin, and below the side plus the margin
abbrev pub Within : ℕ → ℤ → ℤ → Type 0
Within side margin at = (neg_ℤ margin ≤ℤ at) × (at <ℤ (pos side +ℤ margin))

abbrev pub PlaceWithin : ℕ → ℕ → ℤ → ℤ → ℤ → Type 0
PlaceWithin height width margin row column = Within height margin row × Within width margin column

abbrev pub Readable : {E : Type 0} → Meaning E → ℤ → ℤ → Type 0
Readable m row column = PlaceWithin m.height m.width m.margin row column

-- n consecutive places of a row, from the column `first` on
abbrev pub RowWithin : ℕ → ℕ → ℤ → ℤ → ℤ → ℕ → Type 0
RowWithin height width margin row first n = (k : ℕ) → k < n → PlaceWithin height width margin row (first +ℤ pos k)

abbrev pub RowReadable : {E : Type 0} → Meaning E → ℤ → ℤ → ℕ → Type 0
RowReadable m row first n = RowWithin m.height m.width m.margin row first n

-- the first n of xs, which has so many, are the elements of a row from the column `first` on
abbrev pub RowHolds : {E : Type 0} → Meaning E → ℤ → ℤ → ℕ → List E → Type 0
RowHolds {E} m row first n xs = (k : ℕ) → k < n → (d : E) → slice_index_or xs k d ≡ m.element row (first +ℤ pos k)
