-- Where the columns of a row lie that an image is asked for: left of the frame, in it, right of it.
use Rattle.std.specs.Prelude.{◌≡◌, ℕ, ◌+◌, ◌-◌, ◌<◌, ◌≤◌, List, ℤ, pos, ◌+ℤ◌, slice_index_or}
use Rattle.sources.specs.Edges.{nearest}
use Rattle.images.specs.declared.span.Span.{Span}

pub record Spanned (width : ℕ) (first : ℤ) (count : ℕ) (s : Span) : Type 0 where
  pub few : s.before + s.inside ≤ count
  pub narrow : s.skip + s.inside ≤ width
  pub left : (k : ℕ) → k < s.before → nearest width (first +ℤ pos k) ≡ 0
  pub middle : (k : ℕ) → s.before ≤ k → k < s.before + s.inside → nearest width (first +ℤ pos k) ≡ s.skip + (k - s.before)
  pub right : (k : ℕ) → s.before + s.inside ≤ k → k < count → nearest width (first +ℤ pos k) ≡ width - 1

-- from one place up to another, `after` has what f gives; the places before are as they were
pub record Written {E : Type 0} (before after : List E) (start end : ℕ) (f : ℕ → E) : Type 0 where
  pub inside : (k : ℕ) (d : E) → start ≤ k → k < end → slice_index_or after k d ≡ f k
  pub kept : (k : ℕ) (d : E) → k < start → slice_index_or after k d ≡ slice_index_or before k d
