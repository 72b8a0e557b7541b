-- The first of the lowest elements of a sequence, under a comparison.
use Rattle.std.specs.Prelude.{◌≡◌, ℕ, ◌+◌, ◌/◌, ◌%◌, ◌<◌, Bool, true, false, List, length, pos, slice_index_or}
use Rattle.sources.specs.Meaning.{Meaning}
use Rattle.extremes.specs.declared.lead.Lead.{Lead}

-- the elements of a frame in reading order: row by row, each from its first column on
abbrev pub element_in_order : {E : Type 0} → Meaning E → ℕ → E
element_in_order m j = m.element (pos (j / m.width)) (pos (j % m.width))

-- of the first n elements, f is the first that is at most every other; of none, f is the element at 0
pub record Leads {E : Type 0} (most : E → E → Bool) (element : ℕ → E) (n : ℕ) (f : Lead E) : Type 0 where
  pub within : 0 < f.index → f.index < n
  pub shown : f.element ≡ element f.index
  pub lowest : (j : ℕ) → j < n → most f.element (element j) ≡ true
  pub first : (j : ℕ) → j < f.index → most (element j) f.element ≡ false

-- of a row whose elements follow the first `start` of a sequence, n are read: a leader before becomes the one after
abbrev pub Scans : {E : Type 0} → (E → E → Bool) → List E → ℕ → ℕ → Lead E → Lead E → Type 0
Scans {E} most row start n before after =
    (element : ℕ → E) → ((k : ℕ) (d : E) → k < length row → slice_index_or row k d ≡ element (start + k))
    → Leads most element start before → Leads most element (start + n) after
