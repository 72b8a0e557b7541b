-- What a witness shows, and its samples.
use Rattle.std.specs.Prelude.{◌≡◌, ℕ, ◌+◌, ◌*◌, Bool, List}
use Rattle.sources.specs.Meaning.{Meaning}
use Rattle.sources.specs.Edges.{repeated}
use Rattle.elements.specs.Order.{lesser, greater}
use Rattle.forms.specs.Terms.{True}
use Rattle.values.specs.Value.{marked}
use Rattle.comparing.specs.declared.witness.Witness.{Witness}

module _ {E : Type 0} (most : E → E → Bool) where
  -- the lesser and the greater of its two elements
  abbrev pub low_of : Witness E → E
  low_of s = lesser most s.first s.second

  abbrev pub high_of : Witness E → E
  high_of s = greater most s.first s.second

  -- 9 rows and 7 columns, with the greater on the cells of the set and the lesser elsewhere; the edges are repeated
  abbrev pub frame_of : Witness E → Meaning E
  frame_of s = repeated 9 7 (λ r c. marked (low_of s) (high_of s) s.marks (r * 7 + c))

  -- the greater where the form is true on the set, else the lesser
  abbrev pub Sampled : Witness E → List ℕ → E → Type 0
  Sampled s f v = (True f s.marks → v ≡ high_of s) × ((True f s.marks → ⊥) → v ≡ low_of s)
