-- The forms of weighted ranks, ranks and medians, and where there are none.
use Rattle.std.specs.Prelude.{◌≡◌, ℕ, ◌*◌, ◌%◌, ◌<◌, ◌≤◌, true, false, ◌⊎◌, List, Some, None, Option}
use Rattle.forms.specs.declared.form.Form.{Form}
use Rattle.forms.specs.Entering.{made}
use Rattle.forms.specs.Parts.{terms_of}
use Rattle.filters.specs.Basic.{Weighed, total, weight_of, rank_of, rank_rule, middle, most_cells}

-- k is at least 1 and at most the sum of the times
abbrev pub Weighted : Option Form → ℕ → List Weighed → Type 0
Weighted (Some f) k xs = (1 ≤ k) × (k ≤ total xs) × (made (terms_of f) ≡ weight_of k xs)
Weighted None k xs = (k ≡ 0) ⊎ (total xs < k)

abbrev pub Ranked : Option Form → ℕ → ℕ → ℕ → Type 0
Ranked (Some f) h w k = (1 ≤ k) × (rank_rule h w k ≡ true) × (made (terms_of f) ≡ rank_of h w k)
Ranked None h w k = (k ≡ 0) ⊎ (rank_rule h w k ≡ false)

-- the box has an odd number of cells, at most nine
abbrev pub Middle : Option Form → ℕ → ℕ → Type 0
Middle (Some f) h w = (h * w ≤ most_cells) × (h * w % 2 ≡ 1) × (made (terms_of f) ≡ rank_of h w (middle (h * w)))
Middle None h w = (most_cells < h * w) ⊎ (h * w % 2 ≡ 0)
