-- Where the basic filters are true, and the laws of openings and closings, at any place and on any places.
use Rattle.std.specs.Prelude.{◌≡◌, ℕ, ◌≤◌, Bool, true, List, ℤ, ◌+ℤ◌, ◌-ℤ◌, Some, None, Option}
use Rattle.forms.specs.declared.form.Form.{Form}
use Rattle.forms.specs.Window.{row_of, column_of}
use Rattle.forms.specs.Terms.{In, TrueOn}
use Rattle.forms.specs.Places.{Picks, TrueAt}
use Rattle.forms.specs.Parts.{terms_of}
use Rattle.joins.specs.Outcomes.{On}
use Rattle.filters.specs.Boxes.{box}
use Rattle.filters.specs.Basic.{Weighed, once}
use Rattle.filters.specs.Truths.{counted}

-- the place plus every cell of the box is picked
abbrev pub Erodes : ℕ → ℕ → List ℕ → Type 0
Erodes h w f = (p : ℤ → ℤ → Bool) (row column : ℤ)
    → (TrueAt f (Picks p) row column → (b : ℕ) → In b (box h w) → p (row +ℤ row_of b) (column +ℤ column_of b) ≡ true)
    × (((b : ℕ) → In b (box h w) → p (row +ℤ row_of b) (column +ℤ column_of b) ≡ true) → TrueAt f (Picks p) row column)

-- the place minus some cell of the box is picked
abbrev pub Dilates : ℕ → ℕ → List ℕ → Type 0
Dilates h w f = (p : ℤ → ℤ → Bool) (row column : ℤ)
    → (TrueAt f (Picks p) row column → (b : ℕ) × In b (box h w) × (p (row -ℤ row_of b) (column -ℤ column_of b) ≡ true))
    × ((b : ℕ) × In b (box h w) × (p (row -ℤ row_of b) (column -ℤ column_of b) ≡ true) → TrueAt f (Picks p) row column)

-- true only where the place is picked; true wherever it is picked
abbrev pub Under : List ℕ → Type 0
Under f = (p : ℤ → ℤ → Bool) (row column : ℤ) → TrueAt f (Picks p) row column → p row column ≡ true

abbrev pub Over : List ℕ → Type 0
Over f = (p : ℤ → ℤ → Bool) (row column : ℤ) → p row column ≡ true → TrueAt f (Picks p) row column

-- twice is once
abbrev pub Again : List ℕ → Type 0
Again f = (p : ℤ → ℤ → Bool) (row column : ℤ)
    → (TrueAt f (TrueAt f (Picks p)) row column → TrueAt f (Picks p) row column)
    × (TrueAt f (Picks p) row column → TrueAt f (TrueAt f (Picks p)) row column)

-- the times of the cells of a set come to k or more
abbrev pub Weighs : ℕ → List Weighed → List ℕ → Type 0
Weighs k xs f = (p : ℕ → Bool) → (TrueOn f (On p) → k ≤ counted p xs) × (k ≤ counted p xs → TrueOn f (On p))

-- at least k of the places at the cells of the box are picked
abbrev pub Ranks : ℕ → ℕ → ℕ → List ℕ → Type 0
Ranks h w k f = (p : ℤ → ℤ → Bool) (row column : ℤ)
    → (TrueAt f (Picks p) row column → k ≤ counted (λ c. p (row +ℤ row_of c) (column +ℤ column_of c)) (once (box h w)))
    × (k ≤ counted (λ c. p (row +ℤ row_of c) (column +ℤ column_of c)) (once (box h w)) → TrueAt f (Picks p) row column)

-- what holds of the form, if there is one
abbrev pub Provided : Option Form → (List ℕ → Type 0) → Type 0
Provided (Some f) P = P (terms_of f)
Provided None P = Unit {0}
