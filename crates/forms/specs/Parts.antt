-- The terms of a form, and what a call answers about one.
use Rattle.std.specs.Prelude.{◌≡◌, ℕ, ◌<◌, Bool, true, false, ◌⊎◌, List, [], ◌∷◌, map, length, ℤ, ◌+ℤ◌, Some, None, Ok, Err, Option, Result}
use Rattle.forms.specs.declared.faults.Fault.{Fault}
use Rattle.forms.specs.declared.sets.Term.{Term}
use Rattle.forms.specs.declared.form.Form.{Form}
use Rattle.tables.specs.Table.{items_of}
use Rattle.forms.specs.Window.{row_of, column_of}
use Rattle.forms.specs.Sets.{movable, moved}
use Rattle.forms.specs.Terms.{most_terms, used}
use Rattle.forms.specs.Places.{Picks, TrueAt}
use Rattle.forms.specs.Entering.{Made, made, declined, Minimal}
use Rattle.forms.specs.Truth.{OnlyFirst}
use Rattle.forms.specs.Faults.{fault_number}

abbrev pub terms_of : Form → List ℕ
terms_of f = items_of f.table

-- what a call that changes a form in place tells: its answer, and the terms then
abbrev pub told : Result (Unit {0}) Fault → List ℕ → Made
told (Ok _) f = made f
told (Err e) f = declined (fault_number e)

-- the form that a call makes, or its fault
abbrev pub outcome : Result Form Fault → Made
outcome (Ok f) = made (terms_of f)
outcome (Err e) = declined (fault_number e)

-- the list of the term that an answer holds, if any
abbrev pub listed : Option Term → List ℕ
listed (Some t) = t ∷ []
listed None = []

-- t entered into f leaves g, the minimal sets; it is declined where these are too many
abbrev pub Entered : Result (Unit {0}) Fault → ℕ → List ℕ → List ℕ → Type 0
Entered (Ok _) t f g = Minimal (t ∷ f) g
Entered (Err _) t f g = (h : List ℕ) × Minimal (t ∷ f) h × (most_terms < length h)

-- on the term that an answer holds, exactly one of f and g is true; where it holds none, they are the same
abbrev pub Separates : Option Term → List ℕ → List ℕ → Type 0
Separates (Some t) f g = OnlyFirst f g t ⊎ OnlyFirst g f t
Separates None f g = f ≡ g

-- f moved to the cell c, each of its terms by rows and by columns, where it stays in the window
abbrev pub Moved : Option Form → ℕ → List ℕ → Type 0
Moved (Some g) c f = (movable c (used f) ≡ true) × (terms_of g ≡ map (moved c) f)
Moved None c f = movable c (used f) ≡ false

-- it is true at a place exactly when f is true at the place plus c
abbrev pub MovedTruth : Option Form → ℕ → List ℕ → Type 0
MovedTruth (Some g) n f = (p : ℤ → ℤ → Bool) (r c : ℤ)
    → (TrueAt (terms_of g) (Picks p) r c → TrueAt f (Picks p) (r +ℤ row_of n) (c +ℤ column_of n))
    × (TrueAt f (Picks p) (r +ℤ row_of n) (c +ℤ column_of n) → TrueAt (terms_of g) (Picks p) r c)
MovedTruth None n f = Unit {0}
