-- Where joined forms are true, and which compositions leave the window.
use Rattle.std.specs.Prelude.{◌≡◌, ℕ, ◌<◌, Bool, true, false, ◌⊎◌, List, ℤ, ◌+ℤ◌, Ok, Err, Result}
use Rattle.forms.specs.declared.form.Form.{Form}
use Rattle.forms.specs.declared.faults.Fault.{Fault}
use Rattle.forms.specs.declared.faults.Fault.TheVariants.{TooManyTerms, OutsideWindow}
use Rattle.forms.specs.Window.{row_of, column_of, in_window}
use Rattle.forms.specs.Terms.{TrueOn, Uses}
use Rattle.forms.specs.Places.{Picks, TrueAt}
use Rattle.forms.specs.Parts.{terms_of}

-- what holds of the form that was made, if one was
abbrev pub Ensured : Result Form Fault → (List ℕ → Type 0) → Type 0
Ensured (Ok h) P = P (terms_of h)
Ensured (Err e) P = Unit {0}

-- the cells that a test picks out
abbrev pub On : (ℕ → Bool) → ℕ → Type 0
On p c = p c ≡ true

-- h is true on any set of cells exactly when f or g is
abbrev pub Either : List ℕ → List ℕ → List ℕ → Type 0
Either f g h = (p : ℕ → Bool) → (TrueOn h (On p) → TrueOn f (On p) ⊎ TrueOn g (On p)) × (TrueOn f (On p) ⊎ TrueOn g (On p) → TrueOn h (On p))

-- h is true on any set of cells exactly when f and g are
abbrev pub Both : List ℕ → List ℕ → List ℕ → Type 0
Both f g h = (p : ℕ → Bool) → (TrueOn h (On p) → TrueOn f (On p) × TrueOn g (On p)) × (TrueOn f (On p) × TrueOn g (On p) → TrueOn h (On p))

-- at any place, h is true on a set of places exactly when e is true on the places where f is true on the set
abbrev pub After : List ℕ → List ℕ → List ℕ → Type 0
After e f h = (p : ℤ → ℤ → Bool) (r c : ℤ)
    → (TrueAt h (Picks p) r c → TrueAt e (TrueAt f (Picks p)) r c) × (TrueAt e (TrueAt f (Picks p)) r c → TrueAt h (Picks p) r c)

-- a cell that e uses and a cell that f uses, whose rows and columns add up to none of the window
abbrev pub Leaves : List ℕ → List ℕ → Type 0
Leaves e f = (a b : ℕ) × (a < 63) × (b < 63) × Uses e a × Uses f b × (in_window (row_of a +ℤ row_of b) (column_of a +ℤ column_of b) ≡ false)

-- a composition is declined as leaving the window exactly when such cells are used
abbrev pub Outside : Result Form Fault → List ℕ → List ℕ → Type 0
Outside (Ok h) e f = Leaves e f → ⊥
Outside (Err TooManyTerms) e f = Leaves e f → ⊥
Outside (Err OutsideWindow) e f = Leaves e f
