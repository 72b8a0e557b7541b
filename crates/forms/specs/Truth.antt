-- Truth on sets of cells tells forms apart, and a form has no term and no cell too many.
use Rattle.std.specs.Prelude.{◌≡◌, ℕ, ◌^◌, ◌<◌, cond, ◌⊎◌, List, [], ◌∷◌, ◌++◌, ◌==◌, ◌≢◌}
use Rattle.forms.specs.Sets.{Sub}
use Rattle.forms.specs.Terms.{In, Terms, Ascending, True}
use Rattle.forms.specs.Entering.{covers}

-- f and g are true on the same sets
abbrev pub SameTruth : List ℕ → List ℕ → Type 0
SameTruth f g = (s : ℕ) → s < 2 ^ 63 → (True f s → True g s) × (True g s → True f s)

-- on the set s, f is true and g is not
abbrev pub OnlyFirst : List ℕ → List ℕ → ℕ → Type 0
OnlyFirst f g s = True f s × (True g s → ⊥)

-- on some set exactly one of the two is true
abbrev pub Differ : List ℕ → List ℕ → Type 0
Differ f g = (s : ℕ) × (s < 2 ^ 63) × (OnlyFirst f g s ⊎ OnlyFirst g f s)

-- the terms of f on which g is false
abbrev pub outside : List ℕ → List ℕ → List ℕ
outside [] g = []
outside (t ∷ f) g = cond (covers g t) (outside f g) (t ∷ outside f g)

-- the terms of either on which the other is false
abbrev pub telling : List ℕ → List ℕ → List ℕ
telling f g = outside f g ++ outside g f

-- f with u in the place of its term t
abbrev pub replaced : ℕ → ℕ → List ℕ → List ℕ
replaced t u [] = []
replaced t u (v ∷ f) = cond (t == v) (u ∷ replaced t u f) (v ∷ replaced t u f)

-- f without its term t
abbrev pub dropped : ℕ → List ℕ → List ℕ
dropped t [] = []
dropped t (v ∷ f) = cond (t == v) (dropped t f) (v ∷ dropped t f)

-- no term can be left out, and none can lose a cell: a set strictly inside it in its place changes the truth
pub record Irredundant (f : List ℕ) : Type 0 where
  pub terms : (t : ℕ) → In t f → Differ f (dropped t f)
  pub cells : (t u : ℕ) → In t f → Sub u t → (u ≢ t) → Differ f (replaced t u f)

-- there is no other such list of terms with the same truth
abbrev pub OnlyOne : List ℕ → Type 0
OnlyOne f = (g : List ℕ) → Terms g → Ascending g → Irredundant g → SameTruth f g → g ≡ f
