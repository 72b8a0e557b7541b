-- The laws of a form's value, for every ordered kind.
use Rattle.std.specs.Prelude.{◌≡◌, ℕ, Bool, true, List, [], ℤ, ◌+ℤ◌}
use Rattle.elements.specs.Order.{lesser, greater}
use Rattle.forms.specs.Window.{row_of, column_of}
use Rattle.forms.specs.Terms.{Terms, TrueOn}
use Rattle.forms.specs.declared.form.Form.{Form}
use Rattle.forms.specs.Parts.{terms_of}
use Rattle.forms.specs.Entering.{made}
use Rattle.joins.specs.Joins.{max_of, min_of, compose}
use Rattle.values.specs.Value.{value}

-- what the terms of every form are: there are some, and each is a set of cells that is not empty
pub record Whole (f : List ℕ) : Type 0 where
  pub some : f ≡ [] → ⊥
  pub sets : Terms f

-- an element u is at most v exactly when f is true on the cells whose element u is at most
abbrev pub Levels : {E : Type 0} → (E → E → Bool) → (ℕ → E) → List ℕ → E → Type 0
Levels {E} most x f v = (u : E)
    → (most u v ≡ true → TrueOn f (λ c. most u (x c) ≡ true))
    × (TrueOn f (λ c. most u (x c) ≡ true) → most u v ≡ true)

-- the value of the max of two forms is the greater of their values
abbrev pub MaxLaw : {E : Type 0} → (E → E → Bool) → Type 0
MaxLaw {E} most = (x : ℕ → E) (f g h : Form) → max_of (terms_of f) (terms_of g) ≡ made (terms_of h)
    → value most x (terms_of h) ≡ greater most (value most x (terms_of f)) (value most x (terms_of g))

-- the value of their min is the lesser
abbrev pub MinLaw : {E : Type 0} → (E → E → Bool) → Type 0
MinLaw {E} most = (x : ℕ → E) (f g h : Form) → min_of (terms_of f) (terms_of g) ≡ made (terms_of h)
    → value most x (terms_of h) ≡ lesser most (value most x (terms_of f)) (value most x (terms_of g))

-- the elements of a plane that the window has when it lies on row r and column c
abbrev pub seen : {E : Type 0} → (ℤ → ℤ → E) → ℤ → ℤ → ℕ → E
seen x r c k = x (r +ℤ row_of k) (c +ℤ column_of k)

-- the value of f at row r and column c of a plane
abbrev pub value_at : {E : Type 0} → (E → E → Bool) → (ℤ → ℤ → E) → List ℕ → ℤ → ℤ → E
value_at most x f r c = value most (seen x r c) f

-- at every place, the value of e after f is the value of e over the plane of the values of f
abbrev pub AfterLaw : {E : Type 0} → (E → E → Bool) → Type 0
AfterLaw {E} most = (x : ℤ → ℤ → E) (r c : ℤ) (e f h : Form) → compose (terms_of e) (terms_of f) ≡ made (terms_of h)
    → value_at most x (terms_of h) r c ≡ value_at most (λ p q. value_at most x (terms_of f) p q) (terms_of e) r c
