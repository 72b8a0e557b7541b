-- A window that tells two forms apart.
use Rattle.std.specs.Prelude.{◌≡◌, ℕ, ◌<◌, Bool, true, List, [], Some, None, Option, ◌≢◌, slice_index}
use Rattle.elements.specs.Order.{lesser, greater}
use Rattle.forms.specs.Terms.{True}
use Rattle.forms.specs.Truth.{telling}
use Rattle.stored.specs.Outcomes.{bytes_of}
use Rattle.values.specs.declared.windows.Window.{Window}
use Rattle.values.specs.Value.{value, marked}
use Rattle.values.specs.Windows.{element_at}
use Rattle.values.specs.Laws.{Whole}

-- w has high on the cells of the set s, and low elsewhere
abbrev pub Marked : {E : Type 0} → Window E → E → E → ℕ → Type 0
Marked {E} w low high s = (d : E) (c : ℕ) → c < 63 → element_at w d c ≡ marked low high s c

-- the greater of a and b on the first term on which one of the forms is true and the other is not, and the lesser elsewhere
abbrev pub Exactly : {E : Type 0} → (E → E → Bool) → Option (Window E) → E → E → List ℕ → List ℕ → Type 0
Exactly most None a b f g = telling f g ≡ []
Exactly most (Some w) a b f g = Marked w (lesser most a b) (greater most a b) (slice_index (telling f g) 0)

-- there is no such window exactly where the forms have equal terms,
abbrev pub Tells : {E : Type 0} → Option (Window E) → List ℕ → List ℕ → Type 0
Tells None f g = f ≡ g
Tells (Some w) f g = f ≡ g → ⊥

-- and so exactly where their stored bytes are equal
abbrev pub BytesTell : {E : Type 0} → Option (Window E) → List ℕ → List ℕ → Type 0
BytesTell None f g = bytes_of f ≡ bytes_of g
BytesTell (Some w) f g = bytes_of f ≡ bytes_of g → ⊥

-- with no such window the values are equal on all; else they differ on it, if a and b do
abbrev pub Values : {E : Type 0} → (E → E → Bool) → Option (Window E) → E → E → List ℕ → List ℕ → Type 0
Values {E} most None a b f g = (x : ℕ → E) → value most x f ≡ value most x g
Values {E} most (Some w) a b f g = (a ≢ b) → (d : E) → value most (element_at w d) f ≢ value most (element_at w d) g

-- where low is at most high: on the elements that are high on s and low elsewhere, a form has the value high if it is true on s, else low
abbrev pub MarkLaw : {E : Type 0} → (E → E → Bool) → Type 0
MarkLaw {E} most = (low high : E) → most low high ≡ true → (f : List ℕ) → Whole f → (s : ℕ)
    → (True f s → value most (marked low high s) f ≡ high) × ((True f s → ⊥) → value most (marked low high s) f ≡ low)
