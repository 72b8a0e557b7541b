-- What the comparison of two texts tells.
use Rattle.std.specs.Prelude.{◌≡◌, ℕ, Bool, ◌⊎◌, List, Some, None, Ok, Err, Option, Result, ◌≢◌, slice_index}
use Rattle.elements.specs.Order.{lesser, greater}
use Rattle.forms.specs.declared.form.Form.{Form}
use Rattle.forms.specs.Parts.{terms_of}
use Rattle.forms.specs.Truth.{OnlyFirst, telling}
use Rattle.stored.specs.Outcomes.{bytes_of}
use Rattle.grammar.specs.Reading.{Out, ok, bad}
use Rattle.expressions.specs.declared.faults.Fault.{Fault}
use Rattle.expressions.specs.Faults.{part_of, number_of, place_of}
use Rattle.expressions.specs.Working.{compile}
use Rattle.samples.specs.Laws.{FormSamples, SameSamples, Shows, OtherSamples}
use Rattle.comparing.specs.declared.comparison.Side.{Side}
use Rattle.comparing.specs.declared.comparison.Side.TheVariants.{Left, Right}
use Rattle.comparing.specs.declared.comparison.CompareFault.{CompareFault}
use Rattle.comparing.specs.declared.comparison.Comparison.{Comparison}
use Rattle.comparing.specs.declared.witness.Witness.{Witness}
use Rattle.comparing.specs.Witness.{frame_of}

-- the fault of a text that is not accepted
abbrev pub faulted : Fault → Out (List ℕ)
faulted e = bad (part_of e) (number_of e) (place_of e)

-- the form of the text on a side, or its fault with the side
abbrev pub Formed : Result Form CompareFault → Side → Out (List ℕ) → Type 0
Formed (Ok f) side o = o ≡ ok (terms_of f)
Formed (Err e) side o = (e.side ≡ side) × (o ≡ faulted e.fault)

-- the fault of the left text, or that of the right one where the left is accepted
abbrev pub Faulted : List ℕ → List ℕ → Side → Fault → Type 0
Faulted left right Left e = compile left ≡ faulted e
Faulted left right Right e = ((f : List ℕ) × (compile left ≡ ok f)) × (compile right ≡ faulted e)

module _ {E : Type 0} (most : E → E → Bool) where
  -- the witness holds two elements as they are, and the first term that tells the forms apart
  pub record Marks (f g : List ℕ) (low high : E) (w : Witness E) : Type 0 where
    pub first : w.first ≡ low
    pub second : w.second ≡ high
    pub term : w.marks ≡ slice_index (telling f g) 0

  -- what two forms f and g are told apart by
  abbrev pub Told : List ℕ → List ℕ → E → E → Option (Witness E) → Type 0
  Told f g low high None = f ≡ g
  Told f g low high (Some w) = Marks f g low high w × (OnlyFirst f g w.marks ⊎ OnlyFirst g f w.marks)

  -- no witness: the forms have equal stored bytes, and the texts the same samples
  pub record Same (left right f g : List ℕ) : Type 0 where
    pub bytes : bytes_of f ≡ bytes_of g
    pub samples : SameSamples most left right

  -- a witness: the stored bytes are unequal, and where the two elements are, so are the samples in the middle of every
  -- source that shows the witness's frame, as the witness does
  pub record Differ (left right f g : List ℕ) (low high : E) (w : Witness E) : Type 0 where
    pub bytes : bytes_of f ≡ bytes_of g → ⊥
    pub marks : Marks f g low high w
    pub shown : Shows most (frame_of most w) (lesser most low high) (greater most low high) w.marks
    pub samples : (low ≢ high) → OtherSamples most left right (lesser most low high) (greater most low high) w.marks

  abbrev pub Verdict : List ℕ → List ℕ → List ℕ → List ℕ → E → E → Option (Witness E) → Type 0
  Verdict left right f g low high None = Same left right f g
  Verdict left right f g low high (Some w) = Differ left right f g low high w

  -- what holds of two accepted texts and their comparison
  pub record Compared (left right : List ℕ) (low high : E) (c : Comparison E) : Type 0 where
    pub left_form : compile left ≡ ok (terms_of c.left)
    pub right_form : compile right ≡ ok (terms_of c.right)
    pub left_samples : FormSamples most left (terms_of c.left)
    pub right_samples : FormSamples most right (terms_of c.right)
    pub verdict : Verdict left right (terms_of c.left) (terms_of c.right) low high c.witness

  abbrev pub Outcome : List ℕ → List ℕ → E → E → Result (Comparison E) CompareFault → Type 0
  Outcome left right low high (Ok c) = Compared left right low high c
  Outcome left right low high (Err e) = Faulted left right e.side e.fault
