-- The frame of a witness, and the values of forms in its middle.
use Rattle.std.proofs.Common.{◌≡◌, ℕ, ◌+◌, ◌*◌, Bool, pos, sym, ap₂, arith}
use Rattle.sources.specs.Edges.{nearest}
use Rattle.forms.specs.declared.form.Form.{Form}
use Rattle.forms.specs.Terms.{True}
use Rattle.forms.specs.Parts.{terms_of}
use Rattle.values.specs.Value.{Ordered, marked}
use Rattle.values.specs.Laws.{value_at}
use Rattle.values.proofs.Tellings.{ends}
use Rattle.values.proofs.Wholes.{whole_form}
use Rattle.samples.specs.Laws.{Shows}
use Rattle.samples.proofs.Texts.{frame_high, frame_low}
use Rattle.comparing.specs.declared.witness.Witness.{Witness}
use Rattle.comparing.specs.Witness.{low_of, high_of, frame_of}

module _ {E : Type 0} (most : E → E → Bool) (s : Witness E) where
  pub frame_shows : Shows most (frame_of most s) (low_of most s) (high_of most s) s.marks
  frame_shows r c l k =
      ap₂ (λ (i j : ℕ). marked (low_of most s) (high_of most s) s.marks (i * 7 + j))
      (let e : nearest 9 (pos r) ≡ r = omega arith in e) (let e : nearest 7 (pos c) ≡ c = omega arith in e)

  module _ (o : Ordered most) (f : Form) where
    pub middle_high : True (terms_of f) s.marks → high_of most s ≡ value_at most (frame_of most s).element (terms_of f) (pos 4) (pos 3)
    middle_high t = sym (frame_high most o (frame_of most s) (low_of most s) (high_of most s) s.marks frame_shows
        (ends most o s.first s.second) (terms_of f) (whole_form f) t)

    pub middle_low : (True (terms_of f) s.marks → ⊥) → low_of most s ≡ value_at most (frame_of most s).element (terms_of f) (pos 4) (pos 3)
    middle_low n = sym (frame_low most o (frame_of most s) (low_of most s) (high_of most s) s.marks frame_shows
        (ends most o s.first s.second) (terms_of f) (whole_form f) n)
