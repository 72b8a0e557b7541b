-- What compiled forms tell of samples, and what openings and closings do, for an ordered kind.
use Rattle.std.specs.Prelude.{◌≡◌, ℕ, ◌+◌, ◌*◌, ◌<◌, Bool, true, List, ℤ, pos, ◌≢◌}
use Rattle.sources.specs.Meaning.{Meaning}
use Rattle.values.specs.Value.{marked}
use Rattle.values.specs.Laws.{value_at}
use Rattle.filters.specs.Boxes.{Sides}
use Rattle.grammar.specs.Reading.{Out, ok, bind, parse}
use Rattle.samples.specs.Samples.{opened, closed, sample}

module _ {E : Type 0} (most : E → E → Bool) where
  -- the sample that a text asks for at a place of a source, or the fault of reading it
  unfoldable pub asked : List ℕ → Meaning E → ℤ → ℤ → Out E
  asked text m r c = bind (parse text) (λ e. ok (sample most e m.element r c))

  -- at every place of every source, the value of the text's form is the sample that the text asks for
  abbrev pub FormSamples : List ℕ → List ℕ → Type 0
  FormSamples text f = (m : Meaning E) (r c : ℤ) → asked text m r c ≡ ok (value_at most m.element f r c)

  -- at every place of every source, the two texts ask for the same sample
  abbrev pub SameSamples : List ℕ → List ℕ → Type 0
  SameSamples s t = (m : Meaning E) (r c : ℤ) → asked s m r c ≡ asked t m r c

  -- in its first 9 rows and 7 columns, m has high on the cells of the set w and low elsewhere
  abbrev pub Shows : Meaning E → E → E → ℕ → Type 0
  Shows m low high w = (r c : ℕ) → r < 9 → c < 7 → m.element (pos r) (pos c) ≡ marked low high w (r * 7 + c)

  -- in the middle of every such frame, the two texts ask for different samples
  abbrev pub OtherSamples : List ℕ → List ℕ → E → E → ℕ → Type 0
  OtherSamples s t low high w = (m : Meaning E) → Shows m low high w → asked s m (pos 4) (pos 3) ≢ asked t m (pos 4) (pos 3)

  -- an opening is at most the source at every place, and opening twice is opening once, whatever the sides of the box
  pub record OpeningLaw (h w : ℕ) : Type 0 where
    pub under : (m : Meaning E) (r c : ℤ) → most (opened most h w m.element r c) (m.element r c) ≡ true
    pub again : (m : Meaning E) (r c : ℤ) → opened most h w (opened most h w m.element) r c ≡ opened most h w m.element r c

  -- a closing is at least the source at every place, and closing twice is closing once
  pub record ClosingLaw (h w : ℕ) : Type 0 where
    pub over : (m : Meaning E) (r c : ℤ) → most (m.element r c) (closed most h w m.element r c) ≡ true
    pub again : (m : Meaning E) (r c : ℤ) → closed most h w (closed most h w m.element) r c ≡ closed most h w m.element r c

  abbrev pub Openings : Type 0
  Openings = (h w : ℕ) → Sides h w → OpeningLaw h w

  abbrev pub Closings : Type 0
  Closings = (h w : ℕ) → Sides h w → ClosingLaw h w
