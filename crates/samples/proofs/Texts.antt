-- What the forms of compiled texts tell of the samples that the texts ask for.
use Rattle.std.proofs.Common.{◌≡◌, ℕ, ◌+◌, ◌*◌, ◌/◌, ◌%◌, ◌<◌, Bool, ◌⊎◌, List, pos, ◌+ℤ◌, ◌-ℤ◌, sym, ap, ◌∙◌, ap₂, inl, inr, arith}
use Rattle.std.proofs.lemmas.Int.{ints}
use Rattle.sources.specs.Meaning.{Meaning}
use Rattle.forms.specs.Terms.{True}
use Rattle.forms.specs.Truth.{OnlyFirst}
use Rattle.values.specs.Value.{Ordered, value, marked}
use Rattle.values.specs.Laws.{Whole, seen, value_at}
use Rattle.values.proofs.Levels.{Le}
use Rattle.values.proofs.Tellings.{value_cells, mark_value}
use Rattle.grammar.specs.Expr.{Expr}
use Rattle.grammar.specs.Reading.{Out, ok, bind, parse}
use Rattle.grammar.proofs.Spelling.{reads_spellings}
use Rattle.expressions.specs.Working.{form_of, compile}
use Rattle.samples.specs.Samples.{sample}
use Rattle.samples.specs.Laws.{asked, FormSamples, SameSamples, Shows, OtherSamples}
use Rattle.samples.proofs.Joined.{Gives, bind_ok, form_samples}

-- the expression of a text whose form is f
parsed : (text f : List ℕ) → compile text ≡ ok f → (e : Expr) × (parse text ≡ ok e) × (form_of e ≡ ok f)
unfolding compile
parsed text f q = bind_ok (parse text) form_of f q

module _ {E : Type 0} (most : E → E → Bool) (o : Ordered most) where
  compiled_gives : (text f : List ℕ) → compile text ≡ ok f
      → (e : Expr) × (parse text ≡ ok e) × Gives most o (λ x r c. sample most e x r c) f
  compiled_gives text f q = let (e, a, b) = parsed text f q in (e, a, form_samples most o e ((reads_spellings text).sound e a).ruled f b)

  compiled_whole : (text f : List ℕ) → compile text ≡ ok f → Whole f
  compiled_whole text f q = (compiled_gives text f q).2.0

  pub compiled_samples : (text f : List ℕ) → compile text ≡ ok f → FormSamples most text f
  unfolding asked
  compiled_samples text f q m r c =
      let (e, a, b) = compiled_gives text f q in
      ap (λ (p : Out Expr). bind p (λ e. ok (sample most e m.element r c))) a ∙ ap ok (sym (b.1 m.element r c))

  pub same_samples : (s t f : List ℕ) → compile s ≡ ok f → compile t ≡ ok f → SameSamples most s t
  same_samples s t f p q m r c = compiled_samples s f p m r c ∙ sym (compiled_samples t f q m r c)

  -- the window in the middle of a frame of 9 rows and 7 columns is the frame
  module _ (m : Meaning E) (low high : E) (w : ℕ) (shows : Shows most m low high w) where
    framed : (k : ℕ) → k < 63 → seen m.element (pos 4) (pos 3) k ≡ marked low high w k
    framed k l =
        ap₂ m.element (row (k / 7)) (column (k % 7)) ∙ shows (k / 7) (k % 7) (omega arith) (omega arith)
        ∙ ap (marked low high w) (let e : k / 7 * 7 + k % 7 ≡ k = omega arith in e)
      where
        row : (n : ℕ) → pos 4 +ℤ (pos n -ℤ pos 4) ≡ pos n
        row n = omega (arith, ints)

        column : (n : ℕ) → pos 3 +ℤ (pos n -ℤ pos 3) ≡ pos n
        column n = omega (arith, ints)

    frame_value : (f : List ℕ) → Whole f → value_at most m.element f (pos 4) (pos 3) ≡ value most (marked low high w) f
    frame_value f v = value_cells most o (seen m.element (pos 4) (pos 3)) (marked low high w) f v framed

    module _ (up : Le most low high) (f : List ℕ) (v : Whole f) where
      pub frame_high : True f w → value_at most m.element f (pos 4) (pos 3) ≡ high
      frame_high t = frame_value f v ∙ (mark_value most o low high up f v w).0 t

      pub frame_low : (True f w → ⊥) → value_at most m.element f (pos 4) (pos 3) ≡ low
      frame_low t = frame_value f v ∙ (mark_value most o low high up f v w).1 t

  pub differing : (s t f g : List ℕ) → compile s ≡ ok f → compile t ≡ ok g
      → (low high : E) → Le most low high → (low ≡ high → ⊥) → (w : ℕ) → OnlyFirst f g w ⊎ OnlyFirst g f w → OtherSamples most s t low high w
  differing s t f g p q low high up n w d m shows e = elim d [
    | inl k ↦ n (sym (frame_low m low high w shows up g wg k.1) ∙ sym same ∙ frame_high m low high w shows up f wf k.0)
    | inr k ↦ n (sym (frame_low m low high w shows up f wf k.1) ∙ same ∙ frame_high m low high w shows up g wg k.0)
  ]
    where
      wf : Whole f
      wf = compiled_whole s f p

      wg : Whole g
      wg = compiled_whole t g q

      same : value_at most m.element f (pos 4) (pos 3) ≡ value_at most m.element g (pos 4) (pos 3)
      same = let i = compiled_samples s f p m (pos 4) (pos 3) in let j = compiled_samples t g q m (pos 4) (pos 3) in cc
