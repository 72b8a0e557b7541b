-- What two accepted texts have in common, or are told apart by.
use Rattle.std.proofs.Common.{◌≡◌, ℕ, ◌+◌, ◌*◌, Bool, List, Some, None, Err, Option, Result, sym, ap, ◌∙◌, subst, ap₂}
use Rattle.elements.specs.Order.{lesser, greater}
use Rattle.forms.specs.declared.form.Form.{Form}
use Rattle.forms.specs.Parts.{terms_of}
use Rattle.stored.specs.Outcomes.{bytes_of}
use Rattle.stored.proofs.Answering.{form_same}
use Rattle.values.specs.Value.{Ordered, marked}
use Rattle.values.proofs.Tellings.{apart, ends, unequal}
use Rattle.grammar.specs.Reading.{ok}
use Rattle.expressions.specs.Working.{compile}
use Rattle.samples.proofs.Texts.{compiled_samples, same_samples, differing}
use Rattle.comparing.specs.declared.comparison.CompareFault.{CompareFault}
use Rattle.comparing.specs.declared.comparison.Comparison.{Comparison}
use Rattle.comparing.specs.declared.comparison.Side.{Side}
use Rattle.comparing.specs.declared.witness.Witness.{Witness}
use Rattle.comparing.proofs.Frames.{frame_shows}
use Rattle.comparing.specs.Comparing.{Told, Verdict, Compared, Faulted, Outcome}

module _ {E : Type 0} (most : E → E → Bool) (o : Ordered most) (left right : List ℕ) (f g : Form) (low high : E)
    (p : compile left ≡ ok (terms_of f)) (q : compile right ≡ ok (terms_of g)) where
  verdict : (w : Option (Witness E)) → Told most (terms_of f) (terms_of g) low high w → Verdict most left right (terms_of f) (terms_of g) low high w
  verdict None t = record {
    bytes = ap bytes_of t;
    samples = same_samples most o left right (terms_of f) p (q ∙ ap ok (sym t));
  }
  verdict (Some w) (m, t) = record {
    bytes = λ e. apart (terms_of f) (terms_of g) w.marks t (form_same f g e);
    marks = m;
    shown = λ r c l k. frame_shows most w r c l k
        ∙ ap₂ (λ (a b : E). marked (lesser most a b) (greater most a b) w.marks (r * 7 + c)) m.first m.second;
    samples = λ n. differing most o left right (terms_of f) (terms_of g) p q (lesser most low high) (greater most low high) (ends most o low high)
        (unequal most o low high n) w.marks t;
  }

  pub compared : (w : Option (Witness E)) → Told most (terms_of f) (terms_of g) low high w
      → Compared most left right low high (record { left = f; right = g; witness = w })
  compared w t = record {
    left_form = p;
    right_form = q;
    left_samples = compiled_samples most o left (terms_of f) p;
    right_samples = compiled_samples most o right (terms_of g) q;
    verdict = verdict w t;
  }

-- the fault of one of the texts, as it is handed on
module _ {E : Type 0} (most : E → E → Bool) (left right : List ℕ) (low high : E) (r : Result (Comparison E) CompareFault) (e d : CompareFault) (a : r ≡ Err e) (b : e ≡ d) where
  pub one_fault : (side : Side) → d.side ≡ side → Faulted left right side d.fault → Outcome most left right low high r
  one_fault side s f =
      subst (Outcome most left right low high) (sym (a ∙ ap Err b)) (subst (λ (i : Side). Faulted left right i d.fault) (sym s) f)
