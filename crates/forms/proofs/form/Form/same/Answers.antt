use Rattle.std.proofs.lemmas.Slice.Eq.{slice_eq-Decides}
use Rattle.std.proofs.lemmas.Bool.Decides.{Decides-eqb}
use Rattle.forms.specs.Parts.{terms_of}
use Rattle.forms.proofs.Whole.{sets_form, sound_form}
use Rattle.forms.proofs.Forms.{unique}
use Rattle.forms.proofs.Laws.{same_truth}
use Rattle.forms.proofs.form.Form.same.Goals as goal

pub returns : goal.returns
returns c =
    let f = c.args.self.now in
    let g = c.args.other.now in
    let d = rw (c.terms.ensures.value, c.terms-2.ensures.value) at (slice_eq-Decides Decides-eqb c.terms.result.now c.terms-2.result.now c.eq.result c.eq.ensures) in
    record {
      terms = d;
      truth = (
        (λ e. same_truth (terms_of f) (terms_of g) (d.0 e)),
        λ h. d.1 (unique (terms_of f) (terms_of g) (sound_form f) (sound_form g) (sets_form f) (sets_form g) h),
      );
    }
