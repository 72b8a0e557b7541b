use Rattle.forms.specs.Parts.{terms_of}
use Rattle.forms.proofs.Whole.{sets_form, apart_form, sound_form}
use Rattle.forms.proofs.Laws.{irredundant, only_one}
use Rattle.forms.proofs.form.Form.terms.Goals as goal

pub returns-clause-irredundant : goal.returns-clause-irredundant
returns-clause-irredundant c = let f = c.args.self.now in irredundant (terms_of f) (apart_form f) (sets_form f)

pub returns-clause-only : goal.returns-clause-only
returns-clause-only c = let f = c.args.self.now in only_one (terms_of f) (sound_form f) (sets_form f)
