use Rattle.std.proofs.Common.{◌≡◌, ℕ, List, take, Some, None, Option, rules}
use Rattle.forms.specs.declared.sets.Term.{Term}
use Rattle.forms.specs.Truth.{telling}
use Rattle.forms.specs.Parts.{terms_of, listed, Separates}
use Rattle.forms.proofs.Forms.{Sound}
use Rattle.forms.proofs.Whole.{sound_form}
use Rattle.forms.proofs.Laws.{telling_some, telling_none}
use Rattle.forms.proofs.form.Form.separating.Goals as goal

told_apart : (f g : List ℕ) → Sound f → Sound g → (r : Option Term) → listed r ≡ take 1 (telling f g) → Separates r f g
told_apart f g w v (Some t) e = telling_some f g t e
told_apart f g w v None e = telling_none f g w v e

pub returns-clause-truth : goal.returns-clause-truth
returns-clause-truth c =
    told_apart (terms_of c.args.self.now) (terms_of c.args.other.now) (sound_form c.args.self.now) (sound_form c.args.other.now) c.or_else.result (search rules)
