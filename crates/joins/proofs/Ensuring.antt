-- Where the form that a join made is true.
use Rattle.std.proofs.Common.{◌≡◌, ℕ, List, Ok, Err, Result, sym}
use Rattle.forms.specs.declared.form.Form.{Form}
use Rattle.forms.specs.declared.faults.Fault.{Fault}
use Rattle.forms.specs.Parts.{terms_of, outcome}
use Rattle.joins.specs.Joins.{max_of, min_of}
use Rattle.joins.specs.Outcomes.{Ensured, On, Either, Both}
use Rattle.joins.proofs.Entries.{all_to, all_from, min_to, min_from}

pub max_ensured : (r : Result Form Fault) (f g : List ℕ) → outcome r ≡ max_of f g → Ensured r (Either f g)
max_ensured (Ok s) f g e = λ p. (all_to (On p) g f (terms_of s) (sym e), all_from (On p) g f (terms_of s) (sym e))
max_ensured (Err n) f g e = tt

pub min_ensured : (r : Result Form Fault) (f g : List ℕ) → outcome r ≡ min_of f g → Ensured r (Both f g)
min_ensured (Ok s) f g e = λ p. (min_to (On p) f g (terms_of s) (sym e), λ x. min_from (On p) f g (terms_of s) (sym e) x.0 x.1)
min_ensured (Err n) f g e = tt
