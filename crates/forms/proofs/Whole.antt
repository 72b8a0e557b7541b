-- What holds of the terms of every form.
use Rattle.std.proofs.Common.{◌≡◌, ℕ, ◌-◌, ◌<◌, ◌≤◌, List, [], ◌∷◌, length, get_or, take, drop, ap, ◌∙◌, ap₂, arith, length-take}
use Rattle.std.proofs.lemmas.List.{take_all}
use Rattle.forms.specs.declared.form.Form.{Form}
use Rattle.forms.specs.Terms.{most_terms, Terms, Ascending, Apart}
use Rattle.forms.specs.Parts.{terms_of}
use Rattle.forms.proofs.Forms.{Sound}
use Rattle.forms.proofs.Entered.{terms_of_lem, ascending_of, apart_of, sound_of}

module _ (f : Form) where
  pub size_most : length (terms_of f) ≤ most_terms
  size_most = omega (arith, length-take f.table.count f.table.items, f.table.room)

  pub size_some : 0 < length (terms_of f)
  size_some = f.some

  pub sets_form : Terms (terms_of f)
  sets_form = terms_of_lem (terms_of f) f.sets

  pub apart_form : Apart (terms_of f)
  apart_form = apart_of (terms_of f) f.apart

  pub ascending_form : Ascending (terms_of f)
  ascending_form = ascending_of (terms_of f) f.ascending

  pub sound_form : Sound (terms_of f)
  sound_form = sound_of (terms_of f) f.ascending f.apart

-- the first term and the others, as a slice pattern parts them, are the terms
pub parted : (ts f : List ℕ) (t : ℕ) → ts ≡ f → 0 < length f → t ≡ get_or ts 0 t → t ∷ take (length ts - 1) (drop 1 ts) ≡ f
parted [] f t e l q = absurd (omega (arith, ap length e))
parted (u ∷ ts) f t e l q = ap₂ (λ (x : ℕ) (xs : List ℕ). x ∷ xs) q (take_all (length {A = ℕ} (u ∷ ts) - 1) ts (omega arith)) ∙ e
