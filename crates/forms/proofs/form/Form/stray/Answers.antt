use Rattle.std.proofs.Common.{◌≡◌, ℕ, Bool, true, false, cond, not, List, [], ◌∷◌, take, Some, None, Option, refl, sym, ap, ◌∙◌, rules, tests}
use Rattle.std.specs.List.{find}
use Rattle.std.specs.Option.{option_map}
use Rattle.std.proofs.lemmas.Iterator.{YieldsList-from_slice}
use Rattle.std.proofs.lemmas.Iterator.Consumers.{YieldsList-from_copied}
use Rattle.std.proofs.lemmas.Iterator.Search.{find_from_yields_List}
use Rattle.forms.specs.declared.sets.Term.{Term}
use Rattle.forms.specs.Entering.{covers}
use Rattle.forms.specs.Truth.{outside}
use Rattle.forms.specs.Parts.{terms_of, listed}
use Rattle.forms.proofs.form.Form.stray.Goals as goal

-- the first term on which g is false is the first of all these
first_outside : (o : Option Term) (f g : List ℕ) → o ≡ find (λ t. not (covers g t)) f → listed o ≡ take 1 (outside f g)
first_outside o [] g e = ap listed e
first_outside o (u ∷ f) g e = go (covers g u) (first_outside o f g) e
  where
    go : (b : Bool) → (o ≡ find (λ t. not (covers g t)) f → listed o ≡ take 1 (outside f g)) → o ≡ cond (not b) (Some u) (find (λ t. not (covers g t)) f)
        → listed o ≡ take 1 (cond b (outside f g) (u ∷ outside f g))
    go true ih q = ih q
    go false ih q = ap listed q

same : (o : Option Term) → option_map (λ x. x) o ≡ o
same (Some t) = refl
same None = refl

pub returns : goal.returns
returns c =
    let f : List ℕ = terms_of c.args.self.now in
    let g : List ℕ = terms_of c.args.other.now in
    first_outside c.find.result f g
    (sym (same c.find.result) ∙ find_from_yields_List {all = f} (λ t. not (covers g t)) _ _ c.find.result c.find.ensures.ran (YieldsList-from_copied (YieldsList-from_slice f cc)) (λ x b q k. search (rules, tests)))
