use Rattle.std.proofs.Common.{◌≡◌, ℕ, List, sym, ap, ◌∙◌, rules, tests}
use Rattle.std.proofs.lemmas.Iterator.Consumers.{YieldsList-from_first}
use Rattle.std.proofs.lemmas.Iterator.Search.{all_from_yields_List}
use Rattle.forms.specs.Window.{stays}
use Rattle.forms.specs.Sets.{cells, movable}
use Rattle.forms.specs.Terms.{used}
use Rattle.forms.specs.Parts.{terms_of}
use Rattle.forms.proofs.Moving.{window_to, window_from}
use Rattle.forms.proofs.form.Form.stays_at.Goals as goal

pub returns : goal.returns
returns c =
    let f : List ℕ = terms_of c.args.self.now in
    let n : ℕ = c.args.to in
    let each = all_from_yields_List {all = cells c.used.result} (stays n) _ _ c.all.result c.all.ensures.ran (YieldsList-from_first (λ x. x) (λ s. s) _ (search rules)) (λ x b q k. search (rules, tests)) in
    let e : c.all.result ≡ movable n (used f) = each ∙ ap (movable n) c.used.ensures.value in
    record { exact = e; window = ((λ t. window_to n f (sym e ∙ t)), λ h. e ∙ window_from n f h) }
