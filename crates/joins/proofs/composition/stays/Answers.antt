use Rattle.std.proofs.Common.{◌≡◌, ℕ, List, ap, ◌∙◌, rules, tests}
use Rattle.std.proofs.lemmas.Iterator.Consumers.{YieldsList-from_first}
use Rattle.std.proofs.lemmas.Iterator.Search.{all_from_yields_List}
use Rattle.forms.specs.Sets.{cells, movable}
use Rattle.forms.specs.Terms.{used}
use Rattle.forms.specs.Parts.{terms_of}
use Rattle.joins.proofs.Passing.{staying}
use Rattle.joins.proofs.composition.stays.Goals as goal

pub returns : goal.returns
returns c =
    let e : List ℕ = terms_of c.args.e.now in
    let f : List ℕ = terms_of c.args.f.now in
    let each = all_from_yields_List {all = cells c.used.result} (λ k. movable k (used f)) _ _ c.all.result c.all.ensures.ran (YieldsList-from_first (λ x. x) (λ s. s) _ (search rules)) (λ x b q k. search (rules, tests)) in
    each ∙ staying e f c.used.result c.used.ensures.value
