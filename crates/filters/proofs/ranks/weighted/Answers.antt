use Rattle.std.proofs.Common.{◌≡◌, List, Some, sym, ap, ◌∙◌, arith}
use Rattle.forms.specs.Faults.{fault_number}
use Rattle.forms.specs.Parts.{terms_of, told}
use Rattle.filters.specs.Basic.{Weighed, weight_of}
use Rattle.filters.specs.Weights.{listed}
use Rattle.filters.specs.Ranks.{Weighted}
use Rattle.filters.proofs.Weighing.{cells_of, listed_few}
use Rattle.filters.proofs.Reached.{reached, reached_start, weighs}
use Rattle.filters.proofs.Truths.{weight_made}
use Rattle.filters.proofs.Unions.{never_declined}
use Rattle.filters.proofs.ranks.weighted.Goals as goal
use Rattle.filters.proofs.ranks.weighted.Goals.{After-enter_reaching}

entered : (c : After-enter_reaching) → told c.enter_reaching.result (terms_of c.enter_reaching.new.form) ≡ weight_of c.args.k (listed c.args.weights.now)
entered c =
    c.enter_reaching.ensures
    ∙ ap (λ (xs : List Weighed). reached c.empty.result xs c.args.k (terms_of c.window-form.result)) c.as_slice.ensures.items
    ∙ reached_start c.empty.result (listed c.args.weights.now) c.args.k (terms_of c.window-form.result) c.empty.ensures
    (cells_of c.args.weights.now) (omega arith) c.window-form.ensures

pub unreachable-requires : goal.unreachable-requires
unreachable-requires c =
    let d = weight_made c.args.k (listed c.args.weights.now) (listed_few c.args.weights.now) (omega arith) in
    never_declined (fault_number c.in_default.field-0) d.0
    (sym (ap (λ r. told r (terms_of c.enter_reaching.new.form)) c.in_default.is) ∙ entered c.before ∙ d.1)

pub returns : goal.returns
returns c =
    let e : Weighted (Some c.enter_reaching.new.form) c.args.k (listed c.args.weights.now) =
    (omega arith, omega arith, sym (ap (λ r. told r (terms_of c.enter_reaching.new.form)) c.in-Ok.is) ∙ entered c.before) in
    record { exact = e; truth = weighs (Some c.enter_reaching.new.form) c.args.k (listed c.args.weights.now) (cells_of c.args.weights.now) e }
