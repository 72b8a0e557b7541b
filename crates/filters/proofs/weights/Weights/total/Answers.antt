use Rattle.std.proofs.Common.{◌≡◌, sym, ◌∙◌, rules}
use Rattle.std.specs.List.{sum_by}
use Rattle.filters.specs.Weights.{listed}
use Rattle.filters.proofs.Weighing.{total_sum}
use Rattle.filters.proofs.weights.Weights.total.Goals as goal

pub returns : goal.returns
returns c =
    let e : c.sum.result ≡ sum_by (λ x. x.times) (listed c.args.self.now) = search rules in
    e ∙ sym (total_sum (listed c.args.self.now))
