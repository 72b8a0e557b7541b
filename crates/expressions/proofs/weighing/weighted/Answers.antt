use Rattle.std.proofs.Common.{◌≡◌, ℕ, ◌≤◌, List, length, Result, subst, rules}
use Rattle.filters.specs.declared.weights.Weights.{Weights}
use Rattle.filters.specs.declared.weights.adding.WeightsFault.{WeightsFault}
use Rattle.filters.specs.Basic.{Weighed}
use Rattle.filters.specs.Weights.{listed}
use Rattle.grammar.specs.Expr.{weight}
use Rattle.grammar.specs.Reading.{Toks, read, weights_of}
use Rattle.expressions.specs.Outcomes.{Lists}
use Rattle.expressions.specs.Working.{form_of}
use Rattle.expressions.proofs.WeightSteps.{weighted_ok}
use Rattle.expressions.proofs.weighing.weighted.Goals as goal

pub returns-in_ok-unbroken-in-Ok-Ok : goal.returns-in_ok-unbroken-in-Ok-Ok
unfolding form_of
returns-in_ok-unbroken-in-Ok-Ok c =
    let vs : Toks = c.amount.new.self in
    let rest : Toks = c.weights.new.reader in
    let w : Weights = c.in-Ok-Ok.weights in
    let h = subst (λ (o : Result Weights WeightsFault). (m : ℕ) → length vs ≤ m → (xs : List Weighed) × (weights_of m vs ≡ read xs rest) × Lists o xs) c.in-Ok-Ok.field-0-is c.in-Ok-Ok.ensures in (
      weight c.args.place c.in_ok-k.k (listed w),
      weighted_ok c.args.place c.in_ok-k.k c.args.reader.now c.sign.new.self vs c.in_ok-sign.ensures.passes c.in_ok-k.ensures.value w rest h (search rules),
      search rules,
    )
