use Rattle.std.proofs.Common.{[], ◌∷◌, ◌++◌, Result, sym, subst}
use Rattle.std.proofs.lemmas.Result.{err_from_is_err_and}
use Rattle.filters.specs.declared.weights.Weights.{Weights}
use Rattle.filters.specs.declared.weights.adding.WeightsFault.{WeightsFault}
use Rattle.filters.specs.Basic.{Weighed}
use Rattle.filters.specs.Weights.{listed}
use Rattle.expressions.specs.Outcomes.{Lists}
use Rattle.expressions.proofs.WeightSteps.{not_added, never_few}
use Rattle.expressions.proofs.weighing.with.Goals as goal

pub returns-in_err-add-in-Ok : goal.returns-in_err-add-in-Ok
returns-in_err-add-in-Ok c xs h =
    let x : Weighed = record { cell = c.args.cell; times = c.args.times } in
    let p = err_from_is_err_and c.from_residual.result c.from_residual.ensures.1 in
    let l = subst (λ (o : Result Weights WeightsFault). Lists o xs) c.in-Ok.is h in
    subst (λ (o : Result Weights WeightsFault). Lists o (xs ++ x ∷ [])) (sym p.1) (not_added c.in_err-add-in-Ok.field-0.0 xs (listed c.add.new.self) x (rw (l) at c.in_err-add-in-Ok.ensures))

pub returns-in-Err : goal.returns-in-Err
returns-in-Err c xs h =
    never_few xs (record { cell = c.args.cell; times = c.args.times }) (subst (λ (o : Result Weights WeightsFault). Lists o xs) c.in-Err.is h)
