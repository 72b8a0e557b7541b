use Rattle.std.proofs.Common.{◌≡◌, true, List, sym, subst}
use Rattle.filters.specs.Basic.{Weighed, different}
use Rattle.filters.specs.Truths.{Cells}
use Rattle.filters.specs.Weights.{listed}
use Rattle.filters.proofs.Weighing.{cells_of, cells_push, different_push}
use Rattle.filters.proofs.weights.Weights.add.Goals as goal

pub invariant_of-self : goal.invariant_of-self
invariant_of-self c =
    let xs : List Weighed = listed c.args.self.now in
    let x : Weighed = record { cell = c.args.cell; times = c.args.times } in
    let e = sym c.in_ok-push.ensures.ok in record {
      apart = subst (λ (ys : List Weighed). different ys ≡ true) e (different_push xs x c.args.self.now.apart (sym c.if-not-lacks.ensures.value));
      cells = ∣ subst Cells e (cells_push xs x (cells_of c.args.self.now) c.lacks.ensures.window) ∣₁;
    }
