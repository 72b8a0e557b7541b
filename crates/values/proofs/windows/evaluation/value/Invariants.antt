use Rattle.std.proofs.Common.{◌≡◌, drop, fold}
use Rattle.values.specs.Windows.{element_at}
use Rattle.values.proofs.Highs.{higher}
use Rattle.values.proofs.windows.evaluation.value.Given as goal

-- with the terms that are left, the greatest comes to that of all
abbrev pub invariant-loop-term : goal.invariant-loop-term
invariant-loop-term g l = (d : _)
    → fold (higher g.E.Order.most (element_at l.window d)) l.high (drop l.term-index l.others) ≡ fold (higher g.E.Order.most (element_at l.window d)) l.initial.high l.others
