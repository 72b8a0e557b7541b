use Rattle.std.proofs.Common.{ℕ, ◌*◌, ◌%◌, ◌^◌, ◌≤◌, sym, ap, ◌∙◌, subst, arith}
use lib.Count.{count_leading_zeros}
use Rattle.forms.specs.Sets.{cells}
use Rattle.forms.proofs.Firsts.{Top, top, mask_is, none_in_empty, first_and_others, others_from}
use Rattle.forms.proofs.sets.CellSet.split_first.Goals as goal

pub returns-then-self-eq0 : goal.returns-then-self-eq0
returns-then-self-eq0 c = record { cells = ap cells (sym c.self.view_is ∙ c.if-self-eq0.true) ∙ none_in_empty; others = tt }

pub overflow_sub-others : goal.overflow_sub-others
overflow_sub-others c = omega (arith, (top c.self.inside.bits (omega arith) c.self.invariant).cell)

pub overflow_sub-others-2 : goal.overflow_sub-others-2
overflow_sub-others-2 c =
    let s : ℕ = c.self.inside.bits in
    subst (λ (y : ℕ). y ≤ s) (sym (mask_is (count_leading_zeros 64 ((s * 2) % 2 ^ 64)))) (top s (omega arith) c.self.invariant).low

pub invariant_of-cell : goal.invariant_of-cell
invariant_of-cell c = (top c.self.inside.bits (omega arith) c.self.invariant).cell

pub returns : goal.returns
returns c =
    let s : ℕ = c.self.inside.bits in
    let n : ℕ = count_leading_zeros 64 ((s * 2) % 2 ^ 64) in
    let h : Top s n = top s (omega arith) c.self.invariant in
    rw (mask_is n, ← c.self.view_is) record {
      cells = first_and_others s n (omega arith) h.cell h.low h.high;
      others = others_from s n (omega arith) h.cell h.low h.high;
    }
