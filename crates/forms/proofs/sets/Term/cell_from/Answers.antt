use Rattle.std.proofs.Common.{ℕ, ◌∙◌, arith}
use Rattle.forms.proofs.Listed.{cells_more, cells_skip, cells_none}
use Rattle.forms.proofs.sets.Term.cell_from.Goals as goal

pub returns-then-contains : goal.returns-then-contains
returns-then-contains c =
    let t : ℕ = c.args.self in
    let k : ℕ = c.loop-number.number in (
      omega (arith, c.loop-number.auto.number),
      c.loop-number.invariant ∙ cells_more t k (omega (arith, c.loop-number-test.true)) c.contains.result c.contains.ensures c.if-contains.true,
    )

pub loop-number-preserved : goal.loop-number-preserved
loop-number-preserved c =
    let t : ℕ = c.args.self in
    let k : ℕ = c.loop-number.number in
    c.loop-number.invariant ∙ cells_skip t k (omega (arith, c.loop-number-test.true)) c.contains.result c.contains.ensures c.if-contains.false

pub returns : goal.returns
returns c = c.loop-number.invariant ∙ cells_none c.args.self c.loop-number.number (omega (arith, c.loop-number-test.false))
