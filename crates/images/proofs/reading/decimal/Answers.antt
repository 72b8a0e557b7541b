use Rattle.std.proofs.Common.{ap, ◌∙◌, arith}
use Rattle.std.proofs.lemmas.List.{take_all}
use Rattle.images.specs.Header.{decimal}
use Rattle.images.proofs.Decimals.{decimal_more, decimal_small}
use Rattle.images.proofs.reading.decimal.Goals as goal

pub loop-d-preserved : goal.loop-d-preserved
loop-d-preserved c =
    let e = decimal_more c.args.digits.now c.loop-d.d-index c.loop-d-test.true in
    let i = c.loop-d.invariant.0 in (
      omega (arith, e, i),
      decimal_small c.loop-d.d-index c.loop-d.sum _ c.from.result c.loop-d.invariant.1 (c.type_inv.digits c.loop-d.d-index).fits (omega arith),
    )

pub returns : goal.returns
returns c = c.loop-d.invariant.0 ∙ ap decimal (take_all c.loop-d.d-index c.args.digits.now c.loop-d-test.false)
