use Rattle.std.proofs.Common.{arith, w32, SFits, rules}
use Rattle.std.proofs.lemmas.Int.{ints}
use Rattle.sources.proofs.extent.Extent.holds_row.Goals as goal

pub returns-then-within : goal.returns-then-within
returns-then-within c =
    let f : SFits w32 c.args.self.margin = search rules in
    let v = c.within.ensures.0 c.if-within.true in (
      λ e k l.
          let u = c.spans.ensures.0 e k l in
          ((omega (arith, ints, v.0), omega (arith, ints, v.1)), (omega (arith, ints, u.0), omega (arith, ints, u.1))),
      λ h. c.spans.ensures.1 (λ k l. let u = (h k l).1 in (omega (arith, ints, u.0), omega (arith, ints, u.1))),
    )
