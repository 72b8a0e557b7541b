use Rattle.std.proofs.Common.{◌≡◌, ℕ, true, arith}
use Rattle.std.proofs.lemmas.Int.{ints}
use Rattle.sources.proofs.Axis.{from_ends, at_first, at_end}
use Rattle.sources.proofs.extent.spans.Goals as goal

pub returns-then-not-within : goal.returns-then-not-within
returns-then-not-within c = (
  λ e. let z : ◌≡◌ {A = ℕ} 0 1 = cc in absurd (omega arith),
  λ h.
      let w = at_first c.args.side c.args.margin c.args.first c.args.count c.requires h in
      let t : c.within.result ≡ true = c.within.ensures.1 (omega (arith, ints, w.0), omega (arith, ints, w.1)) in
      cc,
)

pub returns-then-end-from : goal.returns-then-end-from
returns-then-end-from c = (
  λ e. let z : ◌≡◌ {A = ℕ} 0 1 = cc in absurd (omega arith),
  λ h. let w = at_end c.args.side c.args.margin c.args.first c.args.count c.requires h in absurd (omega (arith, ints)),
)

pub returns : goal.returns
returns c =
    let v = c.within.ensures.0 c.if-not-within.false in (
      λ e. from_ends c.args.side c.args.margin c.args.first c.args.count (omega (arith, ints, v.0), omega (arith, ints, v.1)) (omega (arith, ints)),
      λ h. mathlib.Core.Path.refl,
    )
