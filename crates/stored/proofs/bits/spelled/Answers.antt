use Rattle.std.proofs.Common.{◌≡◌, ℕ, ◌+◌, fold, ◌∙◌, arith, rules, tests}
use Rattle.std.specs.List.{range_with_len}
use Rattle.std.proofs.lemmas.Iterator.{YieldsList-from_range}
use Rattle.std.proofs.lemmas.Iterator.Consumers.{fold_from_yields_List}
use Rattle.stored.proofs.Spelling.{more, fold_spelled, spelled_below}
use Rattle.stored.proofs.bits.spelled.Goals as goal

pub returns : goal.returns
returns g c =
    let b : ℕ → ℕ = g.B.Bits.bit_of c.args.bits in
    let e : c.fold.result ≡ fold (more b) 0 (range_with_len c.args.from c.args.width) =
    fold_from_yields_List _ (more b) 0 _ c.fold.ensures.ran (YieldsList-from_range c.args.from (c.args.from + c.args.width) c.args.width (cc) (omega arith)) (λ a x b q k. search (rules, tests)) in
    let s = fold_spelled b (g.met.B.Bits.zero_or_one c.args.bits) c.args.from c.args.width (omega arith) in
    record { value = e ∙ s; fits = omega (arith, e, s, spelled_below b (g.met.B.Bits.zero_or_one c.args.bits) c.args.from c.args.width) }
