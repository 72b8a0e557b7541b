use Rattle.std.proofs.Common.{◌≡◌, ℕ, ◌-◌, ◌*◌, ◌%◌, ◌^◌, ◌<◌, sym, ap, ◌∙◌, subst, arith}
use Rattle.std.proofs.lemmas.Nat.{one_shl}
use Rattle.forms.specs.Sets.{single}
use Rattle.forms.proofs.Bits.{single_small, single_some}
use Rattle.forms.proofs.sets.mask.Goals as goal

pub returns : goal.returns
returns c =
    let n : ℕ = c.args.cell in
    let q : (1 * 2 ^ (62 - c.number.result)) % 2 ^ 64 ≡ single n =
    one_shl (62 - c.number.result) 64 (omega arith) ∙ ap single c.number.ensures.value in
    record {
      value = q;
      some = subst (λ (y : ℕ). 0 < y) (sym q) (single_some n);
      cell = omega (arith, c.number.ensures.value, c.number.ensures.bound);
      fits = subst (λ (y : ℕ). y < 2 ^ 63) (sym q) (single_small n);
    }
