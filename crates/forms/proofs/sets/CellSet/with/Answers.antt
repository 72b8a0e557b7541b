use Rattle.std.proofs.Common.{◌≡◌, ℕ, ◌<◌, ◌⊎◌, sym, refl, subst, inl, inr}
use lib.Bits.{bit_or}
use Rattle.forms.specs.Sets.{Has, single}
use Rattle.forms.proofs.Bits.{has_or, or_small, has_single, single_has}
use Rattle.forms.proofs.sets.CellSet.with.Goals as goal

one_more : (s n c : ℕ) → n < 63 → c < 63 → (Has (bit_or s (single n)) c → Has s c ⊎ (c ≡ n)) × (Has s c ⊎ (c ≡ n) → Has (bit_or s (single n)) c)
one_more s n c l m = ((λ h. to ((has_or s (single n) c).0 h)), from)
  where
    to : Has s c ⊎ Has (single n) c → Has s c ⊎ (c ≡ n)
    to (inl h) = inl h
    to (inr h) = inr (single_has n c l m h)

    from : Has s c ⊎ (c ≡ n) → Has (bit_or s (single n)) c
    from (inl h) = (has_or s (single n) c).1 (inl h)
    from (inr e) = (has_or s (single n) c).1 (inr (subst (λ (y : ℕ). Has (single n) y) (sym e) (has_single n)))

pub invariant_of-result : goal.invariant_of-result
invariant_of-result c = or_small c.self.inside.bits c.mask.result c.self.invariant c.mask.ensures.fits

pub returns : goal.returns
returns c =
    rw (c.mask.ensures.value, c.self.view_is) record {
      value = refl;
      cells = λ k l. one_more c.args.self c.args.cell k c.mask.ensures.cell l;
      fits = or_small c.args.self (single c.args.cell) (rw (← c.self.view_is) c.self.invariant) (rw (c.mask.ensures.value) at c.mask.ensures.fits);
    }
