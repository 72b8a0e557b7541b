-- A form that has a term covers it.
use Rattle.std.proofs.Common.{◌≡◌, ℕ, true, false, eqb, List, [], ◌∷◌, refl, subst, inl, inr}
use Rattle.std.proofs.lemmas.Bool.{eq-eqb, eqb-true, or_cases, or_left, or_right, both_ways}
use lib.Bits.{bit_and}
use Rattle.forms.specs.Sets.{sub}
use Rattle.forms.specs.Entering.{holds, covers}
use Rattle.forms.proofs.Bits.{sub_refl}

-- a term lies inside itself
pub holds_covers : (f : List ℕ) (t : ℕ) → holds f t ≡ true → covers f t ≡ true
holds_covers [] t e = absurd (both_ways false refl e)
holds_covers (u ∷ us) t e = elim (or_cases (eqb u t) (holds us t) e) [
  | inl a ↦ or_left (sub u t) (covers us t) (subst (λ (y : ℕ). sub u y ≡ true) (eqb-true u t a) (eq-eqb (bit_and u u) u (sub_refl u)))
  | inr b ↦ or_right (sub u t) (covers us t) (holds_covers us t b)
]
