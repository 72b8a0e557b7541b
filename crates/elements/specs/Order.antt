-- The lesser and the greater of two elements under a comparison `most`, "at most".
use Rattle.std.specs.Prelude.{◌≡◌, Bool, true, cond, ◌⊎◌}

abbrev pub lesser : {E : Type 0} → (E → E → Bool) → E → E → E
lesser most a b = cond (most a b) a b

abbrev pub greater : {E : Type 0} → (E → E → Bool) → E → E → E
greater most a b = cond (most a b) b a

-- r is one of a and b, and at most both
pub record Lowest {E : Type 0} (most : E → E → Bool) (a b r : E) : Type 0 where
  pub one : (r ≡ a) ⊎ (r ≡ b)
  pub under_a : most r a ≡ true
  pub under_b : most r b ≡ true

-- r is one of a and b, and both are at most r
pub record Highest {E : Type 0} (most : E → E → Bool) (a b r : E) : Type 0 where
  pub one : (r ≡ a) ⊎ (r ≡ b)
  pub over_a : most a r ≡ true
  pub over_b : most b r ≡ true
