-- The laws of an element kind, as one record.
use Rattle.std.proofs.Common.{◌≡◌, Bool, true, false, ◌||◌}
use Rattle.std.proofs.lemmas.Bool.{true≢false}
use Rattle.values.specs.Value.{Ordered}

right : (p q : Bool) → (p || q) ≡ true → p ≡ false → q ≡ true
right true q h e = absurd (true≢false e)
right false q h e = h

pub ordered : {E : Type 0} (most : E → E → Bool)
    → ((a : E) → most a a ≡ true)
    → ((a b : E) → (most a b || most b a) ≡ true)
    → ((a b : E) → most a b ≡ true → most b a ≡ true → a ≡ b)
    → ((a b c : E) → most a b ≡ true → most b c ≡ true → most a c ≡ true)
    → Ordered most
ordered most r t s p = record { reflexive = r; total = λ a b e. right (most a b) (most b a) (t a b) e; antisymmetric = s; transitive = p }
