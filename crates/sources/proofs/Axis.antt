-- Consecutive places along one axis.
use Rattle.std.proofs.Common.{ℕ, ◌-◌, ◌<◌, ℤ, pos, ◌+ℤ◌, ◌≤ℤ◌, arith}
use Rattle.std.proofs.lemmas.Int.{ints}
use Rattle.sources.specs.Meaning.{Within}

module _ (side : ℕ) (m first : ℤ) (n : ℕ) where
  pub from_ends : Within side m first → (first +ℤ pos n) ≤ℤ (pos side +ℤ m) → (k : ℕ) → k < n → Within side m (first +ℤ pos k)
  from_ends a b k l = (omega (arith, ints, a.0), omega (arith, ints))

  pub at_first : 0 < n → ((k : ℕ) → k < n → Within side m (first +ℤ pos k)) → Within side m first
  at_first p h = let w = h 0 p in (omega (arith, ints, w.0), omega (arith, ints, w.1))

  pub at_end : 0 < n → ((k : ℕ) → k < n → Within side m (first +ℤ pos k)) → (first +ℤ pos n) ≤ℤ (pos side +ℤ m)
  at_end p h = let w = h (n - 1) (omega arith) in omega (arith, ints, w.1)
