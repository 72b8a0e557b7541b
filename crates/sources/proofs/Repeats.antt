-- The nearest place of a side.
use Rattle.std.proofs.Common.{ℕ, ◌<◌, ◌≤◌, ℤ, pos, negsuc, arith}
use Rattle.sources.specs.Edges.{nearest}

pub nearest_below : (n : ℕ) (z : ℤ) → 1 ≤ n → nearest n z < n
nearest_below n (pos k) h = omega arith
nearest_below n (negsuc k) h = omega arith
