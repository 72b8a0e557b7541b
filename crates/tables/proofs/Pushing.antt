-- A value that was put behind others where there was room.
use Rattle.std.proofs.Common.{◌≡◌, ℕ, ◌<◌, List, [], ◌∷◌, ◌++◌, length, Ok, Err, Result, OnOk, OnErr, arith}
use Rattle.tables.specs.declared.full.Full.{Full}

pub pushed : {T : Type 0} (n : ℕ) (r : Result (Unit {0}) Full) (xs ys : List T) (v : T) → OnOk r (ys ≡ xs ++ v ∷ []) → OnErr r (length xs ≡ n) → length xs < n
    → ys ≡ xs ++ v ∷ []
pushed n (Ok _) xs ys v a b l = a
pushed n (Err _) xs ys v a b l = absurd (omega arith)
