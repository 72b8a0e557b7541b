-- The k-th greatest of a list of elements.
use Rattle.std.specs.Prelude.{ℕ, zero, suc, Bool, cond, List, [], ◌∷◌, slice_index_or}

-- x put among elements in falling order
abbrev pub sink : {E : Type 0} → (E → E → Bool) → E → List E → List E
sink most x [] = x ∷ []
sink most x (y ∷ ys) = cond (most y x) (x ∷ y ∷ ys) (y ∷ sink most x ys)

abbrev pub falling : {E : Type 0} → (E → E → Bool) → List E → List E
falling most [] = []
falling most (x ∷ xs) = sink most x (falling most xs)

-- k counts from 1; d stands for what a list of fewer than k lacks
abbrev pub kth : {E : Type 0} → (E → E → Bool) → E → ℕ → List E → E
kth most d zero xs = d
kth most d (suc k) xs = slice_index_or (falling most xs) k d
