-- An element is at most the k-th greatest of a list exactly when it is at most k or more of the list.
use Rattle.std.proofs.Common.{◌≡◌, ℕ, zero, suc, ◌+◌, ◌<◌, ◌≤◌, Bool, true, false, cond, List, [], ◌∷◌, ◌++◌, map, length, get_or, replicate, sym, refl, ap, ◌∙◌, subst, ap₂, arith}
use Rattle.std.proofs.lemmas.List.{length-append, length-map, length-replicate}
use Rattle.values.specs.Value.{Ordered}
use Rattle.values.proofs.Levels.{Le}
use Rattle.filters.specs.Basic.{Weighed, once, total}
use Rattle.filters.specs.Truths.{counted}
use Rattle.samples.specs.Ranks.{sink, falling, kth}
use Rattle.samples.specs.Samples.{repeated}

-- how many of a list a test picks
abbrev count : {E : Type 0} → (E → Bool) → List E → ℕ
count q [] = 0
count q (x ∷ xs) = cond (q x) (1 + count q xs) (count q xs)

count_sink : {E : Type 0} (most : E → E → Bool) (q : E → Bool) (x : E) (ys : List E) → count q (sink most x ys) ≡ count q (x ∷ ys)
count_sink most q x [] = refl
count_sink most q x (y ∷ ys) = go (count_sink most q x ys) (most y x)
  where
    swap : (a b : Bool) (n : ℕ) → cond b (1 + cond a (1 + n) n) (cond a (1 + n) n) ≡ cond a (1 + cond b (1 + n) n) (cond b (1 + n) n)
    swap true true n = refl
    swap true false n = refl
    swap false true n = refl
    swap false false n = refl

    go : count q (sink most x ys) ≡ count q (x ∷ ys) → (b : Bool) → count q (cond b (x ∷ y ∷ ys) (y ∷ sink most x ys)) ≡ count q (x ∷ y ∷ ys)
    go ih true = refl
    go ih false = ap (λ (n : ℕ). cond (q y) (1 + n) n) ih ∙ swap (q x) (q y) (count q ys)

count_falling : {E : Type 0} (most : E → E → Bool) (q : E → Bool) (xs : List E) → count q (falling most xs) ≡ count q xs
count_falling most q [] = refl
count_falling most q (x ∷ xs) =
    count_sink most q x (falling most xs) ∙ ap (λ (n : ℕ). cond (q x) (1 + n) n) (count_falling most q xs)

length_sink : {E : Type 0} (most : E → E → Bool) (x : E) (ys : List E) → length (sink most x ys) ≡ suc (length ys)
length_sink most x [] = refl
length_sink most x (y ∷ ys) = go (length_sink most x ys) (most y x)
  where
    go : length (sink most x ys) ≡ suc (length ys) → (b : Bool) → length (cond b (x ∷ y ∷ ys) (y ∷ sink most x ys)) ≡ suc (suc (length ys))
    go ih true = refl
    go ih false = ap suc ih

length_falling : {E : Type 0} (most : E → E → Bool) (xs : List E) → length (falling most xs) ≡ length xs
length_falling most [] = refl
length_falling most (x ∷ xs) = length_sink most x (falling most xs) ∙ ap suc (length_falling most xs)

-- each of a list is at most x
abbrev Under : {E : Type 0} → (E → E → Bool) → E → List E → Type 0
Under most x [] = Unit {0}
Under most x (y ∷ ys) = Le most y x × Under most x ys

abbrev Falls : {E : Type 0} → (E → E → Bool) → List E → Type 0
Falls most [] = Unit {0}
Falls most (x ∷ xs) = Under most x xs × Falls most xs

module _ {E : Type 0} (most : E → E → Bool) (o : Ordered most) where
  under_sink : (z x : E) (ys : List E) → Le most x z → Under most z ys → Under most z (sink most x ys)
  under_sink z x [] h u = (h, tt)
  under_sink z x (y ∷ ys) h u = go (under_sink z x ys h u.1) (most y x)
    where
      go : Under most z (sink most x ys) → (b : Bool) → Under most z (cond b (x ∷ y ∷ ys) (y ∷ sink most x ys))
      go ih true = (h, u)
      go ih false = (u.0, ih)

  under_more : (z x : E) (ys : List E) → Le most x z → Under most x ys → Under most z ys
  under_more z x [] h u = tt
  under_more z x (y ∷ ys) h u = (o.transitive y x z u.0 h, under_more z x ys h u.1)

  falls_sink : (x : E) (ys : List E) → Falls most ys → Falls most (sink most x ys)
  falls_sink x [] f = (tt, tt)
  falls_sink x (y ∷ ys) f = go (falls_sink x ys f.1) (most y x) refl
    where
      go : Falls most (sink most x ys) → (b : Bool) → most y x ≡ b → Falls most (cond b (x ∷ y ∷ ys) (y ∷ sink most x ys))
      go ih true e = ((e, under_more x y ys e f.0), f)
      go ih false e = (under_sink y x ys (o.total y x e) f.0, ih)

  falls : (xs : List E) → Falls most (falling most xs)
  falls [] = tt
  falls (x ∷ xs) = falls_sink x (falling most xs) (falls xs)

  module _ (u : E) where
    -- u is at most the first of a falling list that has an element so
    first_over : (x : E) (ys : List E) → Under most x ys → 0 < count (most u) ys → Le most u x
    first_over x [] w l = absurd (omega arith)
    first_over x (y ∷ ys) w l = go (first_over x ys w.1) (most u y) refl l
      where
        go : (0 < count (most u) ys → Le most u x) → (b : Bool) → most u y ≡ b → 0 < cond b (1 + count (most u) ys) (count (most u) ys) → Le most u x
        go ih true e l = o.transitive u y x e w.0
        go ih false e l = ih l

    place_to : (d : E) (ys : List E) (k : ℕ) → Falls most ys → k < length ys → Le most u (get_or ys k d) → k < count (most u) ys
    place_to d [] k f l h = absurd (omega arith)
    place_to d (y ∷ ys) zero f l h = subst (λ (b : Bool). 0 < cond b (1 + count (most u) ys) (count (most u) ys)) (sym h) (omega arith)
    place_to d (y ∷ ys) (suc k) f l h =
        let n : k < count (most u) ys = place_to d ys k f.1 (omega arith) h in
        subst (λ (b : Bool). suc k < cond b (1 + count (most u) ys) (count (most u) ys)) (sym (first_over y ys f.0 (omega arith))) (omega arith)

    place_from : (d : E) (ys : List E) (k : ℕ) → Falls most ys → k < length ys → k < count (most u) ys → Le most u (get_or ys k d)
    place_from d [] k f l n = absurd (omega arith)
    place_from d (y ∷ ys) zero f l n = go (most u y) refl n
      where
        go : (b : Bool) → most u y ≡ b → 0 < cond b (1 + count (most u) ys) (count (most u) ys) → Le most u y
        go true e n = e
        go false e n = first_over y ys f.0 n
    place_from d (y ∷ ys) (suc k) f l n = go (place_from d ys k f.1 (omega arith)) (most u y) n
      where
        go : (k < count (most u) ys → Le most u (get_or ys k d)) → (b : Bool) → suc k < cond b (1 + count (most u) ys) (count (most u) ys) → Le most u (get_or ys k d)
        go ih true n = ih (omega arith)
        go ih false n = ih (omega arith)

    rank_to : (d : E) (k : ℕ) (xs : List E) → 1 ≤ k → k ≤ length xs → Le most u (kth most d k xs) → k ≤ count (most u) xs
    rank_to d zero xs p l h = omega arith
    rank_to d (suc k) xs p l h =
        omega (arith, count_falling most (most u) xs, place_to d (falling most xs) k (falls xs) (omega (arith, length_falling most xs)) h)

    rank_from : (d : E) (k : ℕ) (xs : List E) → 1 ≤ k → k ≤ length xs → k ≤ count (most u) xs → Le most u (kth most d k xs)
    rank_from d zero xs p l n = absurd (omega arith)
    rank_from d (suc k) xs p l n =
        place_from d (falling most xs) k (falls xs) (omega (arith, length_falling most xs)) (omega (arith, count_falling most (most u) xs))

-- ---- the elements of listed cells, each once or as often as it counts
module _ {E : Type 0} (q : E → Bool) (y : ℕ → E) where
  count_repeated : (xs : List Weighed) → count q (map y (repeated xs)) ≡ counted (λ c. q (y c)) xs
  count_repeated [] = refl
  count_repeated (x ∷ xs) = go x.times ∙ ap (λ (n : ℕ). cond (q (y x.cell)) (x.times + n) n) (count_repeated xs)
    where
      one : (b : Bool) (m n : ℕ) → cond b (1 + cond b (m + n) n) (cond b (m + n) n) ≡ cond b (suc m + n) n
      one true m n = omega arith
      one false m n = refl

      none : (b : Bool) (n : ℕ) → n ≡ cond b (0 + n) n
      none true n = omega arith
      none false n = refl

      go : (m : ℕ) → count q (map y (replicate m x.cell ++ repeated xs))
          ≡ cond (q (y x.cell)) (m + count q (map y (repeated xs))) (count q (map y (repeated xs)))
      go zero = none (q (y x.cell)) (count q (map y (repeated xs)))
      go (suc m) = ap (λ (n : ℕ). cond (q (y x.cell)) (1 + n) n) (go m) ∙ one (q (y x.cell)) m (count q (map y (repeated xs)))

length_repeated : (xs : List Weighed) → length (repeated xs) ≡ total xs
length_repeated [] = refl
length_repeated (x ∷ xs) =
    length-append (replicate x.times x.cell) (repeated xs)
    ∙ ap₂ (λ (m n : ℕ). m + n) (length-replicate x.times x.cell) (length_repeated xs)

module _ {E : Type 0} (most : E → E → Bool) (o : Ordered most) (u d : E) (y : ℕ → E) (k : ℕ) (xs : List Weighed) (some : 1 ≤ k) (few : k ≤ total xs) where
  some_left : k ≤ length (map y (repeated xs))
  some_left = omega (arith, length-map (repeated xs) y, length_repeated xs)

  pub kth_to : Le most u (kth most d k (map y (repeated xs))) → k ≤ counted (λ c. most u (y c)) xs
  kth_to h = omega (arith, count_repeated (most u) y xs, rank_to most o u d k (map y (repeated xs)) some some_left h)

  pub kth_from : k ≤ counted (λ c. most u (y c)) xs → Le most u (kth most d k (map y (repeated xs)))
  kth_from l = rank_from most o u d k (map y (repeated xs)) some some_left (omega (arith, count_repeated (most u) y xs))

-- each cell once
pub repeated_once : (cs : List ℕ) → repeated (once cs) ≡ cs
repeated_once [] = refl
repeated_once (c ∷ cs) = ap (λ (l : List ℕ). c ∷ l) (repeated_once cs)

pub total_once : (cs : List ℕ) → total (once cs) ≡ length cs
total_once [] = refl
total_once (c ∷ cs) = ap (λ (n : ℕ). 1 + n) (total_once cs) ∙ omega arith
