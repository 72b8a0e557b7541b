-- When an element is at most a sample over a box.
use Rattle.std.proofs.Common.{ℕ, ◌<◌, Bool, List, [], ◌∷◌, length, ℤ, refl, inl, mul-le-mul, arith}
use Rattle.forms.specs.Terms.{In}
use Rattle.values.specs.Value.{Ordered, least_of, greatest_of, over}
use Rattle.values.specs.Laws.{seen}
use Rattle.values.proofs.Levels.{Le, least_of_to, least_of_from, greatest_of_to, greatest_of_from}
use Rattle.filters.specs.Boxes.{Sides, box}
use Rattle.filters.proofs.Truths.{box_length}
use Rattle.samples.specs.Samples.{against, eroded, dilated}

some_in : (cs : List ℕ) → 0 < length cs → (c : ℕ) × In c cs
some_in [] l = absurd (omega arith)
some_in (c ∷ cs) l = (c, inl refl)

-- a cell of a box
pub some_cell : (h w : ℕ) → Sides h w → (c : ℕ) × In c (box h w)
some_cell h w s = some_in (box h w) (omega (arith, box_length h w, mul-le-mul s.some_rows s.some_columns))

module _ {E : Type 0} (most : E → E → Bool) (o : Ordered most) (d : E) (y : ℕ → E) (u : E) where
  least_to : (cs : List ℕ) → Le most u (over d (least_of most y) cs) → (c : ℕ) → In c cs → Le most u (y c)
  least_to [] h c m = absurd m
  least_to (k ∷ cs) h c m = least_of_to most o y u k cs h c m

  least_from : (cs : List ℕ) (k : ℕ) → In k cs → ((c : ℕ) → In c cs → Le most u (y c)) → Le most u (over d (least_of most y) cs)
  least_from [] k m h = absurd m
  least_from (j ∷ cs) k m h = least_of_from most o y u j cs h

  greatest_to : (cs : List ℕ) (k : ℕ) → In k cs → Le most u (over d (greatest_of most y) cs) → (c : ℕ) × In c cs × Le most u (y c)
  greatest_to [] k m h = absurd m
  greatest_to (j ∷ cs) k m h = greatest_of_to most o y u j cs h

  greatest_from : (cs : List ℕ) (c : ℕ) → In c cs → Le most u (y c) → Le most u (over d (greatest_of most y) cs)
  greatest_from [] c m h = absurd m
  greatest_from (j ∷ cs) c m h = greatest_of_from most o y u j cs c m h

module _ {E : Type 0} (most : E → E → Bool) (o : Ordered most) (h w : ℕ) (s : Sides h w) (x : ℤ → ℤ → E) (r c : ℤ) (u : E) where
  pub eroded_to : Le most u (eroded most h w x r c) → (k : ℕ) → In k (box h w) → Le most u (seen x r c k)
  unfolding eroded
  eroded_to l = least_to most o (x r c) (seen x r c) u (box h w) l

  pub eroded_from : ((k : ℕ) → In k (box h w) → Le most u (seen x r c k)) → Le most u (eroded most h w x r c)
  unfolding eroded
  eroded_from l = let (k, m) = some_cell h w s in least_from most o (x r c) (seen x r c) u (box h w) k m l

  pub dilated_to : Le most u (dilated most h w x r c) → (k : ℕ) × In k (box h w) × Le most u (against x r c k)
  unfolding dilated
  dilated_to l = let (k, m) = some_cell h w s in greatest_to most o (x r c) (against x r c) u (box h w) k m l

  pub dilated_from : (k : ℕ) → In k (box h w) → Le most u (against x r c k) → Le most u (dilated most h w x r c)
  unfolding dilated
  dilated_from k m l = greatest_from most o (x r c) (against x r c) u (box h w) k m l
