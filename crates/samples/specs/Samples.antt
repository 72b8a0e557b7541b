-- The sample of an expression at a place of a plane of elements, by least, greatest and k-th greatest alone.
use Rattle.std.specs.Prelude.{ℕ, ◌*◌, Bool, List, [], ◌∷◌, ◌++◌, map, replicate, ℤ, ◌-ℤ◌}
use Rattle.elements.specs.Order.{lesser, greater}
use Rattle.forms.specs.Window.{row_of, column_of}
use Rattle.values.specs.Value.{least_of, greatest_of, over as over_list}
use Rattle.values.specs.Laws.{seen}
use Rattle.filters.specs.Boxes.{box}
use Rattle.filters.specs.Basic.{Weighed, middle}
use Rattle.grammar.specs.declared.words.Joint.{Joint}
use Rattle.grammar.specs.declared.words.Joint.TheVariants.{Max, Min}
use Rattle.grammar.specs.declared.words.Shape.{Shape}
use Rattle.grammar.specs.declared.words.Shape.TheVariants.{Erode, Dilate, Open, Close, Med}
use Rattle.grammar.specs.Expr.{Expr, cell, join, after, over, rank, weight, Args, last, next}
use Rattle.samples.specs.Ranks.{kth}

-- the element at the place minus the cell k
abbrev pub against : {E : Type 0} → (ℤ → ℤ → E) → ℤ → ℤ → ℕ → E
against x r c k = x (r -ℤ row_of k) (c -ℤ column_of k)

-- each cell as often as it counts
abbrev pub repeated : List Weighed → List ℕ
repeated [] = []
repeated (x ∷ xs) = replicate x.times x.cell ++ repeated xs

module _ {E : Type 0} (most : E → E → Bool) where
  -- the least element at the place plus a cell of the box
  unfoldable pub eroded : ℕ → ℕ → (ℤ → ℤ → E) → ℤ → ℤ → E
  eroded h w x r c = over_list (x r c) (least_of most (seen x r c)) (box h w)

  -- the greatest element at the place minus a cell of the box
  unfoldable pub dilated : ℕ → ℕ → (ℤ → ℤ → E) → ℤ → ℤ → E
  dilated h w x r c = over_list (x r c) (greatest_of most (against x r c)) (box h w)

  abbrev pub opened : ℕ → ℕ → (ℤ → ℤ → E) → ℤ → ℤ → E
  opened h w x = dilated h w (eroded h w x)

  abbrev pub closed : ℕ → ℕ → (ℤ → ℤ → E) → ℤ → ℤ → E
  closed h w x = eroded h w (dilated h w x)

  -- the k-th greatest element at the place plus a listed cell
  abbrev pub ranked : ℕ → List ℕ → (ℤ → ℤ → E) → ℤ → ℤ → E
  ranked k cs x r c = kth most (x r c) k (map (seen x r c) cs)

  abbrev pub shaped : Shape → ℕ → ℕ → (ℤ → ℤ → E) → ℤ → ℤ → E
  shaped Erode h w x = eroded h w x
  shaped Dilate h w x = dilated h w x
  shaped Open h w x = opened h w x
  shaped Close h w x = closed h w x
  shaped Med h w x = ranked (middle (h * w)) (box h w) x

  abbrev pub joined : Joint → E → E → E
  joined Max a b = greater most a b
  joined Min a b = lesser most a b

  unfoldable mutual
    pub sample : Expr → (ℤ → ℤ → E) → ℤ → ℤ → E
    sample (cell n) x r c = seen x r c n
    sample (join j at e es) x r c = sample_args es j (sample e x r c) x r c
    sample (after at e f) x r c = sample e (λ p q. sample f x p q) r c
    sample (over s at h w) x r c = shaped s h w x r c
    sample (rank at h w k) x r c = ranked k (box h w) x r c
    sample (weight at k xs) x r c = ranked k (repeated xs) x r c

    pub sample_args : Args → Joint → E → (ℤ → ℤ → E) → ℤ → ℤ → E
    sample_args (last e) j v x r c = joined j v (sample e x r c)
    sample_args (next e es) j v x r c = sample_args es j (joined j v (sample e x r c)) x r c
