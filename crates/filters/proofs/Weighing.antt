-- Lists of cells with their times.
use Rattle.std.proofs.Common.{◌≡◌, ℕ, zero, suc, ◌+◌, ◌*◌, ◌<◌, ◌≤◌, true, false, not, eqb, List, [], ◌∷◌, ◌++◌, map, length, Ok, Err, Result, append_assoc, sym, refl, ap, ◌∙◌, arith}
use mathlib.Core.Logic.{∥∥₁_elim}
use mathlib.Core.HLevel.{×_prop}
use native.Mathlib.Bridge.{le_prop}
use Rattle.std.proofs.lemmas.List.{length-append, length-take-le}
use Rattle.std.proofs.lemmas.List.Recursion.{is_sum_by}
use Rattle.std.proofs.lemmas.Bool.{and_parts, and_from, both_ways, ne_eqb, eqb-false, not-true}
use Rattle.std.specs.List.{sum_by}
use Rattle.filters.specs.declared.weights.Weights.{Weights}
use Rattle.filters.specs.declared.weights.adding.WeightsFault.{WeightsFault}
use Rattle.filters.specs.declared.weights.adding.WeightsFault.TheVariants.{Full, Repeated}
use Rattle.filters.specs.Boxes.{Sides, up_from, box_cell, box}
use Rattle.filters.specs.Basic.{Weighed, most_cells, total, once, lacks, different}
use Rattle.filters.specs.Truths.{Cells}
use Rattle.filters.specs.Weights.{listed, Added}
use Rattle.filters.proofs.Spans.{cell_apart}
use Rattle.filters.proofs.Truths.{box_length}

-- every cell is one of the window
cells_prop : (xs : List Weighed) → IsProp (Cells xs)
cells_prop [] = λ x y. refl
cells_prop (x ∷ xs) = ×_prop le_prop (cells_prop xs)

pub cells_of : (w : Weights) → Cells (listed w)
cells_of w = ∥∥₁_elim w.cells (cells_prop (listed w)) (λ x. x)

pub cells_push : (xs : List Weighed) (y : Weighed) → Cells xs → y.cell < 63 → Cells (xs ++ y ∷ [])
cells_push [] y w l = (l, tt)
cells_push (x ∷ xs) y w l = (w.0, cells_push xs y w.1 l)

pub listed_few : (w : Weights) → length (listed w) ≤ most_cells
listed_few w = omega (arith, length-take-le w.table.count w.table.items (omega (arith, w.table.size, w.table.room)), w.table.room)

-- different cells
eqb_sym : (a b : ℕ) → eqb a b ≡ false → eqb b a ≡ false
eqb_sym a b e = ne_eqb b a (λ q. eqb-false a b e (sym q))

lacks_push : (c : ℕ) (xs : List Weighed) (y : Weighed) → lacks c xs ≡ true → eqb c y.cell ≡ false → lacks c (xs ++ y ∷ []) ≡ true
lacks_push c [] y h e = and_from (not (eqb c y.cell)) true (ap not e) refl
lacks_push c (x ∷ xs) y h e =
    let p = and_parts (not (eqb c x.cell)) (lacks c xs) h in
    and_from (not (eqb c x.cell)) (lacks c (xs ++ y ∷ [])) p.0 (lacks_push c xs y p.1 e)

pub different_push : (xs : List Weighed) (y : Weighed) → different xs ≡ true → lacks y.cell xs ≡ true → different (xs ++ y ∷ []) ≡ true
different_push [] y d h = refl
different_push (x ∷ xs) y d h =
    let p = and_parts (lacks x.cell xs) (different xs) d in
    let q = and_parts (not (eqb y.cell x.cell)) (lacks y.cell xs) h in
    and_from (lacks x.cell (xs ++ y ∷ [])) (different (xs ++ y ∷ []))
    (lacks_push x.cell xs y p.0 (eqb_sym y.cell x.cell (not-true (eqb y.cell x.cell) q.0)))
    (different_push xs y p.1 q.1)

-- the first cells lack a later one
pub lacks_later : (xs : List Weighed) (y : Weighed) (ys : List Weighed) → different (xs ++ y ∷ ys) ≡ true → lacks y.cell xs ≡ true
lacks_later [] y ys d = refl
lacks_later (x ∷ xs) y ys d =
    let p = and_parts (lacks x.cell (xs ++ y ∷ ys)) (different (xs ++ y ∷ ys)) d in
    and_from (not (eqb y.cell x.cell)) (lacks y.cell xs) (ap not (eqb_sym x.cell y.cell (apart xs p.0))) (lacks_later xs y ys p.1)
  where
    apart : (zs : List Weighed) → lacks x.cell (zs ++ y ∷ ys) ≡ true → eqb x.cell y.cell ≡ false
    apart [] h = not-true (eqb x.cell y.cell) (and_parts (not (eqb x.cell y.cell)) (lacks x.cell ys) h).0
    apart (z ∷ zs) h = apart zs (and_parts (not (eqb x.cell z.cell)) (lacks x.cell (zs ++ y ∷ ys)) h).1

-- the sum of the times
pub total_sum : (xs : List Weighed) → total xs ≡ sum_by (λ x. x.times) xs
total_sum = is_sum_by total (λ x. x.times) refl (λ x xs. refl)

-- each cell once
pub once_total : (cs : List ℕ) → total (once cs) ≡ length cs
once_total [] = refl
once_total (c ∷ cs) = omega (arith, once_total cs)

once_length : (cs : List ℕ) → length (once cs) ≡ length cs
once_length [] = refl
once_length (c ∷ cs) = ap suc (once_length cs)

-- the cells of a box are different
module _ (h w : ℕ) (s : Sides h w) where
  lacks_up : (j a n : ℕ) → j < a → a + n ≤ h * w → lacks (box_cell h w j) (once (map (box_cell h w) (up_from a n))) ≡ true
  lacks_up j a zero l m = refl
  lacks_up j a (suc n) l m =
      and_from (not (eqb (box_cell h w j) (box_cell h w a))) (lacks (box_cell h w j) (once (map (box_cell h w) (up_from (suc a) n))))
      (ap not (ne_eqb (box_cell h w j) (box_cell h w a) (λ e. omega (arith, cell_apart h w s j a (omega arith) (omega arith) e))))
      (lacks_up j (suc a) n (omega arith) (omega arith))

  different_up : (a n : ℕ) → a + n ≤ h * w → different (once (map (box_cell h w) (up_from a n))) ≡ true
  different_up a zero m = refl
  different_up a (suc n) m =
      and_from (lacks (box_cell h w a) (once (map (box_cell h w) (up_from (suc a) n)))) (different (once (map (box_cell h w) (up_from (suc a) n))))
      (lacks_up a (suc a) n (omega arith) (omega arith)) (different_up (suc a) n (omega arith))

  pub box_different : different (once (box h w)) ≡ true
  unfolding box
  box_different = different_up 0 (h * w) (omega arith)

-- the cells of a box one after another, where they are few: xs stand, and the cell c and then cs are to come
module _ (h w : ℕ) (s : Sides h w) (few : h * w ≤ most_cells) (xs : List Weighed) (c : ℕ) (cs : List ℕ) (e : xs ++ once (c ∷ cs) ≡ once (box h w)) where
  fresh : lacks c xs ≡ true
  fresh = lacks_later xs (record { cell = c; times = 1 }) (once cs) (ap different e ∙ box_different h w s)

  room : length xs < most_cells
  room = omega (arith, length-append xs (once (c ∷ cs)), ap length e, once_length (box h w), box_length h w)

  pub once_more : (r : Result (Unit {0}) WeightsFault) (ys : List Weighed) → Added r c 1 xs ys → ys ++ once cs ≡ once (box h w)
  once_more (Ok _) ys a = ap (λ (zs : List Weighed). zs ++ once cs) a.2 ∙ append_assoc xs (record { cell = c; times = 1 } ∷ []) (once cs) ∙ e
  once_more (Err Full) ys a = absurd (omega (arith, room))
  once_more (Err Repeated) ys a = absurd (both_ways (lacks c xs) a.1 fresh)
