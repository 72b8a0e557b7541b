-- The cells of a box by their indices, and the cell on the other side of the middle.
use Rattle.std.proofs.Common.{◌≡◌, ℕ, zero, suc, ◌+◌, ◌-◌, ◌*◌, ◌/◌, ◌%◌, ◌<◌, ◌≤◌, length, get_or, pos, ◌+ℤ◌, ◌-ℤ◌, neg_ℤ, nat_abs, ◌≤ℤ◌, ◌<ℤ◌, sym, refl, ap, ◌∙◌, subst, ap₂, inl, inr, mul_comm, mul-le-mul, arith}
use Rattle.std.proofs.lemmas.Nat.{div_below, mod_below, div-add-mod', div-mul-add, mod-mul-add, mul-add-lt}
use Rattle.std.proofs.lemmas.List.{get_or-map}
use Rattle.std.proofs.lemmas.Int.{ints}
use Rattle.forms.specs.Window.{row_of, column_of, number_at}
use Rattle.forms.specs.Terms.{In}
use Rattle.forms.proofs.Moving.{in_map, map_in}
use Rattle.filters.specs.Boxes.{Sides, Spans, BoxLaw, up_from, box_cell, box}
use Rattle.filters.specs.Basic.{opposite}

pub few_cells : (h w : ℕ) → Sides h w → h * w ≤ 63
few_cells h w s = mul-le-mul s.few_rows s.few_columns

-- the numbers from a on
pub length_up : (a n : ℕ) → length (up_from a n) ≡ n
length_up a zero = refl
length_up a (suc n) = ap suc (length_up (suc a) n)

in_up : (a n i : ℕ) → In i (up_from a n) → (a ≤ i) × (i < a + n)
in_up a zero i m = absurd m
in_up a (suc n) i (inl e) = (omega arith, omega arith)
in_up a (suc n) i (inr m) = let q = in_up (suc a) n i m in (omega arith, omega arith)

up_in : (a n i : ℕ) → a ≤ i → i < a + n → In i (up_from a n)
up_in a zero i l k = absurd (omega arith)
up_in a (suc n) i l k = go (λ q. up_in (suc a) n i q (omega arith)) (i - a) refl
  where
    go : (suc a ≤ i → In i (up_from (suc a) n)) → (d : ℕ) → i - a ≡ d → In i (up_from a (suc n))
    go ih zero e = inl (omega arith)
    go ih (suc d) e = inr (ih (omega arith))

get_d_up : (a n i : ℕ) → i < n → get_or (up_from a n) i 0 ≡ a + i
get_d_up a zero i l = absurd (omega arith)
get_d_up a (suc n) zero l = omega arith
get_d_up a (suc n) (suc i) l = get_d_up (suc a) n i (omega arith) ∙ omega arith

-- the box's cell i, as the code computes it
abbrev pub box_number : ℕ → ℕ → ℕ → ℕ
box_number h w i = (4 - h / 2 + i / w) * 7 + (3 - w / 2 + i % w)

lifted : (a b k : ℕ) → b ≤ k → nat_abs ((pos a -ℤ pos b) +ℤ pos k) ≡ k - b + a
lifted a b k l = let q : (pos a -ℤ pos b) +ℤ pos k ≡ pos (k - b + a) = omega (arith, ints) in ap nat_abs q

module _ (h w : ℕ) (s : Sides h w) where
  pub cell_number : (i : ℕ) → box_cell h w i ≡ box_number h w i
  unfolding number_at
  cell_number i =
      ap₂ (λ (x y : ℕ). x * 7 + y)
      (lifted (i / w) (h / 2) 4 (omega (arith, s.few_rows)))
      (lifted (i % w) (w / 2) 3 (omega (arith, s.few_columns)))

  module _ (i : ℕ) (l : i < h * w) where
    pub row_below : i / w < h
    row_below = div_below i w h s.some_columns l

    pub column_below : i % w < w
    column_below = mod_below i w s.some_columns

    pub number_row : box_number h w i / 7 ≡ 4 - h / 2 + i / w
    number_row = go (i / w) (i % w) row_below column_below
      where
        go : (x y : ℕ) → x < h → y < w → ((4 - h / 2 + x) * 7 + (3 - w / 2 + y)) / 7 ≡ 4 - h / 2 + x
        go x y a b = omega (arith, s.few_rows, s.few_columns)

    pub number_column : box_number h w i % 7 ≡ 3 - w / 2 + i % w
    number_column = go (i / w) (i % w) row_below column_below
      where
        go : (x y : ℕ) → x < h → y < w → ((4 - h / 2 + x) * 7 + (3 - w / 2 + y)) % 7 ≡ 3 - w / 2 + y
        go x y a b = omega (arith, s.few_rows, s.few_columns)

    pub number_below : box_number h w i < 63
    number_below = go (i / w) (i % w) row_below column_below
      where
        go : (x y : ℕ) → x < h → y < w → (4 - h / 2 + x) * 7 + (3 - w / 2 + y) < 63
        go x y a b = omega (arith, s.few_rows, s.few_columns)

-- the cells of the box are those of its indices
pub in_box : (h w c : ℕ) → In c (box h w) → (i : ℕ) × (i < h * w) × (c ≡ box_cell h w i)
unfolding box
in_box h w c m =
    let (i, n, e) = in_map (box_cell h w) (up_from 0 (h * w)) c m in
    (i, (let q = in_up 0 (h * w) i n in omega arith), e)

pub box_in : (h w i : ℕ) → i < h * w → In (box_cell h w i) (box h w)
unfolding box
box_in h w i l = map_in (box_cell h w) (up_from 0 (h * w)) i (up_in 0 (h * w) i (omega arith) (omega arith))

pub box_at : (h w i : ℕ) → i < h * w → get_or (box h w) i 0 ≡ box_cell h w i
unfolding box
box_at h w i l =
    get_or-map (box_cell h w) (up_from 0 (h * w)) i 0 0 (omega (arith, length_up 0 (h * w)))
    ∙ ap (box_cell h w) (get_d_up 0 (h * w) i l ∙ omega arith)

-- the other side of the middle
turned : (x k : ℕ) → x ≤ k + k → nat_abs (neg_ℤ (pos x -ℤ pos k) +ℤ pos k) ≡ k + k - x
turned x k l = let q : neg_ℤ (pos x -ℤ pos k) +ℤ pos k ≡ pos (k + k - x) = omega (arith, ints) in ap nat_abs q

pub opposite_is : (c : ℕ) → c < 63 → opposite c ≡ 62 - c
unfolding number_at
opposite_is c l =
    let a : c / 7 ≤ 4 + 4 = omega arith in
    let b : c % 7 ≤ 3 + 3 = omega arith in
    ap₂ (λ (x y : ℕ). x * 7 + y) (turned (c / 7) 4 a) (turned (c % 7) 3 b) ∙ omega arith

-- no two indices have one cell
pub cell_apart : (h w : ℕ) → Sides h w → (i j : ℕ) → i < h * w → j < h * w → box_cell h w i ≡ box_cell h w j → i ≡ j
cell_apart h w s i j l m e =
    let d : box_number h w i ≡ box_number h w j = sym (cell_number h w s i) ∙ e ∙ cell_number h w s j in
    let r : 4 - h / 2 + i / w ≡ 4 - h / 2 + j / w = sym (number_row h w s i l) ∙ ap (λ (n : ℕ). n / 7) d ∙ number_row h w s j m in
    let q : 3 - w / 2 + i % w ≡ 3 - w / 2 + j % w = sym (number_column h w s i l) ∙ ap (λ (n : ℕ). n % 7) d ∙ number_column h w s j m in
    let a : i / w ≡ j / w = omega arith in
    let b : i % w ≡ j % w = omega arith in
    sym (div-add-mod' i w) ∙ ap₂ (λ (x y : ℕ). x * w + y) a b ∙ div-add-mod' j w

-- the rows and columns of the box
spans : (n x side k : ℕ) → side / 2 ≤ k → n ≡ k - side / 2 + x → x < side → Spans side (pos n -ℤ pos k)
spans n x side k a e l = go (side / 2) side n a e (omega arith)
  where
    go : (m s n : ℕ) → m ≤ k → n ≡ k - m + x → x < s → (neg_ℤ (pos m) ≤ℤ (pos n -ℤ pos k)) × ((pos n -ℤ pos k) <ℤ (pos s -ℤ pos m))
    go m s n a e l = (omega (arith, ints), omega (arith, ints))

spanned : (n side k : ℕ) → side / 2 ≤ k → Spans side (pos n -ℤ pos k) → (k ≤ n + side / 2) × (n + side / 2 - k < side)
spanned n side k a p = go (side / 2) side a p.0 p.1
  where
    go : (m s : ℕ) → m ≤ k → neg_ℤ (pos m) ≤ℤ (pos n -ℤ pos k) → (pos n -ℤ pos k) <ℤ (pos s -ℤ pos m) → (k ≤ n + m) × (n + m - k < s)
    go m s a p q = let l : k ≤ n + m = omega (arith, ints) in (l, omega (arith, ints))

pub box_law : (h w : ℕ) → Sides h w → BoxLaw h w
box_law h w s c l = (to, from)
  where
    to : In c (box h w) → Spans h (row_of c) × Spans w (column_of c)
    to m =
        let (i, k, e) = in_box h w c m in
        let d : c ≡ box_number h w i = e ∙ cell_number h w s i in (
          spans (c / 7) (i / w) h 4 (omega (arith, s.few_rows)) (ap (λ (n : ℕ). n / 7) d ∙ number_row h w s i k) (row_below h w s i k),
          spans (c % 7) (i % w) w 3 (omega (arith, s.few_columns)) (ap (λ (n : ℕ). n % 7) d ∙ number_column h w s i k) (column_below h w s i k),
        )

    from : Spans h (row_of c) × Spans w (column_of c) → In c (box h w)
    from p =
        let r = spanned (c / 7) h 4 (omega (arith, s.few_rows)) p.0 in
        let q = spanned (c % 7) w 3 (omega (arith, s.few_columns)) p.1 in
        let x : ℕ = c / 7 + h / 2 - 4 in
        let y : ℕ = c % 7 + w / 2 - 3 in
        let k : x * w + y < h * w = omega (arith, mul-add-lt x w y h r.1 q.1, mul_comm w h) in
        let e : box_cell h w (x * w + y) ≡ c =
        cell_number h w s (x * w + y)
        ∙ ap₂ (λ (a b : ℕ). (4 - h / 2 + a) * 7 + (3 - w / 2 + b)) (div-mul-add x w y q.1) (mod-mul-add x w y q.1)
        ∙ omega (arith, s.few_rows, s.few_columns, r.0, q.0) in
        subst (λ (n : ℕ). In n (box h w)) e (box_in h w (x * w + y) k)
