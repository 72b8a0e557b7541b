-- A cell plus a cell, by rows and by columns.
use Rattle.std.proofs.Common.{◌≡◌, ℕ, ◌+◌, ◌-◌, ◌*◌, ◌/◌, ◌%◌, ◌<◌, ◌≤◌, true, T, ℤ, pos, negsuc, ◌+ℤ◌, ◌-ℤ◌, nat_abs, ◌≤ℤ◌, sym, ap, ◌∙◌, subst, ap₂, arith}
use lib.Signed.{le_z, le_z_yes}
use Rattle.std.proofs.lemmas.Int.{ints}
use Rattle.std.proofs.lemmas.Bool.{and_parts}
use Rattle.forms.specs.Window.{row_of, column_of, in_window, number_at, stays, added}

at_most : (a b : ℤ) → le_z a b ≡ true → a ≤ℤ b
at_most a b e = le_z_yes (subst T (sym e) tt)

-- what it is to stay in the window
pub record Stays (a b : ℕ) : Type 0 where
  pub up : 4 ≤ a / 7 + b / 7
  pub down : a / 7 + b / 7 ≤ 12
  pub left : 3 ≤ a % 7 + b % 7
  pub right : a % 7 + b % 7 ≤ 9

pub stays_to : (a b : ℕ) → stays a b ≡ true → Stays a b
unfolding stays in_window
stays_to a b e =
    let p = and_parts _ _ e in
    let r = and_parts _ _ p.0 in
    let q = and_parts _ _ p.1 in
    record {
      up = row_up (a / 7) (b / 7) r.0;
      down = row_down (a / 7) (b / 7) r.1;
      left = column_left (a % 7) (b % 7) q.0;
      right = column_right (a % 7) (b % 7) q.1;
    }
  where
    row_up : (x y : ℕ) → le_z (negsuc 3) ((pos x -ℤ pos 4) +ℤ (pos y -ℤ pos 4)) ≡ true → 4 ≤ x + y
    row_up x y h = let k = at_most (negsuc 3) ((pos x -ℤ pos 4) +ℤ (pos y -ℤ pos 4)) h in omega (arith, ints)

    row_down : (x y : ℕ) → le_z ((pos x -ℤ pos 4) +ℤ (pos y -ℤ pos 4)) (pos 4) ≡ true → x + y ≤ 12
    row_down x y h = let k = at_most ((pos x -ℤ pos 4) +ℤ (pos y -ℤ pos 4)) (pos 4) h in omega (arith, ints)

    column_left : (x y : ℕ) → le_z (negsuc 2) ((pos x -ℤ pos 3) +ℤ (pos y -ℤ pos 3)) ≡ true → 3 ≤ x + y
    column_left x y h = let k = at_most (negsuc 2) ((pos x -ℤ pos 3) +ℤ (pos y -ℤ pos 3)) h in omega (arith, ints)

    column_right : (x y : ℕ) → le_z ((pos x -ℤ pos 3) +ℤ (pos y -ℤ pos 3)) (pos 3) ≡ true → x + y ≤ 9
    column_right x y h = let k = at_most ((pos x -ℤ pos 3) +ℤ (pos y -ℤ pos 3)) (pos 3) h in omega (arith, ints)

-- in numbers, a plus b
pub stays_low : (a b : ℕ) → Stays a b → 31 ≤ a + b
stays_low a b s = omega (arith, s.up, s.left)

pub stays_high : (a b : ℕ) → Stays a b → a + b < 94
stays_high a b s = omega (arith, s.down, s.right)

pub added_row : (a b : ℕ) → Stays a b → row_of (a + b - 31) ≡ row_of a +ℤ row_of b
added_row a b s =
    let e : (a + b - 31) / 7 + 4 ≡ a / 7 + b / 7 = omega (arith, s.up, s.down, s.left, s.right) in
    go ((a + b - 31) / 7) (a / 7) (b / 7) e
  where
    go : (m x y : ℕ) → m + 4 ≡ x + y → pos m -ℤ pos 4 ≡ (pos x -ℤ pos 4) +ℤ (pos y -ℤ pos 4)
    go m x y e = omega (arith, ints)

pub added_column : (a b : ℕ) → Stays a b → column_of (a + b - 31) ≡ column_of a +ℤ column_of b
added_column a b s =
    let e : (a + b - 31) % 7 + 3 ≡ a % 7 + b % 7 = omega (arith, s.up, s.down, s.left, s.right) in
    go ((a + b - 31) % 7) (a % 7) (b % 7) e
  where
    go : (m x y : ℕ) → m + 3 ≡ x + y → pos m -ℤ pos 3 ≡ (pos x -ℤ pos 3) +ℤ (pos y -ℤ pos 3)
    go m x y e = omega (arith, ints)

-- a cell's number is that of its row and its column
pub number_at_lem : (n : ℕ) → number_at (row_of n) (column_of n) ≡ n
unfolding number_at
number_at_lem n =
    let e : nat_abs (row_of n +ℤ pos 4) ≡ n / 7 = row (n / 7) in
    let d : nat_abs (column_of n +ℤ pos 3) ≡ n % 7 = column (n % 7) in
    ap₂ (λ (x y : ℕ). x * 7 + y) e d ∙ omega arith
  where
    row : (x : ℕ) → nat_abs ((pos x -ℤ pos 4) +ℤ pos 4) ≡ x
    row x = let q : (pos x -ℤ pos 4) +ℤ pos 4 ≡ pos x = omega (arith, ints) in ap nat_abs q

    column : (x : ℕ) → nat_abs ((pos x -ℤ pos 3) +ℤ pos 3) ≡ x
    column x = let q : (pos x -ℤ pos 3) +ℤ pos 3 ≡ pos x = omega (arith, ints) in ap nat_abs q

pub added_is : (a b : ℕ) → Stays a b → added a b ≡ a + b - 31
unfolding added
added_is a b s = ap₂ number_at (sym (added_row a b s)) (sym (added_column a b s)) ∙ number_at_lem (a + b - 31)

pub placed : (n : ℕ) (r c : ℤ) → row_of n ≡ r → column_of n ≡ c → n ≡ number_at r c
placed n r c e d = sym (number_at_lem n) ∙ ap₂ number_at e d
