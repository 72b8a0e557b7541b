-- The window: 9 rows, from -4 to 4, of 7 cells, in columns from -3 to 3, numbered row by row from 0 to 62.
use Rattle.std.specs.Prelude.{ℕ, ◌+◌, ◌*◌, ◌/◌, ◌%◌, Bool, ◌&&◌, ℤ, pos, negsuc, ◌+ℤ◌, ◌-ℤ◌, int_le, unsigned_abs}

-- the row and the column of the cell with number n
abbrev pub row_of : ℕ → ℤ
row_of n = pos (n / 7) -ℤ pos 4

abbrev pub column_of : ℕ → ℤ
column_of n = pos (n % 7) -ℤ pos 3

-- whether row r and column c are those of a cell
unfoldable pub in_window : ℤ → ℤ → Bool
in_window r c = (int_le (negsuc 3) r && int_le r (pos 4)) && (int_le (negsuc 2) c && int_le c (pos 3))

-- the number of the cell at row r and column c
unfoldable pub number_at : ℤ → ℤ → ℕ
number_at r c = unsigned_abs (r +ℤ pos 4) * 7 + unsigned_abs (c +ℤ pos 3)

-- cell a plus cell b, by rows and by columns: whether it is a cell, and which
unfoldable pub stays : ℕ → ℕ → Bool
stays a b = in_window (row_of a +ℤ row_of b) (column_of a +ℤ column_of b)

unfoldable pub added : ℕ → ℕ → ℕ
added a b = number_at (row_of a +ℤ row_of b) (column_of a +ℤ column_of b)
