-- The forms of the basic filters: erosion, dilation, opening, closing, ranks and weighted ranks.
use Rattle.std.specs.Prelude.{ℕ, zero, suc, ◌+◌, ◌-◌, ◌*◌, ◌/◌, Bool, true, not, ◌&&◌, List, [], ◌∷◌, ◌++◌, map, length, neg_ℤ, ◌==◌, bit_or, nat_le}
use Rattle.std.specs.List.{list_all}
use Rattle.forms.specs.Window.{row_of, column_of, number_at}
use Rattle.forms.specs.Sets.{single, set_of}
use Rattle.forms.specs.Entering.{Made}
use Rattle.joins.specs.Joins.{after, enter_all, compose}
use Rattle.filters.specs.declared.weighed.Weighed as declared
use Rattle.filters.specs.Boxes.{box}

-- the cell on the other side of the middle
abbrev pub opposite : ℕ → ℕ
opposite c = number_at (neg_ℤ (row_of c)) (neg_ℤ (column_of c))

-- the least over the box
abbrev pub erosion_of : ℕ → ℕ → List ℕ
erosion_of h w = set_of (box h w) ∷ []

-- the greatest over the box turned about the middle
abbrev pub dilation_of : ℕ → ℕ → Made
dilation_of h w = enter_all (map (λ c. single (opposite c)) (box h w)) []

abbrev pub opening_of : ℕ → ℕ → Made
opening_of h w = after (dilation_of h w) (λ d. compose d (erosion_of h w))

abbrev pub closing_of : ℕ → ℕ → Made
closing_of h w = after (dilation_of h w) (λ d. compose (erosion_of h w) d)

-- a cell, and how often its element counts
abbrev pub Weighed : Type 0
Weighed = declared.Weighed

abbrev pub total : List Weighed → ℕ
total [] = 0
total (x ∷ xs) = x.times + total xs

-- sets of the listed cells that count k or more; nothing is added to one that has come to k
abbrev pub reaching : List Weighed → ℕ → List ℕ
reaching xs zero = 0 ∷ []
reaching [] (suc k) = []
reaching (x ∷ xs) (suc k) = reaching xs (suc k) ++ map (bit_or (single x.cell)) (reaching xs (suc k - x.times))

-- the k-th greatest after each listed element is repeated
abbrev pub weight_of : ℕ → List Weighed → Made
weight_of k xs = enter_all (reaching xs k) []

-- each cell once
abbrev pub once : List ℕ → List Weighed
once [] = []
once (c ∷ cs) = record { cell = c; times = 1 } ∷ once cs

-- the k-th greatest over the box
abbrev pub rank_of : ℕ → ℕ → ℕ → Made
rank_of h w k = weight_of k (once (box h w))

-- the rank in the middle of n
abbrev pub middle : ℕ → ℕ
middle n = (n + 1) / 2

-- the cell c is none of those listed
abbrev pub lacks : ℕ → List Weighed → Bool
lacks c xs = list_all (λ x. not (c == x.cell)) xs

abbrev pub different : List Weighed → Bool
different [] = true
different (x ∷ xs) = lacks x.cell xs && different xs

abbrev pub most_cells : ℕ
most_cells = 9

-- the rule of a rank: at most nine cells, and k at most their number
abbrev pub rank_rule : ℕ → ℕ → ℕ → Bool
rank_rule h w k = nat_le (h * w) most_cells && nat_le k (h * w)

-- the rule of weights: at most nine different cells, and k at most the sum
abbrev pub weight_rule : ℕ → List Weighed → Bool
weight_rule k xs = (nat_le (length xs) most_cells && different xs) && nat_le k (total xs)
