-- The cells and times of weights, and what adding one does.
use Rattle.std.specs.Prelude.{◌≡◌, ℕ, ◌<◌, true, false, List, [], ◌∷◌, ◌++◌, length, Ok, Err, Result}
use Rattle.tables.specs.Table.{items_of}
use Rattle.filters.specs.declared.weights.Weights.{Weights}
use Rattle.filters.specs.declared.weights.adding.WeightsFault.{WeightsFault}
use Rattle.filters.specs.declared.weights.adding.WeightsFault.TheVariants.{Full, Repeated}
use Rattle.filters.specs.Basic.{Weighed, most_cells, lacks}

abbrev pub listed : Weights → List Weighed
listed w = items_of w.table

-- a cell is added at the end, where there is room and it does not stand already; else nothing changes
abbrev pub Added : Result (Unit {0}) WeightsFault → ℕ → ℕ → List Weighed → List Weighed → Type 0
Added (Ok _) c n xs ys = (length xs < most_cells) × (lacks c xs ≡ true) × (ys ≡ xs ++ record { cell = c; times = n } ∷ [])
Added (Err Full) c n xs ys = (length xs ≡ most_cells) × (ys ≡ xs)
Added (Err Repeated) c n xs ys = (length xs < most_cells) × (lacks c xs ≡ false) × (ys ≡ xs)
