-- The values of a table.
use Rattle.std.specs.Prelude.{ℕ, List, take}
use Rattle.tables.specs.declared.table.Table.{Table}

abbrev pub items_of : {T : Type 0} {n : ℕ} → Table T n → List T
items_of t = take t.count t.items
