use Rattle.std.proofs.Common.{◌≡◌}
use Rattle.tables.specs.Table.{items_of}
use Rattle.stored.specs.Layout.{terms_in, count_bits}
use Rattle.stored.proofs.loading.terms.Given as goal

-- the terms so far
abbrev pub invariant-loop-index : goal.invariant-loop-index
invariant-loop-index l = items_of l.terms ≡ terms_in count_bits l.bytes l.index
