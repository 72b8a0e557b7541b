use Rattle.std.proofs.Common.{◌≡◌, map, take}
use Rattle.tables.specs.Table.{items_of}
use Rattle.forms.specs.Sets.{moved}
use Rattle.forms.proofs.form.Form.moved.Given as goal

abbrev pub invariant-loop-term : goal.invariant-loop-term
invariant-loop-term l = items_of l.table ≡ map (moved l.fn.to) (take l.term-index l.term-items)
