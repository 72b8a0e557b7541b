use Rattle.tables.specs.Table.{items_of}
use Rattle.forms.proofs.Left.{Thinning}
use Rattle.forms.proofs.form.entering.without.Given as goal

abbrev pub invariant-loop-index : goal.invariant-loop-index
invariant-loop-index l = Thinning l.term (items_of l.initial.table) l.index (items_of l.table) l.kept
