use Rattle.forms.proofs.Bits.{has_test}
use Rattle.forms.proofs.sets.CellSet.contains.Goals as goal

pub returns : goal.returns
returns c = rw (c.number.ensures.value, c.self.view_is) (has_test c.args.self c.args.cell)
