use Rattle.std.proofs.Common.{ap, ◌∙◌}
use Rattle.forms.specs.Sets.{cells}
use Rattle.forms.proofs.Listed.{cells_some}
use Rattle.forms.proofs.sets.Term.cells.Goals as goal

pub returns : goal.returns
returns c =
    let e = ap cells c.from.ensures.0 in
    record { value = c.cells.ensures ∙ e; some = λ q. cells_some c.from.result c.from.ensures.1 c.from.ensures.2 (e ∙ q) }
