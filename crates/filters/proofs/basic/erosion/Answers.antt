use Rattle.std.proofs.Common.{rules}
use Rattle.forms.specs.Parts.{terms_of}
use Rattle.filters.proofs.Spans.{box_law}
use Rattle.filters.proofs.Laws.{erodes}
use Rattle.filters.proofs.basic.erosion.Goals as goal

pub returns-clause-truth : goal.returns-clause-truth
returns-clause-truth c = erodes c.args.size.height c.args.size.width c.args.size.sides (terms_of c.single.result) (search rules)

pub returns-clause-cells : goal.returns-clause-cells
returns-clause-cells c = box_law c.args.size.height c.args.size.width c.args.size.sides
