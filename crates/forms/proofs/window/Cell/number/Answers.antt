use Rattle.std.proofs.Common.{sym, ◌∙◌}
use Rattle.forms.proofs.Steps.{number_at_lem}
use Rattle.forms.proofs.window.Cell.number.Goals as goal

pub returns-clause-place : goal.returns-clause-place
returns-clause-place c = c.self.view_is ∙ sym (number_at_lem c.args.self)
