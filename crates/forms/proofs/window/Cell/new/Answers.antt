use Rattle.std.proofs.Common.{arith, rules}
use Rattle.std.proofs.lemmas.Int.{ints}
use Rattle.forms.specs.Window.{in_window}
use Rattle.forms.proofs.window.Cell.new.Goals as goal

pub returns-then-row-ltminus4 : goal.returns-then-row-ltminus4
unfolding in_window
returns-then-row-ltminus4 c = grind (arith, ints)

pub returns : goal.returns
unfolding in_window
returns c = (grind (arith, ints), search rules, search rules)
