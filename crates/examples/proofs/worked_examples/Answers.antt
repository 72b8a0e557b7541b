use mathlib.Core.Path.{refl}
use Rattle.forms.specs.Sets.{cells_below, cells, moved}
use Rattle.forms.specs.Window.{in_window, number_at, stays, added}
use Rattle.joins.specs.Joins.{stays_all, compose}
use Rattle.stored.specs.Layout.{stored}
use Rattle.stored.specs.Packing.{spelled}
use Rattle.letters.specs.Scanning.{tokens_by, tokens_at}
use Rattle.filters.specs.Boxes.{box}
use Rattle.grammar.specs.Words.{word_of}
use Rattle.grammar.specs.Reading.{cell_of, sides_of, weighed_of, weights_of, args_of, expr_of, parse}
use Rattle.expressions.specs.Working.{compile, form_of}
use Rattle.values.specs.Value.{least, value}
use Rattle.samples.specs.Samples.{eroded, dilated, sample}
use Rattle.examples.proofs.worked_examples.Goals as goal

pub returns : goal.returns
unfolding compile form_of parse expr_of args_of weights_of weighed_of sides_of cell_of word_of tokens_at tokens_by box compose stays_all moved cells cells_below in_window number_at stays added stored least value eroded dilated sample spelled
returns c = record { count = refl; hold = refl }
