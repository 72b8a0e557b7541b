use Rattle.std.proofs.Common.{rules}
use Rattle.grammar.specs.Expr.{cell}
use Rattle.expressions.specs.Working.{form_of}
use Rattle.expressions.proofs.leaves.single.Goals as goal

pub returns : goal.returns
unfolding form_of
returns c = (cell c.in_ok-cell.cell, search rules, search rules)
