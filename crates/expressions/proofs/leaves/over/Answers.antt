use Rattle.std.proofs.Common.{rules}
use Rattle.grammar.specs.Expr.{over}
use Rattle.expressions.specs.Working.{form_of}
use Rattle.expressions.proofs.leaves.over.Goals as goal

pub returns : goal.returns
unfolding form_of
returns c = (over c.args.shape c.args.place c.in_ok-size.size.height c.in_ok-size.size.width, search rules, search rules)
