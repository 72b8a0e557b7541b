use Rattle.std.proofs.Common.{rules}
use Rattle.grammar.specs.Expr.{rank}
use Rattle.expressions.specs.Working.{form_of}
use Rattle.expressions.proofs.leaves.ranked.Goals as goal

pub returns : goal.returns
unfolding form_of
returns c = (rank c.args.place c.in_ok-size.size.height c.in_ok-size.size.width c.in_ok-k.k, search rules, search rules)
