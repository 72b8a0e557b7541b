use Rattle.std.proofs.Common.{◌+◌, ◌*◌, length}
use Rattle.grammar.specs.Reading.{expr_of}
use Rattle.expressions.specs.Outcomes.{held}
use Rattle.expressions.proofs.ArgumentSteps.{Joining}
use Rattle.expressions.proofs.calls.+expression.Given as goal

-- a call's arguments are read one less deep
abbrev pub decreases-expr : goal.decreases-expr
decreases-expr l = 2 * l.depth

abbrev pub decreases-composed : goal.decreases-composed
decreases-composed l = 2 * l.depth + 1

abbrev pub decreases-joined : goal.decreases-joined
decreases-joined l = 2 * l.depth + 1

abbrev pub invariant-joined-loop-reader : goal.invariant-joined-loop-reader
invariant-joined-loop-reader l = Joining (expr_of l.depth) l.joint l.place l.initial.reader (held l.initial.made) l.reader (held l.made)

abbrev pub decreases-joined-loop-reader : goal.decreases-joined-loop-reader
decreases-joined-loop-reader l = length l.reader
