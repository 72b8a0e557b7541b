use Rattle.std.proofs.Common.{map, bit_or}
use Rattle.forms.specs.Parts.{terms_of}
use Rattle.joins.specs.Joins.{enter_all}
use Rattle.joins.proofs.Turns.{Entering}
use Rattle.joins.proofs.enter_unions.Given as goal

abbrev pub invariant-loop-other : goal.invariant-loop-other
invariant-loop-other l =
    Entering (enter_all (map (bit_or l.term) (terms_of l.g)) (terms_of l.initial.joined)) (map (bit_or l.term) l.other-items) l.other-index (terms_of l.joined)
