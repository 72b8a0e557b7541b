use Rattle.std.proofs.Common.{◌≡◌, ◌+◌, take}
use Rattle.forms.specs.Parts.{terms_of}
use Rattle.stored.proofs.loading.formed.Given as goal

-- the terms so far
abbrev pub invariant-loop-term : goal.invariant-loop-term
invariant-loop-term l = terms_of l.form ≡ take (l.term-index + 1) l.terms
