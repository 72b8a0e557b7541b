use Rattle.std.proofs.Common.{◌≡◌, ◌++◌, drop}
use Rattle.forms.specs.Parts.{terms_of}
use Rattle.stored.specs.Packing.{packed}
use Rattle.stored.specs.Layout.{stored_bit, count_bits, version}
use Rattle.stored.proofs.saving.save.Given as goal

-- the bytes so far, and behind them what was there
abbrev pub invariant-loop-index : goal.invariant-loop-index
invariant-loop-index l = l.front ≡ packed (stored_bit count_bits version (terms_of l.form)) l.index ++ drop l.index l.initial.front
