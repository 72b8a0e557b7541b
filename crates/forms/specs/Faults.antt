-- The faults of forms, by their numbers.
use Rattle.std.specs.Prelude.{ℕ}
use Rattle.forms.specs.declared.faults.Fault.{Fault}
use Rattle.forms.specs.declared.faults.Fault.TheVariants.{TooManyTerms, OutsideWindow}

abbrev pub fault_number : Fault → ℕ
fault_number TooManyTerms = 8
fault_number OutsideWindow = 9
