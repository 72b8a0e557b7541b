-- The number of the refusal of a read.
use Rattle.std.specs.Prelude.{ℕ}
use Rattle.sources.specs.declared.refusal.ReadRefusal.{ReadRefusal}
use Rattle.sources.specs.declared.refusal.ReadRefusal.TheVariants.{NotReadable}

abbrev pub read_number : ReadRefusal → ℕ
read_number NotReadable = 20
