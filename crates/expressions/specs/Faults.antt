-- The faults of compiling, by part, number and place.
use Rattle.std.specs.Prelude.{ℕ}
use Rattle.forms.specs.Faults.{fault_number}
use Rattle.grammar.specs.declared.faults.Part.{Part}
use Rattle.grammar.specs.declared.faults.Part.TheVariants.{Letters as letters, Grammar as grammar, Forms as forms}
use Rattle.grammar.specs.declared.faults.ReadFault.{ReadFault}
use Rattle.grammar.specs.declared.faults.ReadFault.TheVariants.{Letters as ReadLetters, Grammar as ReadGrammar}
use Rattle.grammar.specs.Faults.{grammar_number, grammar_place}
use Rattle.expressions.specs.declared.faults.Fault.{Fault}
use Rattle.expressions.specs.declared.faults.Fault.TheVariants.{Letters, Grammar, Forms}

abbrev pub part_of : Fault → Part
part_of (Letters f) = letters
part_of (Grammar f) = grammar
part_of (Forms f) = forms

abbrev pub number_of : Fault → ℕ
number_of (Letters f) = 2
number_of (Grammar f) = grammar_number f
number_of (Forms f) = fault_number f.fault

abbrev pub place_of : Fault → ℕ
place_of (Letters f) = f.place
place_of (Grammar f) = grammar_place f
place_of (Forms f) = f.place

-- a fault of reading is one of compiling
abbrev pub from_read : ReadFault → Fault
from_read (ReadLetters f) = Letters f
from_read (ReadGrammar f) = Grammar f
