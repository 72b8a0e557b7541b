-- The faults of reading, by part, number and place.
use Rattle.std.specs.Prelude.{ℕ}
use Rattle.grammar.specs.Expr.{most_bytes}
use Rattle.grammar.specs.declared.faults.Part.{Part}
use Rattle.grammar.specs.declared.faults.GrammarFault.{GrammarFault}
use Rattle.grammar.specs.declared.faults.GrammarFault.TheVariants.{TooLong, NotAllowed, UnknownWord, OutOfRange, TooDeep, BrokenRule}
use Rattle.grammar.specs.declared.faults.ReadFault.{ReadFault}
use Rattle.grammar.specs.declared.faults.ReadFault.TheVariants.{Letters, Grammar}
use Rattle.grammar.specs.declared.faults.Part.TheVariants.{Letters as letters, Grammar as grammar}

abbrev pub grammar_number : GrammarFault → ℕ
grammar_number TooLong = 1
grammar_number (NotAllowed at) = 3
grammar_number (UnknownWord at) = 4
grammar_number (OutOfRange at) = 5
grammar_number (TooDeep at) = 6
grammar_number (BrokenRule at) = 7

abbrev pub grammar_place : GrammarFault → ℕ
grammar_place TooLong = most_bytes
grammar_place (NotAllowed at) = at
grammar_place (UnknownWord at) = at
grammar_place (OutOfRange at) = at
grammar_place (TooDeep at) = at
grammar_place (BrokenRule at) = at

abbrev pub read_part : ReadFault → Part
read_part (Letters f) = letters
read_part (Grammar f) = grammar

abbrev pub read_number : ReadFault → ℕ
read_number (Letters f) = 2
read_number (Grammar f) = grammar_number f

abbrev pub read_place : ReadFault → ℕ
read_place (Letters f) = f.place
read_place (Grammar f) = grammar_place f
