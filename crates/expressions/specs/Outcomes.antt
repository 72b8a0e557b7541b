-- What compiling and its parts answer, against the definitions.
use Rattle.std.specs.Prelude.{◌≡◌, ℕ, Bool, true, false, ◌&&◌, List, length, Ok, Err, Result, nat_le}
use Rattle.forms.specs.declared.form.Form.{Form}
use Rattle.forms.specs.Faults.{fault_number}
use Rattle.forms.specs.Parts.{terms_of}
use Rattle.filters.specs.declared.weights.Weights.{Weights}
use Rattle.filters.specs.declared.weights.adding.WeightsFault.{WeightsFault}
use Rattle.filters.specs.Basic.{Weighed, most_cells, different}
use Rattle.filters.specs.Weights.{listed}
use Rattle.grammar.specs.declared.faults.GrammarFault.{GrammarFault}
use Rattle.grammar.specs.declared.faults.GrammarFault.TheVariants.{BrokenRule}
use Rattle.grammar.specs.declared.faults.ReadFault.{ReadFault}
use Rattle.grammar.specs.declared.faults.Part.TheVariants.{Forms}
use Rattle.grammar.specs.declared.words.Shape.{Shape}
use Rattle.grammar.specs.Expr.{Expr, shape_rule}
use Rattle.grammar.specs.Reading.{Out, ok, bad, Toks, Read}
use Rattle.grammar.specs.Outcomes.{flaw}
use Rattle.expressions.specs.declared.faults.FormsFault.{FormsFault}
use Rattle.expressions.specs.declared.faults.Fault.{Fault}
use Rattle.expressions.specs.Faults.{part_of, number_of, place_of}
use Rattle.expressions.specs.Working.{placed, shape_of, form_of}

-- a form that was worked out, or the fault that is held until the text is read
abbrev pub held : Result Form FormsFault → Out (List ℕ)
held (Ok f) = ok (terms_of f)
held (Err e) = bad Forms (fault_number e.fault) e.place

-- an expression was read, and its form worked out; or there is its first fault
abbrev pub Works : Result (Result Form FormsFault) ReadFault → Toks → Out (Read Expr) → Type 0
Works (Ok v) left o = (e : Expr) × (o ≡ ok (record { got = e; rest = left })) × (held v ≡ form_of e)
Works (Err e) left o = o ≡ flaw e

-- a filter over a box, where its rule is kept
abbrev pub Shapes : Result (Result Form FormsFault) GrammarFault → Shape → ℕ → ℕ → ℕ → Type 0
Shapes (Ok v) s at h w = (shape_rule s h w ≡ true) × (held v ≡ placed at (shape_of s h w))
Shapes (Err e) s at h w = (e ≡ BrokenRule at) × (shape_rule s h w ≡ false)

-- at most nine different cells
abbrev pub few : List Weighed → Bool
few xs = nat_le (length xs) most_cells && different xs

-- these cells were read, if they are few and different
abbrev pub Lists : Result Weights WeightsFault → List Weighed → Type 0
Lists (Ok w) xs = listed w ≡ xs
Lists (Err _) xs = few xs ≡ false

abbrev pub ReadsWeights : Result (Result Weights WeightsFault) ReadFault → Toks → Out (Read (List Weighed)) → Type 0
ReadsWeights (Ok w) left o = (xs : List Weighed) × (o ≡ ok (record { got = xs; rest = left })) × Lists w xs
ReadsWeights (Err e) left o = o ≡ flaw e

-- the expression of a whole text was read, and its form worked out
abbrev pub ReadWhole : Result (Result Form FormsFault) ReadFault → Out Expr → Type 0
ReadWhole (Ok v) o = (e : Expr) × (o ≡ ok e) × (held v ≡ form_of e)
ReadWhole (Err e) o = o ≡ flaw e

-- the form of a text, or its fault
abbrev pub Compiled : Result Form Fault → Out (List ℕ) → Type 0
Compiled (Ok f) o = o ≡ ok (terms_of f)
Compiled (Err e) o = o ≡ bad (part_of e) (number_of e) (place_of e)
