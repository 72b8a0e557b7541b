-- How an expression begins, against its reading.
use Rattle.std.specs.Prelude.{◌≡◌, ℕ, ◌-◌, ◌<◌, cond, [], ◌∷◌, Some, None, Ok, Err, Option, Result, ◌==◌}
use Rattle.letters.specs.declared.tokens.Sign.TheVariants.{OpenSquare}
use Rattle.letters.specs.Tokens.{Tok, word, number, sign, finish, wrong}
use Rattle.grammar.specs.declared.faults.ReadFault.{ReadFault}
use Rattle.grammar.specs.declared.faults.ReadFault.TheVariants.{Grammar as ReadGrammar}
use Rattle.grammar.specs.declared.faults.Part.TheVariants.{Letters, Grammar}
use Rattle.grammar.specs.declared.faults.GrammarFault.TheVariants.{UnknownWord, TooDeep}
use Rattle.grammar.specs.declared.starts.Start.{Start}
use Rattle.grammar.specs.declared.starts.Start.TheVariants.{Cell, Call}
use Rattle.grammar.specs.declared.words.Word.{Word}
use Rattle.grammar.specs.Expr.{Expr, cell}
use Rattle.grammar.specs.Words.{word_of}
use Rattle.grammar.specs.Reading.{Out, ok, bad, bind, Toks, Read, read, is_sign, cell_of, call_of, expr_of}
use Rattle.grammar.specs.Outcomes.{flaw}

-- the beginning of a cell, or the word of a call with its place; and the tokens behind
pub data Begun : Type 0 where
  at_cell : Toks → Begun
  at_call : Word → ℕ → Toks → Begun

-- a word that the language has, where calls may nest deeper; else 4 for an unknown word, then 6
abbrev pub begin_call : ℕ → Option Word → ℕ → Toks → Out Begun
begin_call d None at ts = bad Grammar 4 at
begin_call d (Some w) at ts = cond (d == 0) (bad Grammar 6 at) (ok (at_call w at ts))

abbrev pub begin_at : ℕ → Tok → ℕ → Toks → Out Begun
begin_at d (word w) at ts = begin_call d (word_of w) at ts
begin_at d (number z) at ts = bad Grammar 3 at
begin_at d (sign s) at ts = cond (is_sign OpenSquare (sign s)) (ok (at_cell ts)) (bad Grammar 3 at)
begin_at d finish at ts = bad Grammar 3 at
begin_at d wrong at ts = bad Letters 2 at

-- how an expression begins by its first token, where calls may nest d deep
abbrev pub begin_of : ℕ → Toks → Out Begun
begin_of d [] = bad Grammar 3 0
begin_of d (t ∷ ts) = begin_at d t.tok t.place ts

abbrev pub Begins : Result Start ReadFault → Toks → Out Begun → Type 0
Begins (Ok Cell) left o = o ≡ ok (at_cell left)
Begins (Ok (Call w place)) left o = o ≡ ok (at_call w place left)
Begins (Err e) left o = o ≡ flaw e

-- o is read as the opening says: a cell, or the call of a word whose arguments nest one less deep
abbrev pub Continues : Result Start ReadFault → Toks → ℕ → Out (Read Expr) → Type 0
Continues (Ok Cell) left d o = o ≡ bind (cell_of left) (λ c. read (cell c.got) c.rest)
Continues (Ok (Call w place)) left d o = (0 < d) × (o ≡ call_of (expr_of (d - 1)) w place left)
Continues (Err e) left d o = o ≡ flaw e

-- a word that there is, where calls may nest deeper; else 4 for an unknown word, then 6
abbrev pub Calls : Result Start ReadFault → Option Word → ℕ → ℕ → Type 0
Calls (Ok o) None d place = ⊥
Calls (Err e) None d place = e ≡ ReadGrammar (UnknownWord place)
Calls (Ok o) (Some w) d place = (0 < d) × (o ≡ Call w place)
Calls (Err e) (Some w) d place = (d ≡ 0) × (e ≡ ReadGrammar (TooDeep place))
