-- What the readers answer, against the reading of the tokens.
use Rattle.std.specs.Prelude.{◌≡◌, Bool, true, false, [], ◌∷◌, drop, Ok, Err, Result}
use Rattle.letters.specs.declared.tokens.Found.{Found}
use Rattle.letters.specs.declared.faults.LettersFault.{LettersFault}
use Rattle.letters.specs.Tokens.{wrong}
use Rattle.letters.specs.Scanning.{tok_of, onward}
use Rattle.grammar.specs.declared.faults.ReadFault.{ReadFault}
use Rattle.grammar.specs.Faults.{read_part, read_number, read_place}
use Rattle.grammar.specs.Reading.{Out, ok, bad, Toks, Read, closes}

-- a fault, by its part, number and place
abbrev pub flaw : {A : Type 0} → ReadFault → Out A
flaw e = bad (read_part e) (read_number e) (read_place e)

-- the tokens begin with the one that was found, and go on with those that are left; or what stands there is none
abbrev pub Takes : Result Found LettersFault → Toks → Toks → Type 0
Takes (Ok f) left ts = ts ≡ record { place = f.place; tok = tok_of f.token } ∷ onward (tok_of f.token) left
Takes (Err e) left ts = ts ≡ record { place = e.place; tok = wrong } ∷ []

-- what was passed, and the tokens that are left
abbrev pub Passes : Result (Unit {0}) ReadFault → Toks → Out Toks → Type 0
Passes (Ok _) left o = o ≡ ok left
Passes (Err e) left o = o ≡ flaw e

-- what was got, seen through f, and the tokens that are left
abbrev pub Reads : {A B : Type 0} → (A → B) → Result A ReadFault → Toks → Out (Read B) → Type 0
Reads f (Ok a) left o = o ≡ ok (record { got = f a; rest = left })
Reads f (Err e) left o = o ≡ flaw e

-- a closing bracket stood there, and those behind it are left; or all are
abbrev pub Closes : Bool → Toks → Toks → Type 0
Closes true left ts = (closes ts ≡ true) × (left ≡ drop 1 ts)
Closes false left ts = (closes ts ≡ false) × (left ≡ ts)

-- the text ends there
abbrev pub EndsWith : {A : Type 0} → Result (Unit {0}) ReadFault → A → Out A → Type 0
EndsWith (Ok _) a o = o ≡ ok a
EndsWith (Err e) a o = o ≡ flaw e
