-- What saving and loading answer, by the numbers of their faults.
use Rattle.std.specs.Prelude.{◌≡◌, ℕ, ◌<◌, ◌≤◌, List, ◌++◌, length, take, drop, Ok, Err, Result}
use Rattle.forms.specs.declared.form.Form.{Form}
use Rattle.forms.specs.Parts.{terms_of}
use Rattle.stored.specs.declared.faults.LoadFault.{LoadFault}
use Rattle.stored.specs.declared.faults.LoadFault.TheVariants.{NotVersionOne, WrongLength, FillingNotZero, NotAscending, TermInsideAnother}
use Rattle.stored.specs.declared.faults.SaveFault.{SaveFault}
use Rattle.stored.specs.declared.faults.SaveFault.TheVariants.{BufferTooShort}
use Rattle.stored.specs.Layout.{stored, Loaded, accepted, refused, loaded, count_bits, version}

abbrev pub load_number : LoadFault → ℕ
load_number NotVersionOne = 11
load_number WrongLength = 12
load_number FillingNotZero = 13
load_number NotAscending = 14
load_number TermInsideAnother = 15

abbrev pub save_number : SaveFault → ℕ
save_number BufferTooShort = 16

-- the bytes of a form's terms, and what bytes store, in version 1
abbrev pub bytes_of : List ℕ → List ℕ
bytes_of f = stored count_bits version f

abbrev pub content_of : List ℕ → Loaded
content_of bytes = loaded count_bits version bytes

-- the form that was loaded, or its fault
abbrev pub outcome : Result Form LoadFault → Loaded
outcome (Ok f) = accepted (terms_of f)
outcome (Err e) = refused (load_number e)

-- a buffer before and after the terms f were saved into it: the bytes of f, and behind them what was there
abbrev pub Saved : Result ℕ SaveFault → List ℕ → List ℕ → List ℕ → Type 0
Saved (Ok n) f before after = (n ≡ length (bytes_of f)) × (n ≤ length before) × (after ≡ bytes_of f ++ drop n before)
Saved (Err BufferTooShort) f before after = (length before < length (bytes_of f)) × (after ≡ before)

-- what was saved stores f
abbrev pub SavedBack : Result ℕ SaveFault → List ℕ → List ℕ → Type 0
SavedBack (Ok n) f after = content_of (take n after) ≡ accepted f
SavedBack (Err e) f after = Unit {0}

-- what was loaded has these bytes
abbrev pub LoadedBack : Result Form LoadFault → List ℕ → Type 0
LoadedBack (Ok f) bytes = bytes_of (terms_of f) ≡ bytes
LoadedBack (Err e) bytes = Unit {0}

-- the bytes of f and g are equal exactly when f and g are
abbrev pub ToldByBytes : List ℕ → List ℕ → Type 0
ToldByBytes f g = (bytes_of f ≡ bytes_of g → f ≡ g) × (f ≡ g → bytes_of f ≡ bytes_of g)
