-- The bytes of which tokens are made.
use Rattle.std.specs.Prelude.{ℕ, Bool, ◌&&◌, ◌==◌, nat_le}
use Rattle.letters.specs.declared.tokens.Sign.{Sign}
use Rattle.letters.specs.declared.tokens.Sign.TheVariants.{OpenSquare, CloseSquare, OpenRound, CloseRound, Comma, Star}

abbrev pub between : ℕ → ℕ → ℕ → Bool
between low high b = nat_le low b && nat_le b high

-- a to z
abbrev pub letter : ℕ → Bool
letter b = between 97 122 b

-- 0 to 9
abbrev pub digit : ℕ → Bool
digit b = between 48 57 b

abbrev pub blank : ℕ → Bool
blank b = b == 32

abbrev pub minus : ℕ
minus = 45

-- [ ] ( ) , *
abbrev pub sign_byte : Sign → ℕ
sign_byte OpenSquare = 91
sign_byte CloseSquare = 93
sign_byte OpenRound = 40
sign_byte CloseRound = 41
sign_byte Comma = 44
sign_byte Star = 42
