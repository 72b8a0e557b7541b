-- Tokens as bytes: which texts are spelled by which tokens, each with its place.
use Rattle.std.specs.Prelude.{◌≡◌, ℕ, suc, ◌+◌, ◌/◌, ◌%◌, ◌<◌, Bool, true, false, cond, List, [], ◌∷◌, ◌++◌, length, replicate, ℤ, pos, negsuc, nat_lt}
use Rattle.letters.specs.declared.tokens.Sign.{Sign}
use Rattle.letters.specs.Bytes.{letter, digit, minus, sign_byte}

-- a word, a number or a sign; the end of the text; and what is no token
pub data Tok : Type 0 where
  word : List ℕ → Tok
  number : ℤ → Tok
  sign : Sign → Tok
  finish : Tok
  wrong : Tok

-- a token with the place of its first byte
pub record Placed : Type 0 where
  pub place : ℕ
  pub tok : Tok

-- a number below 1,000 in decimal, with no zero in front
abbrev pub decimal : ℕ → List ℕ
decimal n =
    cond (nat_lt n 10) ((48 + n) ∷ [])
    (cond (nat_lt n 100) ((48 + n / 10) ∷ (48 + n % 10) ∷ []) ((48 + n / 100) ∷ (48 + n / 10 % 10) ∷ (48 + n % 10) ∷ []))

abbrev pub numeral : ℤ → List ℕ
numeral (pos n) = decimal n
numeral (negsuc n) = minus ∷ decimal (suc n)

abbrev pub bytes_of : Tok → List ℕ
bytes_of (word w) = w
bytes_of (number z) = numeral z
bytes_of (sign s) = sign_byte s ∷ []
bytes_of finish = []
bytes_of wrong = []

abbrev pub AllOf : (ℕ → Bool) → List ℕ → Type 0
AllOf p [] = Unit {0}
AllOf p (b ∷ bs) = (p b ≡ true) × AllOf p bs

-- a word has one or more letters, a number one to three digits
abbrev pub IsToken : Tok → Type 0
IsToken (word w) = (0 < length w) × AllOf letter w
IsToken (number (pos n)) = n < 1000
IsToken (number (negsuc n)) = suc n < 1000
IsToken (sign s) = Unit {0}
IsToken finish = ⊥
IsToken wrong = ⊥

-- the text does not begin with such a byte
abbrev pub BeginsNot : (ℕ → Bool) → List ℕ → Type 0
BeginsNot p [] = Unit {0}
BeginsNot p (b ∷ bs) = p b ≡ false

-- a word and a number are longest runs: no letter, and no digit, stands behind
abbrev pub Ends : Tok → List ℕ → Type 0
Ends (word w) rest = BeginsNot letter rest
Ends (number z) rest = BeginsNot digit rest
Ends (sign s) rest = Unit {0}
Ends finish rest = Unit {0}
Ends wrong rest = Unit {0}

abbrev pub blanks : ℕ → List ℕ
blanks n = replicate n 32

-- the text, whose first byte stands at `at`, is these tokens with blanks around them
abbrev pub Spelled : ℕ → List ℕ → List Placed → Type 0
Spelled at text [] = (n : ℕ) × (text ≡ blanks n)
Spelled at text (p ∷ ps) =
    (n : ℕ) × (rest : List ℕ)
    × (text ≡ blanks n ++ (bytes_of p.tok ++ rest))
    × (p.place ≡ at + n)
    × IsToken p.tok
    × Ends p.tok rest
    × Spelled (at + n + length (bytes_of p.tok)) rest ps
