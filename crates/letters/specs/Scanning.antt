-- Finding the tokens of a text from the left.
use Rattle.std.specs.Prelude.{◌≡◌, ℕ, zero, suc, ◌+◌, ◌-◌, ◌*◌, ◌<◌, ◌≤◌, Bool, true, false, cond, not, ◌&&◌, List, [], ◌∷◌, ◌++◌, length, take, drop, ℤ, pos, neg_ℤ, Some, None, Ok, Err, Option, Result, ◌==◌, ◌≢◌, nat_le}
use Rattle.std.specs.List.{prefix_len}
use Rattle.letters.specs.declared.tokens.Sign.{Sign}
use Rattle.letters.specs.declared.tokens.Sign.TheVariants.{OpenSquare, CloseSquare, OpenRound, CloseRound, Comma, Star}
use Rattle.letters.specs.declared.tokens.Token.{Token}
use Rattle.letters.specs.declared.tokens.Token.TheVariants.{Word, Number, Mark, End}
use Rattle.letters.specs.declared.tokens.Found.{Found}
use Rattle.letters.specs.declared.faults.LettersFault.{LettersFault}
use Rattle.letters.specs.Bytes.{letter, digit, blank, minus}
use Rattle.letters.specs.Tokens.{Tok, word, number, sign, finish, wrong, Placed, Spelled}

abbrev pub sign_of : ℕ → Option Sign
sign_of b =
    cond (b == 91) (Some OpenSquare) (cond (b == 93) (Some CloseSquare) (cond (b == 40) (Some OpenRound)
    (cond (b == 41) (Some CloseRound) (cond (b == 44) (Some Comma) (cond (b == 42) (Some Star) None)))))

-- what digits say
abbrev pub value_of : ℕ → List ℕ → ℕ
value_of sum [] = sum
value_of sum (d ∷ ds) = value_of (sum * 10 + (d - 48)) ds

-- one to three digits, a first 0 only alone, and after a minus no 0 alone
abbrev pub is_numeral : Bool → List ℕ → Bool
is_numeral negative [] = false
is_numeral negative (d ∷ []) = not (negative && d == 48)
is_numeral negative (d ∷ e ∷ ds) = not (d == 48) && nat_le (length ds) 1

abbrev pub number_of : Bool → List ℕ → Tok
number_of negative ds = cond (is_numeral negative ds) (number (cond negative (neg_ℤ (pos (value_of 0 ds))) (pos (value_of 0 ds)))) wrong

-- a token, and how many bytes it takes
pub record Cut : Type 0 where
  pub tok : Tok
  pub size : ℕ

abbrev pub sign_cut : Option Sign → Cut
sign_cut (Some s) = record { tok = sign s; size = 1 }
sign_cut None = record { tok = wrong; size = 1 }

-- the token with which a text begins
abbrev pub cut_of : List ℕ → Cut
cut_of [] = record { tok = finish; size = 0 }
cut_of (b ∷ bs) =
    cond (letter b) (let n : ℕ = prefix_len letter (b ∷ bs) in record { tok = word (take n (b ∷ bs)); size = n })
    (cond (digit b) (let n : ℕ = prefix_len digit (b ∷ bs) in record { tok = number_of false (take n (b ∷ bs)); size = n })
    (cond (b == minus) (let n : ℕ = prefix_len digit bs in record { tok = number_of true (take n bs); size = 1 + n })
    (sign_cut (sign_of b))))

-- no token is looked for behind the end, or behind what is none
abbrev pub onward : Tok → List Placed → List Placed
onward (word w) ps = ps
onward (number z) ps = ps
onward (sign s) ps = ps
onward finish ps = []
onward wrong ps = []

-- the tokens from the place `at` on, the first argument bounds their count
unfoldable pub tokens_by : ℕ → ℕ → List ℕ → List Placed
tokens_by zero at bs = []
tokens_by (suc n) at bs =
    let k : ℕ = prefix_len blank bs in
    let c : Cut = cut_of (drop k bs) in
    record { place = at + k; tok = c.tok } ∷ onward c.tok (tokens_by n (at + k + c.size) (drop (k + c.size) bs))

unfoldable pub tokens_at : List ℕ → ℕ → List Placed
tokens_at text at = tokens_by (suc (length text)) at (drop at text)

abbrev pub tok_of : Token → Tok
tok_of (Word w) = word w.now
tok_of (Number z) = number z
tok_of (Mark s) = sign s
tok_of End = finish

-- the number of the digits with which a text begins, and its size with the bytes before them
abbrev pub cut_of_number : Bool → ℕ → List ℕ → Cut
cut_of_number negative before s = record { tok = number_of negative (take (prefix_len digit s) s); size = before + prefix_len digit s }

-- a number that was read, and how many digits it has, against the cut of the digits
abbrev pub ReadsNumber : Option (ℤ × ℕ) → Cut → Type 0
ReadsNumber (Some p) c = (number p.0 ≡ c.tok) × (p.1 ≡ c.size)
ReadsNumber None c = wrong ≡ c.tok

-- a token and how many bytes it takes, against the cut of the bytes
abbrev pub Cuts : Option (Token × ℕ) → Cut → Type 0
Cuts (Some p) c = (tok_of p.0 ≡ c.tok) × (p.1 ≡ c.size)
Cuts None c = wrong ≡ c.tok

-- what was found at a place where no blank stands, against the cut of the bytes there
abbrev pub Gives : Result Found LettersFault → Cut → ℕ → Type 0
Gives (Ok f) c at = (tok_of f.token ≡ c.tok) × (f.place ≡ at) × (f.end ≡ at + c.size)
Gives (Err e) c at = (wrong ≡ c.tok) × (e.place ≡ at)

-- the tokens of the text from `at` on are the one that was found, at its place, and those from its end on
pub record Finds (text : List ℕ) (at : ℕ) (f : Found) : Type 0 where
  pub tokens : tokens_at text at ≡ record { place = f.place; tok = tok_of f.token } ∷ onward (tok_of f.token) (tokens_at text f.end)
  pub forth : (at ≤ f.place) × (f.place ≤ f.end)
  pub grows : (tok_of f.token ≢ finish) → (f.place < f.end) × (f.end ≤ length text)

abbrev pub Next : Result Found LettersFault → List ℕ → ℕ → Type 0
Next (Ok f) text at = Finds text at f
Next (Err e) text at = tokens_at text at ≡ record { place = e.place; tok = wrong } ∷ []

-- the tokens of a text are the only ones that spell it; where they end with the text, they do
pub record OnlySpelling (text : List ℕ) : Type 0 where
  pub spells : (ps : List Placed) (at : ℕ) → tokens_at text 0 ≡ ps ++ record { place = at; tok = finish } ∷ [] → Spelled 0 text ps × (at ≡ length text)
  pub only : (ps : List Placed) → Spelled 0 text ps → tokens_at text 0 ≡ ps ++ record { place = length text; tok = finish } ∷ []
