-- Expressions, the tokens by which each is written, and the rules that it keeps.
use Rattle.std.specs.Prelude.{◌≡◌, ℕ, ◌-◌, ◌*◌, ◌%◌, ◌<◌, ◌≤◌, Bool, true, ◌&&◌, List, [], ◌∷◌, ◌++◌, map, length, pos, ◌==◌, nat_le}
use Rattle.forms.specs.Window.{row_of, column_of}
use Rattle.letters.specs.declared.tokens.Sign.TheVariants.{OpenSquare, CloseSquare, OpenRound, CloseRound, Comma, Star}
use Rattle.letters.specs.Tokens.{Tok, word, number, sign, finish, wrong, Placed, Spelled}
use Rattle.filters.specs.Boxes.{Sides}
use Rattle.filters.specs.Basic.{Weighed, most_cells, rank_rule, weight_rule}
use Rattle.grammar.specs.declared.words.Joint.{Joint}
use Rattle.grammar.specs.declared.words.Shape.{Shape}
use Rattle.grammar.specs.declared.words.Shape.TheVariants.{Erode, Dilate, Open, Close, Med}
use Rattle.grammar.specs.declared.words.Word.TheVariants.{Join, After, Over, Rank, Weight}
use Rattle.grammar.specs.Words.{letters_of}

-- a cell by its number; any other expression is a call, with the place of its word.
-- `join` is max or min of a first expression and one or more others, `after` has the outer and the inner one,
-- `over` the rows and columns of a box, `rank` these and the rank, `weight` the rank and the weighed cells.
mutual
  pub data Expr : Type 0 where
    cell : ℕ → Expr
    join : Joint → ℕ → Expr → Args → Expr
    after : ℕ → Expr → Expr → Expr
    over : Shape → ℕ → ℕ → ℕ → Expr
    rank : ℕ → ℕ → ℕ → ℕ → Expr
    weight : ℕ → ℕ → List Weighed → Expr

  pub data Args : Type 0 where
    last : Expr → Args
    next : Expr → Args → Args

-- [row,column]
abbrev pub cell_tokens : ℕ → List Tok
cell_tokens n = sign OpenSquare ∷ number (row_of n) ∷ sign Comma ∷ number (column_of n) ∷ sign CloseSquare ∷ []

-- ,[row,column]*times for each, and the closing bracket
abbrev pub weight_tokens : List Weighed → List Tok
weight_tokens [] = sign CloseRound ∷ []
weight_tokens (x ∷ xs) = sign Comma ∷ (cell_tokens x.cell ++ (sign Star ∷ number (pos x.times) ∷ weight_tokens xs))

-- the tokens of an expression
unfoldable mutual
  pub written : Expr → List Tok
  written (cell n) = cell_tokens n
  written (join j at e es) = word (letters_of (Join j)) ∷ sign OpenRound ∷ (written e ++ written_args es)
  written (after at e f) = word (letters_of After) ∷ sign OpenRound ∷ (written e ++ (sign Comma ∷ (written f ++ (sign CloseRound ∷ []))))
  written (over s at h w) = word (letters_of (Over s)) ∷ sign OpenRound ∷ number (pos h) ∷ sign Comma ∷ number (pos w) ∷ sign CloseRound ∷ []
  written (rank at h w k) =
      word (letters_of Rank) ∷ sign OpenRound ∷ number (pos h) ∷ sign Comma ∷ number (pos w) ∷ sign Comma ∷ number (pos k) ∷ sign CloseRound ∷ []
  written (weight at k xs) = word (letters_of Weight) ∷ sign OpenRound ∷ number (pos k) ∷ weight_tokens xs

  pub written_args : Args → List Tok
  written_args (last e) = sign Comma ∷ (written e ++ (sign CloseRound ∷ []))
  written_args (next e es) = sign Comma ∷ (written e ++ written_args es)

-- the places of its words, from the left
unfoldable mutual
  pub places_of : Expr → List ℕ
  places_of (cell n) = []
  places_of (join j at e es) = at ∷ (places_of e ++ places_of_args es)
  places_of (after at e f) = at ∷ (places_of e ++ places_of f)
  places_of (over s at h w) = at ∷ []
  places_of (rank at h w k) = at ∷ []
  places_of (weight at k xs) = at ∷ []

  pub places_of_args : Args → List ℕ
  places_of_args (last e) = places_of e
  places_of_args (next e es) = places_of e ++ places_of_args es

abbrev pub place_if_word : Tok → ℕ → List ℕ → List ℕ
place_if_word (word w) at ps = at ∷ ps
place_if_word (number z) at ps = ps
place_if_word (sign s) at ps = ps
place_if_word finish at ps = ps
place_if_word wrong at ps = ps

abbrev pub word_places : List Placed → List ℕ
word_places [] = []
word_places (p ∷ ps) = place_if_word p.tok p.place (word_places ps)

abbrev pub toks_of : List Placed → List Tok
toks_of ps = map (λ p. p.tok) ps

-- these tokens, at these places, write the expression
abbrev pub Writes : Expr → List Placed → Type 0
Writes e ps = (toks_of ps ≡ written e) × (word_places ps ≡ places_of e)

-- a median has an odd number of cells, at most nine
abbrev pub shape_rule : Shape → ℕ → ℕ → Bool
shape_rule Erode h w = true
shape_rule Dilate h w = true
shape_rule Open h w = true
shape_rule Close h w = true
shape_rule Med h w = nat_le (h * w) most_cells && h * w % 2 == 1

abbrev pub most_rank : ℕ
most_rank = 9

abbrev pub most_times : ℕ
most_times = 99

abbrev pub most_weight : ℕ
most_weight = 891

abbrev pub RuledWeights : List Weighed → Type 0
RuledWeights [] = Unit {0}
RuledWeights (x ∷ xs) = (x.cell < 63) × (1 ≤ x.times) × (x.times ≤ most_times) × RuledWeights xs

-- the expression keeps the rules: ranges of numbers, and those of med, rank and weight
unfoldable mutual
  pub Ruled : Expr → Type 0
  Ruled (cell n) = n < 63
  Ruled (join j at e es) = Ruled e × RuledArgs es
  Ruled (after at e f) = Ruled e × Ruled f
  Ruled (over s at h w) = Sides h w × (shape_rule s h w ≡ true)
  Ruled (rank at h w k) = Sides h w × (1 ≤ k) × (k ≤ most_rank) × (rank_rule h w k ≡ true)
  Ruled (weight at k xs) = (1 ≤ k) × (k ≤ most_weight) × (0 < length xs) × RuledWeights xs × (weight_rule k xs ≡ true)

  pub RuledArgs : Args → Type 0
  RuledArgs (last e) = Ruled e
  RuledArgs (next e es) = Ruled e × RuledArgs es

-- its calls nest at most d deep
unfoldable mutual
  pub Nests : Expr → ℕ → Type 0
  Nests (cell n) d = Unit {0}
  Nests (join j at e es) d = (0 < d) × Nests e (d - 1) × NestsArgs es (d - 1)
  Nests (after at e f) d = (0 < d) × Nests e (d - 1) × Nests f (d - 1)
  Nests (over s at h w) d = 0 < d
  Nests (rank at h w k) d = 0 < d
  Nests (weight at k xs) d = 0 < d

  pub NestsArgs : Args → ℕ → Type 0
  NestsArgs (last e) d = Nests e d
  NestsArgs (next e es) d = Nests e d × NestsArgs es d

abbrev pub most_bytes : ℕ
most_bytes = 1024

abbrev pub most_deep : ℕ
most_deep = 16

-- the text is a spelling of the expression, within the rules
pub record SpellingOf (text : List ℕ) (e : Expr) : Type 0 where
  pub short : length text ≤ most_bytes
  pub tokens : (ps : List Placed) × Spelled 0 text ps × Writes e ps
  pub ruled : Ruled e
  pub nests : Nests e most_deep
