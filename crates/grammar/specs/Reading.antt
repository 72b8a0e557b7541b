-- Reading an expression from tokens: the expression, or the first fault from the left.
use Rattle.std.specs.Prelude.{◌≡◌, ℕ, zero, suc, Bool, true, false, cond, ◌&&◌, List, [], ◌∷◌, length, drop, ℤ, pos, negsuc, Some, None, Option, ◌==◌, nat_le, unsigned_abs}
use Rattle.letters.specs.declared.tokens.Sign.{Sign}
use Rattle.letters.specs.declared.tokens.Sign.TheVariants.{OpenSquare, CloseSquare, OpenRound, CloseRound, Comma, Star}
use Rattle.letters.specs.Bytes.{sign_byte}
use Rattle.letters.specs.Tokens.{Tok, word, number, sign, finish, wrong, Placed}
use Rattle.letters.specs.Scanning.{tokens_at}
use Rattle.forms.specs.Window.{number_at}
use Rattle.filters.specs.Boxes.{tallest, widest}
use Rattle.filters.specs.Basic.{Weighed, rank_rule, weight_rule}
use Rattle.grammar.specs.declared.faults.Part.{Part}
use Rattle.grammar.specs.declared.faults.Part.TheVariants.{Letters, Grammar}
use Rattle.grammar.specs.declared.words.Joint.{Joint}
use Rattle.grammar.specs.declared.words.Shape.{Shape}
use Rattle.grammar.specs.declared.words.Word.{Word}
use Rattle.grammar.specs.declared.words.Word.TheVariants.{Join, After, Over, Rank, Weight}
use Rattle.grammar.specs.Words.{word_of}
use Rattle.grammar.specs.Expr.{Expr, cell, join, after, over, rank, weight, Args, last, next, shape_rule, most_rank, most_times, most_weight, most_bytes, most_deep, SpellingOf}

-- what was made, or a fault: its part, number and place
pub data Out (A : Type 0) : Type 0 where
  ok : A → Out A
  bad : Part → ℕ → ℕ → Out A

abbrev pub bind : {A B : Type 0} → Out A → (A → Out B) → Out B
bind (ok a) k = k a
bind (bad p n at) k = bad p n at

abbrev pub Toks : Type 0
Toks = List Placed

-- what was read, and the tokens behind it
pub record Read (A : Type 0) : Type 0 where
  pub got : A
  pub rest : Toks

abbrev pub read : {A : Type 0} → A → Toks → Out (Read A)
read a ts = ok (record { got = a; rest = ts })

-- a token that is not allowed there: 2 if it is none, else 3
abbrev pub refused : {A : Type 0} → Tok → ℕ → Out A
refused (word w) at = bad Grammar 3 at
refused (number z) at = bad Grammar 3 at
refused (sign s) at = bad Grammar 3 at
refused finish at = bad Grammar 3 at
refused wrong at = bad Letters 2 at

abbrev pub is_sign : Sign → Tok → Bool
is_sign s (word w) = false
is_sign s (number z) = false
is_sign s (sign t) = sign_byte s == sign_byte t
is_sign s finish = false
is_sign s wrong = false

-- a sign that has to stand next
abbrev pub sign_of : Sign → Toks → Out Toks
sign_of s [] = bad Grammar 3 0
sign_of s (t ∷ ts) = cond (is_sign s t.tok) (ok ts) (refused t.tok t.place)

-- a number from low to high
abbrev pub amount_by : ℕ → ℕ → ℤ → ℕ → Toks → Out (Read ℕ)
amount_by low high (pos n) at ts = cond (nat_le low n && nat_le n high) (read n ts) (bad Grammar 5 at)
amount_by low high (negsuc n) at ts = bad Grammar 5 at

abbrev pub amount_at : ℕ → ℕ → Tok → ℕ → Toks → Out (Read ℕ)
amount_at low high (word w) at ts = bad Grammar 3 at
amount_at low high (number z) at ts = amount_by low high z at ts
amount_at low high (sign s) at ts = bad Grammar 3 at
amount_at low high finish at ts = bad Grammar 3 at
amount_at low high wrong at ts = bad Letters 2 at

abbrev pub amount_of : ℕ → ℕ → Toks → Out (Read ℕ)
amount_of low high [] = bad Grammar 3 0
amount_of low high (t ∷ ts) = amount_at low high t.tok t.place ts

-- a number from minus the reach to the reach
abbrev pub offset_at : ℕ → Tok → ℕ → Toks → Out (Read ℤ)
offset_at reach (word w) at ts = bad Grammar 3 at
offset_at reach (number z) at ts = cond (nat_le (unsigned_abs z) reach) (read z ts) (bad Grammar 5 at)
offset_at reach (sign s) at ts = bad Grammar 3 at
offset_at reach finish at ts = bad Grammar 3 at
offset_at reach wrong at ts = bad Letters 2 at

abbrev pub offset_of : ℕ → Toks → Out (Read ℤ)
offset_of reach [] = bad Grammar 3 0
offset_of reach (t ∷ ts) = offset_at reach t.tok t.place ts

abbrev pub row_reach : ℕ
row_reach = 4

abbrev pub column_reach : ℕ
column_reach = 3

-- row,column] of a cell
unfoldable pub cell_of : Toks → Out (Read ℕ)
cell_of ts =
    bind (offset_of row_reach ts) (λ r. bind (sign_of Comma r.rest) (λ us.
    bind (offset_of column_reach us) (λ c. bind (sign_of CloseSquare c.rest) (λ vs. read (number_at r.got c.got) vs))))

-- (rows,columns of a box
unfoldable pub sides_of : Toks → Out (Read (ℕ × ℕ))
sides_of ts =
    bind (sign_of OpenRound ts) (λ us. bind (amount_of 1 tallest us) (λ h. bind (sign_of Comma h.rest) (λ vs.
    bind (amount_of 1 widest vs) (λ w. read (h.got, w.got) w.rest))))

-- a broken rule, met at the closing bracket and placed at the word
abbrev pub ruled : {A : Type 0} → ℕ → Bool → Out A → Out A
ruled at b o = cond b o (bad Grammar 7 at)

abbrev pub over_of : Shape → ℕ → Toks → Out (Read Expr)
over_of s at ts =
    bind (sides_of ts) (λ b. bind (sign_of CloseRound b.rest) (λ us.
    ruled at (shape_rule s b.got.0 b.got.1) (read (over s at b.got.0 b.got.1) us)))

abbrev pub ranked_of : ℕ → Toks → Out (Read Expr)
ranked_of at ts =
    bind (sides_of ts) (λ b. bind (sign_of Comma b.rest) (λ us.
    bind (amount_of 1 most_rank us) (λ k. bind (sign_of CloseRound k.rest) (λ vs.
    ruled at (rank_rule b.got.0 b.got.1 k.got) (read (rank at b.got.0 b.got.1 k.got) vs)))))

-- ,[row,column]*times
unfoldable pub weighed_of : Toks → Out (Read Weighed)
weighed_of ts =
    bind (sign_of Comma ts) (λ us. bind (sign_of OpenSquare us) (λ vs. bind (cell_of vs) (λ c.
    bind (sign_of Star c.rest) (λ ws. bind (amount_of 1 most_times ws) (λ m. read (record { cell = c.got; times = m.got }) m.rest)))))

abbrev pub closes : Toks → Bool
closes [] = false
closes (t ∷ ts) = is_sign CloseRound t.tok

-- weighed cells and the closing bracket; the first argument bounds their count
unfoldable pub weights_of : ℕ → Toks → Out (Read (List Weighed))
weights_of zero ts = bad Grammar 3 0
weights_of (suc n) ts =
    bind (weighed_of ts) (λ x. cond (closes x.rest) (read (x.got ∷ []) (drop 1 x.rest))
    (bind (weights_of n x.rest) (λ xs. read (x.got ∷ xs.got) xs.rest)))

abbrev pub weighted_of : ℕ → Toks → Out (Read Expr)
weighted_of at ts =
    bind (sign_of OpenRound ts) (λ us. bind (amount_of 1 most_weight us) (λ k. bind (weights_of (length us) k.rest) (λ xs.
    ruled at (weight_rule k.got xs.got) (read (weight at k.got xs.got) xs.rest))))

-- ,expression for each further argument, and the closing bracket; the first argument bounds their count
unfoldable pub args_of : ℕ → (Toks → Out (Read Expr)) → Toks → Out (Read Args)
args_of zero one ts = bad Grammar 3 0
args_of (suc n) one ts =
    bind (sign_of Comma ts) (λ us. bind (one us) (λ e. cond (closes e.rest) (read (last e.got) (drop 1 e.rest))
    (bind (args_of n one e.rest) (λ es. read (next e.got es.got) es.rest))))

abbrev pub joined_of : (Toks → Out (Read Expr)) → Joint → ℕ → Toks → Out (Read Expr)
joined_of one j at ts =
    bind (sign_of OpenRound ts) (λ us. bind (one us) (λ e. bind (args_of (length us) one e.rest) (λ es.
    read (join j at e.got es.got) es.rest)))

abbrev pub composed_of : (Toks → Out (Read Expr)) → ℕ → Toks → Out (Read Expr)
composed_of one at ts =
    bind (sign_of OpenRound ts) (λ us. bind (one us) (λ e. bind (sign_of Comma e.rest) (λ vs.
    bind (one vs) (λ f. bind (sign_of CloseRound f.rest) (λ ws. read (after at e.got f.got) ws)))))

abbrev pub call_of : (Toks → Out (Read Expr)) → Word → ℕ → Toks → Out (Read Expr)
call_of one (Join j) at ts = joined_of one j at ts
call_of one After at ts = composed_of one at ts
call_of one (Over s) at ts = over_of s at ts
call_of one Rank at ts = ranked_of at ts
call_of one Weight at ts = weighted_of at ts

-- how the arguments of a call are read, unless calls nest too deep there
pub data Room : Type 0 where
  full : Room
  room : (Toks → Out (Read Expr)) → Room

abbrev pub called_of : Room → Option Word → ℕ → Toks → Out (Read Expr)
called_of full None at ts = bad Grammar 4 at
called_of full (Some w) at ts = bad Grammar 6 at
called_of (room one) None at ts = bad Grammar 4 at
called_of (room one) (Some w) at ts = call_of one w at ts

abbrev pub expr_at : Room → Tok → ℕ → Toks → Out (Read Expr)
expr_at m (word w) at ts = called_of m (word_of w) at ts
expr_at m (number z) at ts = bad Grammar 3 at
expr_at m (sign s) at ts = cond (is_sign OpenSquare (sign s)) (bind (cell_of ts) (λ c. read (cell c.got) c.rest)) (bad Grammar 3 at)
expr_at m finish at ts = bad Grammar 3 at
expr_at m wrong at ts = bad Letters 2 at

abbrev pub expr_in : Room → Toks → Out (Read Expr)
expr_in m [] = bad Grammar 3 0
expr_in m (t ∷ ts) = expr_at m t.tok t.place ts

-- an expression whose calls nest at most d deep
unfoldable pub expr_of : ℕ → Toks → Out (Read Expr)
expr_of zero ts = expr_in full ts
expr_of (suc d) ts = expr_in (room (expr_of d)) ts

-- the end of the text
abbrev pub is_finish : Tok → Bool
is_finish (word w) = false
is_finish (number z) = false
is_finish (sign s) = false
is_finish finish = true
is_finish wrong = false

abbrev pub end_of : {A : Type 0} → A → Toks → Out A
end_of a [] = bad Grammar 3 0
end_of a (t ∷ ts) = cond (is_finish t.tok) (ok a) (refused t.tok t.place)

-- the expression of a whole text
unfoldable pub parse : List ℕ → Out Expr
parse text =
    cond (nat_le (length text) most_bytes)
    (bind (expr_of most_deep (tokens_at text 0)) (λ r. end_of r.got r.rest))
    (bad Grammar 1 most_bytes)

-- a text is read as an expression exactly when it is a spelling of it within the rules; so the expression is the only one
pub record ReadsSpellings (text : List ℕ) : Type 0 where
  pub accepts : (e : Expr) → SpellingOf text e → parse text ≡ ok e
  pub sound : (e : Expr) → parse text ≡ ok e → SpellingOf text e
  pub unique : (e f : Expr) → SpellingOf text e → SpellingOf text f → e ≡ f
