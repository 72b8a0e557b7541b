-- The reading accepts a text exactly when it is a spelling of an expression within the rules.
use Rattle.std.proofs.Common.{◌≡◌, ℕ, zero, suc, ◌+◌, ◌-◌, ◌<◌, ◌≤◌, Bool, true, false, cond, eqb, leb, List, [], ◌∷◌, ◌++◌, map, length, drop, pos, Some, None, Option, sym, refl, ap, ◌∙◌, subst, arith}
use Rattle.std.proofs.lemmas.Bool.{leb-true, eqb-true, le-leb, cond-true, cond-false}
use Rattle.std.specs.List.{prefix_len}
use Rattle.letters.specs.declared.tokens.Sign.{Sign}
use Rattle.letters.specs.declared.tokens.Sign.TheVariants.{OpenSquare, OpenRound, CloseRound, Comma}
use Rattle.letters.specs.Bytes.{blank, sign_byte}
use Rattle.letters.specs.Tokens.{Tok, word, number, sign, finish, wrong, Placed}
use Rattle.letters.specs.Scanning.{Cut, cut_of, onward, tokens_by, tokens_at}
use Rattle.letters.proofs.Spelling.{spelled_only, spelled_is}
use Rattle.filters.specs.Basic.{Weighed, rank_rule, weight_rule}
use Rattle.grammar.specs.declared.faults.Part.TheVariants.{Grammar}
use Rattle.grammar.specs.declared.words.Joint.{Joint}
use Rattle.grammar.specs.declared.words.Shape.{Shape}
use Rattle.grammar.specs.declared.words.Word.{Word}
use Rattle.grammar.specs.declared.words.Word.TheVariants.{Join, After, Over, Rank, Weight}
use Rattle.grammar.specs.Words.{letters_of, word_of}
use Rattle.grammar.specs.Expr.{Expr, cell, join, after, over, rank, weight, Args, last, next, Writes, Ruled, RuledArgs, Nests, NestsArgs, shape_rule, most_rank, most_weight, most_bytes, most_deep, cell_tokens, weight_tokens, SpellingOf}
use Rattle.grammar.specs.Reading.{Out, ok, bad, bind, Toks, Read, read, refused, sign_of, amount_of, cell_of, sides_of, over_of, ranked_of, weighted_of, weights_of, closes, ruled, args_of, joined_of, composed_of, call_of, Room, full, room, called_of, expr_at, expr_in, expr_of, is_finish, end_of, parse, ReadsSpellings}
use Rattle.grammar.proofs.WordLetters.{word_letters, letters_word}
use Rattle.grammar.proofs.Fronts.{Front, front_append, front_split, front_length, plain, called, marked, marked_args, writes_front, front_writes}
use Rattle.grammar.proofs.LeafFronts.{Gives, then, if, on, on_read, read_none, same_sign, sign_gives, sign_read, Amount, amount_gives, amount_read, Celled, cell_gives, cell_read, Sided, sides_gives, sides_read, Weights, weights_gives, weights_read, closes_front, front_closes, front_goes}

-- ---- what is read is such a front, within the rules
abbrev Good : ℕ → Toks → Read Expr → Type 0
Good d ts r = Front (marked r.got) ts r.rest × Ruled r.got × Nests r.got d

abbrev GoodArgs : ℕ → Toks → Read Args → Type 0
GoodArgs d ts r = Front (marked_args r.got) ts r.rest × RuledArgs r.got × NestsArgs r.got d

-- calls, read behind their word
module _ (d at : ℕ) (l : 0 < d) (ts us : Toks) where
  over_gives : (s : Shape) → Front (called at (Over s) ∷ []) ts us → Gives (Good d ts) (over_of s at us)
  unfolding marked Ruled Nests
  over_gives s f =
      then (Sided us) (Good d ts) (sides_of us) _ (sides_gives us) (λ b g.
      then (λ vs. Front (plain (sign CloseRound) ∷ []) b.rest vs) (Good d ts) (sign_of CloseRound b.rest) _ (sign_gives CloseRound b.rest) (λ vs h.
      if (Good d ts) (shape_rule s b.got.0 b.got.1) (read (over s at b.got.0 b.got.1) vs) (bad Grammar 7 at)
      (λ e. (front_append (called at (Over s) ∷ []) _ ts us vs f (front_append (map plain (sign OpenRound ∷ number (pos b.got.0) ∷ sign Comma ∷ number (pos b.got.1) ∷ [])) _ us b.rest vs g.0 h), (g.1, e), l))
      (λ _. tt)))

  rank_gives : Front (called at Rank ∷ []) ts us → Gives (Good d ts) (ranked_of at us)
  unfolding marked Ruled Nests
  rank_gives f =
      then (Sided us) (Good d ts) (sides_of us) _ (sides_gives us) (λ b g.
      then (λ vs. Front (plain (sign Comma) ∷ []) b.rest vs) (Good d ts) (sign_of Comma b.rest) _ (sign_gives Comma b.rest) (λ vs h.
      then (Amount 1 most_rank vs) (Good d ts) (amount_of 1 most_rank vs) _ (amount_gives 1 most_rank vs) (λ k i.
      then (λ ws. Front (plain (sign CloseRound) ∷ []) k.rest ws) (Good d ts) (sign_of CloseRound k.rest) _ (sign_gives CloseRound k.rest) (λ ws j.
      if (Good d ts) (rank_rule b.got.0 b.got.1 k.got) (read (rank at b.got.0 b.got.1 k.got) ws) (bad Grammar 7 at)
      (λ e. (
        front_append (called at Rank ∷ []) _ ts us ws f (front_append (map plain (sign OpenRound ∷ number (pos b.got.0) ∷ sign Comma ∷ number (pos b.got.1) ∷ [])) _ us b.rest ws g.0
            (front_append (plain (sign Comma) ∷ []) _ b.rest vs ws h (front_append (plain (number (pos k.got)) ∷ []) _ vs k.rest ws i.0 j))),
        (g.1, i.1, i.2, e),
        l,
      ))
      (λ _. tt)))))

  weight_gives : Front (called at Weight ∷ []) ts us → Gives (Good d ts) (weighted_of at us)
  unfolding marked Ruled Nests
  weight_gives f =
      then (λ vs. Front (plain (sign OpenRound) ∷ []) us vs) (Good d ts) (sign_of OpenRound us) _ (sign_gives OpenRound us) (λ vs g.
      then (Amount 1 most_weight vs) (Good d ts) (amount_of 1 most_weight vs) _ (amount_gives 1 most_weight vs) (λ k h.
      then (Weights k.rest) (Good d ts) (weights_of (length vs) k.rest) _ (weights_gives (length vs) k.rest) (λ xs i.
      if (Good d ts) (weight_rule k.got xs.got) (read (weight at k.got xs.got) xs.rest) (bad Grammar 7 at)
      (λ e. (
        front_append (called at Weight ∷ []) _ ts us xs.rest f (front_append (plain (sign OpenRound) ∷ []) _ us vs xs.rest g
            (front_append (plain (number (pos k.got)) ∷ []) _ vs k.rest xs.rest h.0 i.0)),
        (h.1, h.2, i.2, i.1, e),
        l,
      ))
      (λ _. tt))))

-- a reader of expressions whose calls nest at most d deep
abbrev Reads : ℕ → (Toks → Out (Read Expr)) → Type 0
Reads d one = (ts : Toks) → Gives (Good d ts) (one ts)

module _ (d : ℕ) (one : Toks → Out (Read Expr)) (o : Reads d one) where
  args_gives : (n : ℕ) (ts : Toks) → Gives (GoodArgs d ts) (args_of n one ts)
  unfolding args_of marked Ruled Nests
  args_gives zero ts = tt
  args_gives (suc n) ts =
      then (λ us. Front (plain (sign Comma) ∷ []) ts us) (GoodArgs d ts) (sign_of Comma ts) _ (sign_gives Comma ts) (λ us f.
      then (Good d us) (GoodArgs d ts) (one us) _ (o us) (λ e g.
      if (GoodArgs d ts) (closes e.rest) (read (last e.got) (drop 1 e.rest)) _
      (λ c. (front_append (plain (sign Comma) ∷ []) _ ts us (drop 1 e.rest) f (front_append (marked e.got) _ us e.rest (drop 1 e.rest) g.0 (closes_front e.rest c)), g.1, g.2))
      (λ _. then (GoodArgs d e.rest) (GoodArgs d ts) (args_of n one e.rest) _ (args_gives n e.rest) (λ es h.
      (front_append (plain (sign Comma) ∷ []) _ ts us es.rest f (front_append (marked e.got) _ us e.rest es.rest g.0 h.0), (g.1, h.1), (g.2, h.2))))))

module _ (d at : ℕ) (l : 0 < d) (one : Toks → Out (Read Expr)) (o : Reads (d - 1) one) (ts us : Toks) where
  join_gives : (j : Joint) → Front (called at (Join j) ∷ []) ts us → Gives (Good d ts) (joined_of one j at us)
  unfolding marked Ruled Nests
  join_gives j f =
      then (λ vs. Front (plain (sign OpenRound) ∷ []) us vs) (Good d ts) (sign_of OpenRound us) _ (sign_gives OpenRound us) (λ vs g.
      then (Good (d - 1) vs) (Good d ts) (one vs) _ (o vs) (λ e h.
      then (GoodArgs (d - 1) e.rest) (Good d ts) (args_of (length vs) one e.rest) _ (args_gives (d - 1) one o (length vs) e.rest) (λ es i. (
        front_append (called at (Join j) ∷ []) _ ts us es.rest f (front_append (plain (sign OpenRound) ∷ []) _ us vs es.rest g
            (front_append (marked e.got) _ vs e.rest es.rest h.0 i.0)),
        (h.1, i.1),
        (l, h.2, i.2),
      ))))

  after_gives : Front (called at After ∷ []) ts us → Gives (Good d ts) (composed_of one at us)
  unfolding marked Ruled Nests
  after_gives f =
      then (λ vs. Front (plain (sign OpenRound) ∷ []) us vs) (Good d ts) (sign_of OpenRound us) _ (sign_gives OpenRound us) (λ vs g.
      then (Good (d - 1) vs) (Good d ts) (one vs) _ (o vs) (λ e h.
      then (λ ws. Front (plain (sign Comma) ∷ []) e.rest ws) (Good d ts) (sign_of Comma e.rest) _ (sign_gives Comma e.rest) (λ ws i.
      then (Good (d - 1) ws) (Good d ts) (one ws) _ (o ws) (λ b j.
      then (λ xs. Front (plain (sign CloseRound) ∷ []) b.rest xs) (Good d ts) (sign_of CloseRound b.rest) _ (sign_gives CloseRound b.rest) (λ xs k. (
        front_append (called at After ∷ []) _ ts us xs f (front_append (plain (sign OpenRound) ∷ []) _ us vs xs g
            (front_append (marked e.got) _ vs e.rest xs h.0 (front_append (plain (sign Comma) ∷ []) _ e.rest ws xs i
            (front_append (marked b.got) _ ws b.rest xs j.0 k)))),
        (h.1, j.1),
        (l, h.2, j.2),
      ))))))

  call_gives : (w : Word) → Front (called at w ∷ []) ts us → Gives (Good d ts) (call_of one w at us)
  call_gives (Join j) f = join_gives j f
  call_gives After f = after_gives f
  call_gives (Over s) f = over_gives d at l ts us s f
  call_gives Rank f = rank_gives d at l ts us f
  call_gives Weight f = weight_gives d at l ts us f

-- where a call fits, its arguments have one level less
abbrev Holds : ℕ → Room → Type 0
Holds d full = Unit {0}
Holds d (room one) = (0 < d) × Reads (d - 1) one

called_gives : (d : ℕ) (m : Room) → Holds d m → (w : List ℕ) (at : ℕ) (us : Toks) → Gives (Good d (record { place = at; tok = word w } ∷ us)) (called_of m (word_of w) at us)
unfolding Front
called_gives d m h w at us = go m h (word_of w) refl
  where
    go : (m : Room) → Holds d m → (o : Option Word) → word_of w ≡ o → Gives (Good d (record { place = at; tok = word w } ∷ us)) (called_of m o at us)
    go full h None e = tt
    go full h (Some v) e = tt
    go (room one) h None e = tt
    go (room one) h (Some v) e =
        call_gives d at h.0 one h.1 (record { place = at; tok = word w } ∷ us) us v
        (at, us, ap (λ (z : List ℕ). record { place = at; tok = word z } ∷ us) (letters_word w v e), refl, refl)

open_square : (s : Sign) (at : ℕ) (us : Toks) → eqb (sign_byte OpenSquare) (sign_byte s) ≡ true → Front (plain (sign OpenSquare) ∷ []) (record { place = at; tok = sign s } ∷ us) us
unfolding Front
open_square s at us e = (at, us, ap (λ (z : Sign). record { place = at; tok = sign z } ∷ us) (sym (same_sign OpenSquare s (eqb-true (sign_byte OpenSquare) (sign_byte s) e))), tt, refl)

square_gives : (d : ℕ) (s : Sign) (at : ℕ) (us : Toks) → eqb (sign_byte OpenSquare) (sign_byte s) ≡ true → Gives (Good d (record { place = at; tok = sign s } ∷ us)) (bind (cell_of us) (λ c. read (cell c.got) c.rest))
unfolding marked Ruled Nests
square_gives d s at us e =
    then (Celled us) (Good d (record { place = at; tok = sign s } ∷ us)) (cell_of us) _ (cell_gives us) (λ c f.
    (front_append (plain (sign OpenSquare) ∷ []) _ _ us c.rest (open_square s at us e) f.0, f.1, tt))

in_gives : (d : ℕ) (m : Room) → Holds d m → (ts : Toks) → Gives (Good d ts) (expr_in m ts)
in_gives d m h [] = tt
in_gives d m h (t ∷ us) = go t.tok t.place
  where
    go : (k : Tok) (at : ℕ) → Gives (Good d (record { place = at; tok = k } ∷ us)) (expr_at m k at us)
    go (word w) at = called_gives d m h w at us
    go (number z) at = tt
    go (sign s) at = if (Good d (record { place = at; tok = sign s } ∷ us)) (eqb (sign_byte OpenSquare) (sign_byte s)) _ (bad Grammar 3 at) (square_gives d s at us) (λ _. tt)
    go finish at = tt
    go wrong at = tt

expr_gives : (d : ℕ) → Reads d (expr_of d)
unfolding expr_of
expr_gives zero ts = in_gives zero full tt ts
expr_gives (suc d) ts = in_gives (suc d) (room (expr_of d)) (omega arith, subst (λ (n : ℕ). Reads n (expr_of d)) (omega arith) (expr_gives d)) ts

expr_good : (d : ℕ) (ts : Toks) (e : Expr) (rest : Toks) → expr_of d ts ≡ ok (record { got = e; rest = rest }) → Good d ts (record { got = e; rest = rest })
expr_good d ts e rest p = subst (Gives (Good d ts)) p (expr_gives d ts)

marked_some : (e : Expr) → 0 < length (marked e)
unfolding marked
marked_some (cell n) = omega arith
marked_some (join j at e es) = omega arith
marked_some (after at e f) = omega arith
marked_some (over s at h w) = omega arith
marked_some (rank at h w k) = omega arith
marked_some (weight at k xs) = omega arith

-- fewer tokens are left
pub expr_fewer : (d : ℕ) (ts : Toks) (e : Expr) (rest : Toks) → expr_of d ts ≡ ok (record { got = e; rest = rest }) → length rest < length ts
expr_fewer d ts e rest p = omega (arith, marked_some e, front_length (marked e) ts rest (expr_good d ts e rest p).0)

-- ---- such a front, within the rules, is read
down : (P : ℕ → Type 0) (d : ℕ) → P (suc d - 1) → P d
down P d h = subst P (omega arith) h

abbrev IsRead : ℕ → Expr → Type 0
IsRead d e = (ts rest : Toks) → Front (marked e) ts rest → expr_of d ts ≡ read e rest

-- the first number of `args_of` is large enough
abbrev ArgsRead : ℕ → Args → Type 0
ArgsRead d es = (n : ℕ) (ts rest : Toks) → length ts ≤ n → Front (marked_args es) ts rest → args_of n (expr_of d) ts ≡ read es rest

cell_in : (m : Room) (n : ℕ) (ts rest : Toks) → n < 63 → Front (map plain (cell_tokens n)) ts rest → expr_in m ts ≡ read (cell n) rest
unfolding Front
cell_in m n ts rest l f =
    let us : Toks = f.1 in
    let (vs, p, g) = cell_read n [] us rest l f.4 in
    ap (expr_in m) f.2 ∙ on_read (cell_of us) n vs _ _ p (read_none (cell n) vs rest g)

cell_is_read : (n d : ℕ) → n < 63 → IsRead d (cell n)
unfolding marked expr_of
cell_is_read n zero l ts rest f = cell_in full n ts rest l f
cell_is_read n (suc d) l ts rest f = cell_in (room (expr_of d)) n ts rest l f

-- a word and what stands behind it
call_read : (d at : ℕ) (w : Word) (ms : List Placed) (ts rest : Toks) → Front (called at w ∷ ms) ts rest → (us : Toks) × (expr_of (suc d) ts ≡ call_of (expr_of d) w at us) × Front ms us rest
unfolding Front expr_of
call_read d at w ms ts rest f =
    let us : Toks = f.1 in
    (us, ap (expr_in (room (expr_of d))) (f.2 ∙ ap (λ (i : ℕ). record { place = i; tok = word (letters_of w) } ∷ us) f.3) ∙ ap (λ (o : Option Word). called_of (room (expr_of d)) o at us) (word_letters w), f.4)

ruled_is : {A : Type 0} (at : ℕ) (b : Bool) (o x : Out A) → b ≡ true → o ≡ x → ruled at b o ≡ x
ruled_is at b o x e f = cond-true b o (bad Grammar 7 at) e ∙ f

over_is_read : (s : Shape) (at h w d : ℕ) → Ruled (over s at h w) → IsRead (suc d) (over s at h w)
unfolding marked Ruled
over_is_read s at h w d r ts rest f =
    let (us, p, g) = call_read d at (Over s) _ ts rest f in
    let (vs, q, i) = sides_read h w (plain (sign CloseRound) ∷ []) us rest r.0 g in
    let (ws, t, j) = sign_read CloseRound [] vs rest i in
    p ∙ on_read (sides_of us) (h, w) vs _ _ q (on (sign_of CloseRound vs) ws _ _ t (ruled_is at (shape_rule s h w) (read (over s at h w) ws) _ r.1 (read_none (over s at h w) ws rest j)))

rank_is_read : (at h w k d : ℕ) → Ruled (rank at h w k) → IsRead (suc d) (rank at h w k)
unfolding marked Ruled
rank_is_read at h w k d r ts rest f =
    let (us, p, g) = call_read d at Rank _ ts rest f in
    let (vs, q, i) = sides_read h w (map plain (sign Comma ∷ number (pos k) ∷ sign CloseRound ∷ [])) us rest r.0 g in
    let (ws, t, j) = sign_read Comma (map plain (number (pos k) ∷ sign CloseRound ∷ [])) vs rest i in
    let (xs, u, l) = amount_read 1 most_rank k (plain (sign CloseRound) ∷ []) ws rest r.1 r.2 j in
    let (ys, v, m) = sign_read CloseRound [] xs rest l in
    p ∙ on_read (sides_of us) (h, w) vs _ _ q (on (sign_of Comma vs) ws _ _ t (on_read (amount_of 1 most_rank ws) k xs _ _ u (on (sign_of CloseRound xs) ys _ _ v
    (ruled_is at (rank_rule h w k) (read (rank at h w k) ys) _ r.3 (read_none (rank at h w k) ys rest m)))))

weight_is_read : (at k : ℕ) (xs : List Weighed) (d : ℕ) → Ruled (weight at k xs) → IsRead (suc d) (weight at k xs)
unfolding marked Ruled
weight_is_read at k xs d r ts rest f =
    let (us, p, g) = call_read d at Weight _ ts rest f in
    let (vs, q, i) = sign_read OpenRound (map plain (number (pos k) ∷ weight_tokens xs)) us rest g in
    let (ws, t, j) = amount_read 1 most_weight k (map plain (weight_tokens xs)) vs rest r.0 r.1 i in
    let l : length ws ≤ length vs = omega (arith, front_length _ vs rest i, front_length _ ws rest j) in
    p ∙ on (sign_of OpenRound us) vs _ _ q (on_read (amount_of 1 most_weight vs) k ws _ _ t
    (on_read (weights_of (length vs) ws) xs rest _ _ (weights_read xs (length vs) ws rest l r.2 r.3 j) (ruled_is at (weight_rule k xs) _ _ r.4 refl)))

after_is_read : (at : ℕ) (e b : Expr) (d : ℕ) → IsRead d e → IsRead d b → IsRead (suc d) (after at e b)
unfolding marked
after_is_read at e b d x y ts rest f =
    let (us, p, g) = call_read d at After _ ts rest f in
    let (vs, q, h) = sign_read OpenRound (marked e ++ (plain (sign Comma) ∷ (marked b ++ (plain (sign CloseRound) ∷ [])))) us rest g in
    let (ws, i, j) = front_split (marked e) (plain (sign Comma) ∷ (marked b ++ (plain (sign CloseRound) ∷ []))) vs rest h in
    let (xs, r, k) = sign_read Comma (marked b ++ (plain (sign CloseRound) ∷ [])) ws rest j in
    let (ys, l, m) = front_split (marked b) (plain (sign CloseRound) ∷ []) xs rest k in
    let (zs, s, n) = sign_read CloseRound [] ys rest m in
    p ∙ on (sign_of OpenRound us) vs _ _ q (on_read (expr_of d vs) e ws _ _ (x vs ws i) (on (sign_of Comma ws) xs _ _ r
    (on_read (expr_of d xs) b ys _ _ (y xs ys l) (on (sign_of CloseRound ys) zs _ _ s (read_none (after at e b) zs rest n)))))

join_is_read : (j : Joint) (at : ℕ) (e : Expr) (es : Args) (d : ℕ) → IsRead d e → ArgsRead d es → IsRead (suc d) (join j at e es)
unfolding marked
join_is_read j at e es d x y ts rest f =
    let (us, p, g) = call_read d at (Join j) _ ts rest f in
    let (vs, q, h) = sign_read OpenRound (marked e ++ marked_args es) us rest g in
    let (ws, i, k) = front_split (marked e) (marked_args es) vs rest h in
    let l : length ws ≤ length vs = omega (arith, front_length (marked e) vs ws i) in
    p ∙ on (sign_of OpenRound us) vs _ _ q (on_read (expr_of d vs) e ws _ _ (x vs ws i) (on_read (args_of (length vs) (expr_of d) ws) es rest _ _ (y (length vs) ws rest l k) refl))

last_is_read : (e : Expr) (d : ℕ) → IsRead d e → ArgsRead d (last e)
unfolding marked args_of
last_is_read e d x zero ts rest l f = absurd (omega (arith, front_length _ ts rest f))
last_is_read e d x (suc n) ts rest l f =
    let (us, p, g) = sign_read Comma (marked e ++ (plain (sign CloseRound) ∷ [])) ts rest f in
    let (vs, i, j) = front_split (marked e) (plain (sign CloseRound) ∷ []) us rest g in
    let (c, k) = front_closes vs rest j in
    on (sign_of Comma ts) us _ _ p (on_read (expr_of d us) e vs _ _ (x us vs i) (cond-true (closes vs) _ _ c ∙ ap (read (last e)) k))

args_go : (es : Args) (ts rest : Toks) → Front (marked_args es) ts rest → closes ts ≡ false
unfolding marked
args_go (last e) ts rest f = front_goes _ ts rest f
args_go (next e es) ts rest f = front_goes _ ts rest f

next_is_read : (e : Expr) (es : Args) (d : ℕ) → IsRead d e → ArgsRead d es → ArgsRead d (next e es)
unfolding marked args_of
next_is_read e es d x y zero ts rest l f = absurd (omega (arith, front_length _ ts rest f))
next_is_read e es d x y (suc n) ts rest l f =
    let (us, p, g) = sign_read Comma (marked e ++ marked_args es) ts rest f in
    let (vs, i, j) = front_split (marked e) (marked_args es) us rest g in
    let m : length vs ≤ n = omega (arith, front_length _ ts rest f, front_length _ us rest g, front_length (marked e) us vs i) in
    on (sign_of Comma ts) us _ _ p (on_read (expr_of d us) e vs _ _ (x us vs i) (cond-false (closes vs) _ _ (args_go es vs rest j)
    ∙ on_read (args_of n (expr_of d) vs) es rest _ _ (y n vs rest m j) refl))

mutual
  unfolding Ruled Nests

  is_read : (e : Expr) (d : ℕ) → Ruled e → Nests e d → IsRead d e
  is_read (cell n) d r q = cell_is_read n d r
  is_read (join j at e es) zero r q = absurd (omega arith)
  is_read (join j at e es) (suc d) r q = join_is_read j at e es d (is_read e d r.0 (down (Nests e) d q.1)) (args_are_read es d r.1 (down (NestsArgs es) d q.2))
  is_read (after at e b) zero r q = absurd (omega arith)
  is_read (after at e b) (suc d) r q = after_is_read at e b d (is_read e d r.0 (down (Nests e) d q.1)) (is_read b d r.1 (down (Nests b) d q.2))
  is_read (over s at h w) zero r q = absurd (omega arith)
  is_read (over s at h w) (suc d) r q = over_is_read s at h w d r
  is_read (rank at h w k) zero r q = absurd (omega arith)
  is_read (rank at h w k) (suc d) r q = rank_is_read at h w k d r
  is_read (weight at k xs) zero r q = absurd (omega arith)
  is_read (weight at k xs) (suc d) r q = weight_is_read at k xs d r

  args_are_read : (es : Args) (d : ℕ) → RuledArgs es → NestsArgs es d → ArgsRead d es
  args_are_read (last e) d r q = last_is_read e d (is_read e d r q)
  args_are_read (next e es) d r q = next_is_read e es d (is_read e d r.0 q.0) (args_are_read es d r.1 q.1)

-- tokens that write an expression within the rules are read as it, whatever stands behind them
pub expr_read : (e : Expr) (d : ℕ) (ps : List Placed) (rest : Toks) → Writes e ps → Ruled e → Nests e d → expr_of d (ps ++ rest) ≡ ok (record { got = e; rest = rest })
expr_read e d ps rest w r n = is_read e d r n (ps ++ rest) rest (writes_front e ps rest w)

-- ---- whole texts
not_none : (ps : List Placed) (t : Placed) (us : List Placed) → [] ≡ ps ++ (t ∷ us) → ⊥
not_none [] t us e = let z : ◌≡◌ {A = ℕ} 0 1 = cc in omega arith
not_none (p ∷ ps) t us e = let z : ◌≡◌ {A = ℕ} 0 1 = cc in omega arith

onward_some : (k : Tok) (rest ps : List Placed) (t : Placed) (us : List Placed) → onward k rest ≡ ps ++ (t ∷ us) → rest ≡ ps ++ (t ∷ us)
onward_some (word w) rest ps t us e = e
onward_some (number z) rest ps t us e = e
onward_some (sign s) rest ps t us e = e
onward_some finish rest ps t us e = absurd (not_none ps t us e)
onward_some wrong rest ps t us e = absurd (not_none ps t us e)

-- no token stands behind the end
end_last : (n at : ℕ) (bs : List ℕ) (ps : List Placed) (p : ℕ) (us : List Placed) → tokens_by n at bs ≡ ps ++ (record { place = p; tok = finish } ∷ us) → us ≡ []
unfolding tokens_by
end_last zero at bs ps p us e = absurd (not_none ps _ us e)
end_last (suc n) at bs [] p us e =
    let c : Cut = cut_of (drop (prefix_len blank bs) bs) in
    let h : ◌≡◌ {A = Placed} (record { place = at + prefix_len blank bs; tok = c.tok }) (record { place = p; tok = finish }) = cc in
    let t : onward c.tok (tokens_by n (at + prefix_len blank bs + c.size) (drop (prefix_len blank bs + c.size) bs)) ≡ us = cc in
    sym t ∙ ap (λ (q : Placed). onward q.tok (tokens_by n (at + prefix_len blank bs + c.size) (drop (prefix_len blank bs + c.size) bs))) h
end_last (suc n) at bs (q ∷ ps) p us e =
    let c : Cut = cut_of (drop (prefix_len blank bs) bs) in
    let rest : List Placed = tokens_by n (at + prefix_len blank bs + c.size) (drop (prefix_len blank bs + c.size) bs) in
    let t : onward c.tok rest ≡ ps ++ (record { place = p; tok = finish } ∷ us) = cc in
    end_last n (at + prefix_len blank bs + c.size) (drop (prefix_len blank bs + c.size) bs) ps p us (onward_some c.tok rest ps _ us t)

end_gives : (text : List ℕ) (e : Expr) (rest : Toks) → length text ≤ most_bytes → Good most_deep (tokens_at text 0) (record { got = e; rest = rest }) → Gives (SpellingOf text) (end_of e rest)
unfolding tokens_at
end_gives text e [] l g = tt
end_gives text e (t ∷ us) l g = go t.tok t.place (front_writes e (tokens_at text 0) (t ∷ us) g.0)
  where
    tail : (at : ℕ) (ps : List Placed) → tokens_at text 0 ≡ ps ++ (record { place = at; tok = finish } ∷ us) → us ≡ []
    tail at ps q = end_last (suc (length text)) 0 (drop 0 text) ps at us q

    go : (k : Tok) (at : ℕ) → (ps : List Placed) × (tokens_at text 0 ≡ ps ++ (record { place = at; tok = k } ∷ us)) × Writes e ps
        → Gives (SpellingOf text) (cond (is_finish k) (ok e) (refused k at))
    go (word w) at f = tt
    go (number z) at f = tt
    go (sign s) at f = tt
    go finish at f =
        let (ps, q, w) = f in
        let (s, i) = spelled_is text ps at (q ∙ ap (λ (z : List Placed). ps ++ (record { place = at; tok = finish } ∷ z)) (tail at ps q)) in
        record { short = l; tokens = (ps, s, w); ruled = g.1; nests = g.2 }
    go wrong at f = tt

parse_gives : (text : List ℕ) → Gives (SpellingOf text) (parse text)
unfolding parse
parse_gives text =
    if (SpellingOf text) (leb (length text) most_bytes) _ (bad Grammar 1 most_bytes)
    (λ l. then (Good most_deep (tokens_at text 0)) (SpellingOf text) (expr_of most_deep (tokens_at text 0)) _ (expr_gives most_deep (tokens_at text 0))
    (λ r g. end_gives text r.got r.rest (leb-true (length text) most_bytes l) g)) (λ _. tt)

parse_spelling : (text : List ℕ) (e : Expr) → SpellingOf text e → parse text ≡ ok e
unfolding parse
parse_spelling text e s =
    let (ps, p, w) = s.tokens in
    let end : Toks = record { place = length text; tok = finish } ∷ [] in
    let q : expr_of most_deep (tokens_at text 0) ≡ read e end = ap (expr_of most_deep) (spelled_only text ps p) ∙ expr_read e most_deep ps end w s.ruled s.nests in
    cond-true (leb (length text) most_bytes) _ (bad Grammar 1 most_bytes) (le-leb (length text) most_bytes s.short) ∙ on_read (expr_of most_deep (tokens_at text 0)) e end _ _ q refl

pub reads_spellings : (text : List ℕ) → ReadsSpellings text
reads_spellings text = record {
  accepts = parse_spelling text;
  sound = λ e p. subst (Gives (SpellingOf text)) p (parse_gives text);
  unique = λ e f s t. let p = parse_spelling text e s in let q = parse_spelling text f t in cc;
}
