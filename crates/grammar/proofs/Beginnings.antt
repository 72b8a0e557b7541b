-- How an expression is read by its first token.
use Rattle.std.proofs.Common.{◌≡◌, ℕ, zero, suc, ◌-◌, ◌<◌, Bool, true, false, cond, [], ◌∷◌, Some, None, Ok, Err, Option, Result, sym, refl, ap, ◌∙◌, arith, ne_eqb}
use Rattle.letters.specs.declared.tokens.Sign.TheVariants.{OpenSquare}
use Rattle.letters.specs.Tokens.{Tok, word, number, sign, finish, wrong}
use Rattle.grammar.specs.declared.faults.Part.TheVariants.{Grammar}
use Rattle.grammar.specs.declared.faults.ReadFault.{ReadFault}
use Rattle.grammar.specs.declared.starts.Start.{Start}
use Rattle.grammar.specs.declared.starts.Start.TheVariants.{Cell, Call}
use Rattle.grammar.specs.declared.words.Word.{Word as Head}
use Rattle.grammar.specs.Words.{word_of}
use Rattle.grammar.specs.Expr.{Expr, cell}
use Rattle.grammar.specs.Reading.{Out, ok, bad, bind, Toks, Read, read, is_sign, cell_of, Room, full, room, call_of, called_of, expr_at, expr_in, expr_of}
use Rattle.grammar.specs.Starts.{Begun, at_cell, at_call, begin_call, begin_at, begin_of, Begins, Continues}

abbrev pub room_of : ℕ → Room
room_of zero = full
room_of (suc d) = room (expr_of d)

pub expr_in_lem : (d : ℕ) (ts : Toks) → expr_of d ts ≡ expr_in (room_of d) ts
unfolding expr_of
expr_in_lem zero ts = refl
expr_in_lem (suc d) ts = refl

-- what is read behind the beginning
abbrev pub go_on : ℕ → Out Begun → Out (Read Expr)
go_on d (ok (at_cell us)) = bind (cell_of us) (λ c. read (cell c.got) c.rest)
go_on d (ok (at_call w place us)) = call_of (expr_of (d - 1)) w place us
go_on d (bad p n place) = bad p n place

called : (d : ℕ) (o : Option Head) (place : ℕ) (us : Toks) → called_of (room_of d) o place us ≡ go_on d (begin_call d o place us)
called zero None place us = refl
called zero (Some w) place us = refl
called (suc d) None place us = refl
called (suc d) (Some w) place us =
    let e : suc d - 1 ≡ d = omega arith in
    ap (λ k. call_of (expr_of k) w place us) (sym e)
    ∙ ap (λ (b : Bool). go_on (suc d) (cond b (bad Grammar 6 place) (ok (at_call w place us)))) (sym (ne_eqb (suc d) 0 (λ z. omega arith)))

begun_at : (d : ℕ) (t : Tok) (place : ℕ) (us : Toks) → expr_at (room_of d) t place us ≡ go_on d (begin_at d t place us)
begun_at d (word w) place us = called d (word_of w) place us
begun_at d (number z) place us = refl
begun_at d (sign s) place us = go (is_sign OpenSquare (sign s))
  where
    go : (b : Bool) → cond b (bind (cell_of us) (λ c. read (cell c.got) c.rest)) (bad Grammar 3 place) ≡ go_on d (cond b (ok (at_cell us)) (bad Grammar 3 place))
    go true = refl
    go false = refl
begun_at d finish place us = refl
begun_at d wrong place us = refl

-- an expression is read as it begins
pub begun : (d : ℕ) (ts : Toks) → expr_of d ts ≡ go_on d (begin_of d ts)
begun d [] = expr_in_lem d []
begun d (t ∷ ts) = expr_in_lem d (t ∷ ts) ∙ begun_at d t.tok t.place ts

no_call : (o : Option Head) (w : Head) (at place : ℕ) (us vs : Toks) → begin_call 0 o at us ≡ ok (at_call w place vs) → ⊥
no_call None w at place us vs e = let z : ◌≡◌ {A = ℕ} 0 1 = cc in omega arith
no_call (Some v) w at place us vs e = let z : ◌≡◌ {A = ℕ} 0 1 = cc in omega arith

-- no call is begun where none may nest
none_deep : (t : Tok) (w : Head) (at place : ℕ) (us vs : Toks) → begin_at 0 t at us ≡ ok (at_call w place vs) → ⊥
none_deep (word l) w at place us vs e = no_call (word_of l) w at place us vs e
none_deep (number z) w at place us vs e = let z : ◌≡◌ {A = ℕ} 0 1 = cc in omega arith
none_deep (sign s) w at place us vs e = go (is_sign OpenSquare (sign s)) e
  where
    go : (b : Bool) → cond b (ok (at_cell us)) (bad Grammar 3 at) ≡ ok (at_call w place vs) → ⊥
    go true e = let z : ◌≡◌ {A = ℕ} 0 1 = cc in omega arith
    go false e = let z : ◌≡◌ {A = ℕ} 0 1 = cc in omega arith
none_deep finish w at place us vs e = let z : ◌≡◌ {A = ℕ} 0 1 = cc in omega arith
none_deep wrong w at place us vs e = let z : ◌≡◌ {A = ℕ} 0 1 = cc in omega arith

deep : (d : ℕ) (ts : Toks) (w : Head) (place : ℕ) (us : Toks) → begin_of d ts ≡ ok (at_call w place us) → 0 < d
deep zero [] w place us e = let z : ◌≡◌ {A = ℕ} 0 1 = cc in omega arith
deep zero (t ∷ ts) w place us e = absurd (none_deep t.tok w t.place place ts us e)
deep (suc d) ts w place us e = omega arith

-- so where the beginning is told, the rest is too
pub reads_on : (r : Result Start ReadFault) (left ts : Toks) (d : ℕ) → Begins r left (begin_of d ts) → Continues r left d (expr_of d ts)
reads_on (Ok Cell) left ts d b = begun d ts ∙ ap (go_on d) b
reads_on (Ok (Call w place)) left ts d b = (deep d ts w place left b, begun d ts ∙ ap (go_on d) b)
reads_on (Err e) left ts d b = begun d ts ∙ ap (go_on d) b
