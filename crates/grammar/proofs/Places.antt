-- The tokens of a text from the place of one of them on.
use Rattle.std.proofs.Common.{◌≡◌, ℕ, ◌+◌, List, [], ◌∷◌, ◌++◌, length, drop, sym, ap, ◌∙◌, inl, inr, arith, drop-drop, length-append}
use Rattle.std.proofs.lemmas.Bool.{cases_lt}
use Rattle.std.proofs.lemmas.List.Sums.{prefix_len_stops, prefix_len-drop_no, prefix_len-drop_all}
use Rattle.std.specs.List.{prefix_len}
use Rattle.letters.specs.Bytes.{blank}
use Rattle.letters.specs.Tokens.{Tok, word, number, sign, finish, wrong, Placed}
use Rattle.letters.specs.Scanning.{Cut, cut_of, onward, tokens_at}
use Rattle.letters.proofs.Onward.{start_of, tokens_next}

abbrev place_of : ℕ → List Placed → ℕ
place_of d [] = d
place_of d (t ∷ ts) = t.place

abbrev rest_of : List Placed → List Placed
rest_of [] = []
rest_of (t ∷ ts) = ts

-- no blank stands behind the blanks
no_more : (bs : List ℕ) → prefix_len blank (drop (prefix_len blank bs) bs) ≡ 0
no_more bs = elim (cases_lt (prefix_len blank bs) (length bs)) [
  | inl l ↦ prefix_len-drop_no blank bs (prefix_len blank bs) 0 l (prefix_len_stops blank bs 0 l)
  | inr g ↦ prefix_len-drop_all blank bs (prefix_len blank bs) g
]

start_again : (text : List ℕ) (at : ℕ) → start_of text (start_of text at) ≡ start_of text at
start_again text at =
    let k : ℕ = prefix_len blank (drop at text) in
    let e : prefix_len blank (drop (at + k) text) ≡ 0 = ap (prefix_len blank) (sym (drop-drop k at text)) ∙ no_more (drop at text) in
    omega (arith, e)

-- from its first token on a text has the same tokens as from the blanks before it on
first_again : (text : List ℕ) (at : ℕ) → tokens_at text (start_of text at) ≡ tokens_at text at
first_again text at =
    tokens_next text (start_of text at)
    ∙ ap first (start_again text at)
    ∙ sym (tokens_next text at)
  where
    first : ℕ → List Placed
    first p = let c : Cut = cut_of (drop p text) in record { place = p; tok = c.tok } ∷ onward c.tok (tokens_at text (p + c.size))

pub from_there : (text : List ℕ) (read : List Placed) (at : ℕ) (t : Placed) (ts : List Placed) → tokens_at text at ≡ read ++ t ∷ ts → tokens_at text t.place ≡ t ∷ ts
from_there text [] at t ts e =
    let p : t.place ≡ start_of text at = ap (place_of 0) (sym e ∙ tokens_next text at) in
    ap (tokens_at text) p ∙ first_again text at ∙ e
from_there text (x ∷ read) at t ts e =
    let c : Cut = cut_of (drop (start_of text at) text) in
    go c.tok (tokens_at text (start_of text at + c.size)) (from_there text read (start_of text at + c.size) t ts) (ap rest_of (sym (tokens_next text at) ∙ e))
  where
    go : (k : Tok) (ps : List Placed) → (ps ≡ read ++ t ∷ ts → tokens_at text t.place ≡ t ∷ ts) → onward k ps ≡ read ++ t ∷ ts → tokens_at text t.place ≡ t ∷ ts
    go (word w) ps ih q = ih q
    go (number z) ps ih q = ih q
    go (sign s) ps ih q = ih q
    go finish ps ih q = absurd (omega (arith, ap length q, length-append read (t ∷ ts)))
    go wrong ps ih q = absurd (omega (arith, ap length q, length-append read (t ∷ ts)))
