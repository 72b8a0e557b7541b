-- The tokens that are found in a text are the only ones that spell it.
use Rattle.std.proofs.Common.{◌≡◌, ℕ, zero, suc, ◌+◌, ◌<◌, List, [], ◌∷◌, ◌++◌, length, take, drop, sym, refl, ap, ◌∙◌, subst, zero-add, arith, length-append, length-drop, length-take-le, drop-drop, drop_at}
use lib.Seq.{drop-append_seam}
use Rattle.std.specs.List.{prefix_len}
use Rattle.std.proofs.lemmas.List.{append-nil, take-append-drop, length-replicate}
use Rattle.std.proofs.lemmas.List.Sums.{prefix_len-le-length}
use Rattle.letters.specs.Bytes.{blank}
use Rattle.letters.specs.Tokens.{Tok, word, number, sign, finish, wrong, Placed, bytes_of, IsToken, BeginsNot, Ends, blanks, Spelled}
use Rattle.letters.specs.Scanning.{Cut, cut_of, onward, tokens_by, tokens_at, OnlySpelling}
use Rattle.letters.proofs.Cuts.{cut_within, cut_takes, no_finish}
use Rattle.letters.proofs.Runs.{leading_run, run_all, blanks_all, all_blanks}
use Rattle.letters.proofs.CutTokens.{Begins, token_begins, Takes, token_takes}

abbrev ended : ℕ → List Placed
ended at = record { place = at; tok = finish } ∷ []

onward_token : (t : Tok) (ps : List Placed) → IsToken t → onward t ps ≡ ps
onward_token (word w) ps i = refl
onward_token (number z) ps i = refl
onward_token (sign s) ps i = refl
onward_token finish ps i = absurd i
onward_token wrong ps i = absurd i

tokens_step : (n at k size : ℕ) (bs : List ℕ) (t : Tok) → prefix_len blank bs ≡ k → cut_of (drop k bs) ≡ record { tok = t; size = size } → tokens_by (suc n) at bs ≡ record { place = at + k; tok = t } ∷ onward t (tokens_by n (at + k + size) (drop (k + size) bs))
unfolding tokens_by
tokens_step n at k size bs t l c =
    ap (λ (i : ℕ). record { place = at + i; tok = (cut_of (drop i bs)).tok } ∷ onward (cut_of (drop i bs)).tok (tokens_by n (at + i + (cut_of (drop i bs)).size) (drop (i + (cut_of (drop i bs)).size) bs))) l
    ∙ ap (λ (x : Cut). record { place = at + k; tok = x.tok } ∷ onward x.tok (tokens_by n (at + k + x.size) (drop (k + x.size) bs))) c

blanks_lead : (k : ℕ) (rest : List ℕ) → BeginsNot blank rest → prefix_len blank (blanks k ++ rest) ≡ k
blanks_lead k rest n = leading_run blank (blanks k) rest (blanks_all k) n ∙ length-replicate k 32

-- tokens that spell the bytes are those that are found
spelled_by : (n at : ℕ) (bs : List ℕ) (ps : List Placed) → length bs < n → Spelled at bs ps → tokens_by n at bs ≡ ps ++ ended (at + length bs)
spelled_by zero at bs ps h s = absurd (omega arith)
spelled_by (suc n) at bs [] h s =
    let k : ℕ = s.0 in
    let e : bs ≡ blanks k ++ [] = s.1 ∙ sym (append-nil (blanks k)) in
    let l : prefix_len blank bs ≡ k = ap (prefix_len blank) e ∙ blanks_lead k [] tt in
    let d : drop k bs ≡ [] = ap (drop k) e ∙ drop_at (blanks k) [] k (length-replicate k 32) in
    let m : k ≡ length bs = sym (ap length s.1 ∙ length-replicate k 32) in
    tokens_step n at k 0 bs finish l (ap cut_of d) ∙ ap (λ (i : ℕ). ended (at + i)) m
spelled_by (suc n) at bs (p ∷ ps) h s =
    let k : ℕ = s.0 in
    let rest : List ℕ = s.1 in
    let w : List ℕ = bytes_of p.tok in
    let b : Begins w p.tok rest = token_begins p.tok rest s.4 s.5 in
    let l : prefix_len blank bs ≡ k = ap (prefix_len blank) s.2 ∙ blanks_lead k (w ++ rest) b.solid in
    let d : drop k bs ≡ w ++ rest = ap (drop k) s.2 ∙ drop_at (blanks k) (w ++ rest) k (length-replicate k 32) in
    let r : drop (k + length w) bs ≡ rest = sym (drop-drop (length w) k bs) ∙ ap (drop (length w)) d ∙ drop-append_seam w rest in
    let m : length bs ≡ k + (length w + length rest) = ap length s.2 ∙ simp (length-append, length-replicate) in
    let g : 0 < length w = b.some in
    let i : at + k + length w + length rest ≡ at + length bs = omega arith in
    tokens_step n at k (length w) bs p.tok l (ap cut_of d ∙ b.cut)
    ∙ ap (λ (ts : List Placed). record { place = at + k; tok = p.tok } ∷ ts) (onward_token p.tok _ s.4)
    ∙ ap (λ (j : ℕ). record { place = j; tok = p.tok } ∷ tokens_by n (at + k + length w) (drop (k + length w) bs)) (sym s.3)
    ∙ ap (λ (xs : List ℕ). p ∷ tokens_by n (at + k + length w) xs) r
    ∙ ap (λ (ts : List Placed). p ∷ ts) (spelled_by n (at + k + length w) rest ps (omega arith) s.6)
    ∙ ap (λ (j : ℕ). p ∷ (ps ++ ended j)) i

pub spelled_only : (text : List ℕ) (ps : List Placed) → Spelled 0 text ps → tokens_at text 0 ≡ ps ++ record { place = length text; tok = finish } ∷ []
unfolding tokens_at
spelled_only text ps s = spelled_by (suc (length text)) 0 text ps (omega arith) s ∙ ap (λ (i : ℕ). ps ++ ended i) (zero-add (length text))

-- the blanks in front, and what stands behind them
lead_split : (bs : List ℕ) → bs ≡ blanks (prefix_len blank bs) ++ drop (prefix_len blank bs) bs
lead_split bs =
    let k : ℕ = prefix_len blank bs in
    let l : length (take k bs) ≡ k = length-take-le k bs (prefix_len-le-length blank bs) in
    sym (take-append-drop k bs) ∙ ap (λ (xs : List ℕ). xs ++ drop k bs) (all_blanks (take k bs) (run_all blank bs) ∙ ap blanks l)

finish_empty : (s : List ℕ) → (cut_of s).tok ≡ finish → s ≡ []
finish_empty [] e = refl
finish_empty (b ∷ bs) e = absurd (no_finish b bs e)

never_empty : (ps : List Placed) (p : Placed) → [] ≡ ps ++ p ∷ [] → ⊥
never_empty [] p e = let z : ◌≡◌ {A = ℕ} 0 1 = cc in omega arith
never_empty (q ∷ ps) p e = let z : ◌≡◌ {A = ℕ} 0 1 = cc in omega arith

same_first : (p q : Placed) (ps qs : List Placed) → p ∷ ps ≡ q ∷ qs → (p ≡ q) × (ps ≡ qs)
same_first p q ps qs e = (cc, cc)

-- the tokens that are found up to the end spell the bytes
found_by : (n at e : ℕ) (bs : List ℕ) (ps : List Placed) → length bs < n → tokens_by n at bs ≡ ps ++ ended e → Spelled at bs ps × (e ≡ at + length bs)
unfolding tokens_by
found_by zero at e bs ps h q = absurd (omega arith)
found_by (suc n) at e bs [] h q =
    let k : ℕ = prefix_len blank bs in
    let f = same_first _ _ _ _ q in
    let d : drop k bs ≡ [] = finish_empty (drop k bs) (ap (λ (p : Placed). p.tok) f.0) in
    let s : bs ≡ blanks k = lead_split bs ∙ ap (λ (xs : List ℕ). blanks k ++ xs) d ∙ append-nil (blanks k) in
    let m : length bs ≡ k = ap length s ∙ length-replicate k 32 in
    ((k, s), sym (ap (λ (p : Placed). p.place) f.0) ∙ ap (λ (i : ℕ). at + i) (sym m))
found_by (suc n) at e bs (p ∷ ps) h q =
    let k : ℕ = prefix_len blank bs in
    let c : Cut = cut_of (drop k bs) in
    let f = same_first _ _ _ _ q in
    let T : List Placed = tokens_by n (at + k + c.size) (drop (k + c.size) bs) in
    let behind : onward c.tok T ≡ ps ++ ended e = f.1 in
    let goes_on : (x : Tok) → onward x T ≡ [] → c.tok ≡ x → ⊥ = λ x o z. never_empty ps _ (sym o ∙ subst (λ (y : Tok). onward y T ≡ ps ++ ended e) z behind) in
    let t : Takes (drop k bs) c = token_takes (drop k bs) (goes_on finish refl) (goes_on wrong refl) in
    let d : drop c.size (drop k bs) ≡ drop (k + c.size) bs = drop-drop c.size k bs in
    let w = cut_within (drop k bs) in
    let lk = length-drop k bs in
    let ld = length-drop (k + c.size) bs in
    let b = prefix_len-le-length blank bs in
    let g : 0 < c.size = cut_takes (drop k bs) (goes_on finish refl) in
    let ih = found_by n (at + k + c.size) e (drop (k + c.size) bs) ps (omega arith) (sym (onward_token c.tok T t.token) ∙ behind) in
    let split : bs ≡ blanks k ++ (bytes_of c.tok ++ drop (k + c.size) bs) = lead_split bs ∙ ap (λ (xs : List ℕ). blanks k ++ xs) (t.split ∙ ap (λ (xs : List ℕ). bytes_of c.tok ++ xs) d) in
    let ends : Ends c.tok (drop (k + c.size) bs) = subst (Ends c.tok) d t.ends in
    let on : Spelled (at + k + length (bytes_of c.tok)) (drop (k + c.size) bs) ps = subst (λ (i : ℕ). Spelled (at + k + i) (drop (k + c.size) bs) ps) t.size ih.0 in
    (subst (λ (x : Placed). Spelled at bs (x ∷ ps)) f.0 (k, drop (k + c.size) bs, split, refl, t.token, ends, on), ih.1 ∙ omega arith)

pub spelled_is : (text : List ℕ) (ps : List Placed) (at : ℕ) → tokens_at text 0 ≡ ps ++ record { place = at; tok = finish } ∷ [] → Spelled 0 text ps × (at ≡ length text)
unfolding tokens_at
spelled_is text ps at q =
    let h = found_by (suc (length text)) 0 at text ps (omega arith) q in
    (h.0, h.1 ∙ zero-add (length text))

pub only_spelling : (text : List ℕ) → OnlySpelling text
only_spelling text = record { spells = λ ps at. spelled_is text ps at; only = spelled_only text }
