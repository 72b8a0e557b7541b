-- The tokens from a place on: the first, and those from its end on.
use Rattle.std.proofs.Common.{◌≡◌, ℕ, zero, suc, ◌+◌, ◌-◌, ◌<◌, ◌≤◌, min, max, List, [], ◌∷◌, length, take, drop, Some, Ok, Err, ⊎_elim, sym, refl, ap, ◌∙◌, add_assoc, arith, length-drop, drop-drop}
use Rattle.std.specs.List.{prefix_len}
use Rattle.std.proofs.lemmas.List.Sums.{prefix_len-le-length}
use Rattle.std.proofs.lemmas.List.{drop_all, take_all}
use Rattle.std.proofs.str.Laws.{order}
use Rattle.letters.specs.declared.tokens.Token.{Token}
use Rattle.letters.specs.declared.tokens.Found.{Found}
use Rattle.letters.specs.declared.faults.LettersFault.{LettersFault}
use Rattle.letters.specs.Bytes.{blank}
use Rattle.letters.specs.Tokens.{Tok, wrong, Placed}
use Rattle.letters.specs.Scanning.{Cut, Cuts, Gives, Finds, Next, tok_of, cut_of, onward, tokens_by, tokens_at}
use Rattle.letters.proofs.Cuts.{cut_sized, cut_within, cut_takes}

-- what follows a token is asked for only where the token takes bytes
onward_same : (s : List ℕ) (ps qs : List Placed) → (0 < (cut_of s).size → ps ≡ qs) → onward (cut_of s).tok ps ≡ onward (cut_of s).tok qs
onward_same [] ps qs e = refl
onward_same (b ∷ bs) ps qs e = ap (onward (cut_of (b ∷ bs)).tok) (e (cut_sized b bs).0)

-- behind blanks and a token that takes bytes, fewer bytes are left
left_below : (bs : List ℕ) (k : ℕ) → 0 < (cut_of (drop k bs)).size → length (drop (k + (cut_of (drop k bs)).size) bs) < length bs
left_below bs k g = let w = cut_within (drop k bs) in let l = length-drop k bs in simp length-drop (omega arith)

-- the first number does not matter while it is above the count of bytes left
pub tokens_enough : (n m at : ℕ) (bs : List ℕ) → length bs < n → length bs < m → tokens_by n at bs ≡ tokens_by m at bs
unfolding tokens_by
tokens_enough zero m at bs hn hm = absurd (omega arith)
tokens_enough (suc n) zero at bs hn hm = absurd (omega arith)
tokens_enough (suc n) (suc m) at bs hn hm =
    let k : ℕ = prefix_len blank bs in
    let s : ℕ = (cut_of (drop k bs)).size in
    let P : List Placed → List Placed = λ ps. record { place = at + k; tok = (cut_of (drop k bs)).tok } ∷ ps in
    ap P (onward_same (drop k bs) (tokens_by n (at + k + s) (drop (k + s) bs)) (tokens_by m (at + k + s) (drop (k + s) bs))
    (λ g. let l = left_below bs k g in tokens_enough n m (at + k + s) (drop (k + s) bs) (omega arith) (omega arith)))

abbrev pub start_of : List ℕ → ℕ → ℕ
start_of text at = at + prefix_len blank (drop at text)

-- the first token behind the blanks, and those from its end on
pub tokens_next : (text : List ℕ) (at : ℕ) → let p : ℕ = start_of text at in let c : Cut = cut_of (drop p text) in tokens_at text at ≡ record { place = p; tok = c.tok } ∷ onward c.tok (tokens_at text (p + c.size))
unfolding tokens_at tokens_by
tokens_next text at =
    let k : ℕ = prefix_len blank (drop at text) in
    let H : List ℕ → List ℕ → List Placed = λ s bs. record { place = at + k; tok = (cut_of s).tok } ∷ onward (cut_of s).tok (tokens_by (suc (length text)) (at + k + (cut_of s).size) bs) in
    let s : List ℕ = drop k (drop at text) in
    let e : s ≡ drop (at + k) text = drop-drop k at text in
    let bs : List ℕ = drop (k + (cut_of s).size) (drop at text) in
    let d : bs ≡ drop (at + k + (cut_of s).size) text = drop-drop (k + (cut_of s).size) at text ∙ ap (λ i. drop i text) (sym (add_assoc at k (cut_of s).size)) in
    let P : List Placed → List Placed = λ ps. record { place = at + k; tok = (cut_of s).tok } ∷ ps in
    let l = length-drop at text in
    ap P (onward_same s (tokens_by (length text) (at + k + (cut_of s).size) bs) (tokens_by (suc (length text)) (at + k + (cut_of s).size) bs)
    (λ g. let b = left_below (drop at text) k g in tokens_enough (length text) (suc (length text)) (at + k + (cut_of s).size) bs (omega arith) (omega arith)))
    ∙ ap (H s) d
    ∙ ap (λ (z : List ℕ). H z (drop (at + k + (cut_of z).size) text)) e

pub finds : (text : List ℕ) (at : ℕ) (f : Found) → Gives (Ok f) (cut_of (drop (start_of text at) text)) (start_of text at) → Finds text at f
finds text at f g =
    let p : ℕ = start_of text at in
    let c : Cut = cut_of (drop p text) in
    let w : c.size ≤ length (drop p text) = cut_within (drop p text) in
    let l = length-drop p text in
    record {
      tokens = tokens_next text at ∙ ap (λ (t : Tok). record { place = p; tok = t } ∷ onward t (tokens_at text (p + c.size))) (sym g.0)
          ∙ ap (λ (i : ℕ). record { place = i; tok = tok_of f.token } ∷ onward (tok_of f.token) (tokens_at text (p + c.size))) (sym g.1)
          ∙ ap (λ (i : ℕ). record { place = f.place; tok = tok_of f.token } ∷ onward (tok_of f.token) (tokens_at text i)) (sym g.2);
      forth = (omega arith, omega arith);
      grows = λ n. let k : 0 < c.size = cut_takes (drop p text) (λ e. n (g.0 ∙ e)) in (omega arith, omega arith);
    }

pub declines : (text : List ℕ) (at : ℕ) (e : LettersFault) → Gives (Err e) (cut_of (drop (start_of text at) text)) (start_of text at) → Next (Err e) text at
declines text at e g =
    let p : ℕ = start_of text at in
    let c : Cut = cut_of (drop p text) in
    tokens_next text at ∙ ap (λ (t : Tok). record { place = p; tok = t } ∷ onward t (tokens_at text (p + c.size))) (sym g.0)
    ∙ ap (λ (i : ℕ). record { place = i; tok = wrong } ∷ []) (sym g.1)

-- the part from a place to the end
pub to_end : (m : ℕ) (xs : List ℕ) → take (length xs - m) (drop m xs) ≡ drop m xs
to_end m xs = take_all (length xs - m) (drop m xs) (omega (arith, length-drop m xs))

drop_within : (text : List ℕ) (at : ℕ) → drop (min at (length text)) text ≡ drop at text
drop_within text at = ⊎_elim (λ l. let e : min at (length text) ≡ at = omega arith in ap (λ i. drop i text) e) (λ g. drop_all _ text (omega arith) ∙ sym (drop_all at text (omega arith))) (order at (length text))

-- what is cut behind the blanks at a place, which may be behind the end
module _ (text : List ℕ) (at m k : ℕ) (is : m ≡ min at (length text)) (rest bs : List ℕ) (r : rest ≡ drop m text) (f : bs ≡ drop k rest) (blanks : k ≡ prefix_len blank rest) where
  left_is : rest ≡ drop at text
  left_is = r ∙ ap (λ i. drop i text) is ∙ drop_within text at

  start_is : at + k ≡ start_of text at
  start_is = ap (λ i. at + i) (blanks ∙ ap (prefix_len blank) left_is)

  cut_is : cut_of bs ≡ cut_of (drop (start_of text at) text)
  cut_is = ap cut_of f ∙ ap (λ (z : List ℕ). cut_of (drop k z)) left_is ∙ ap cut_of (drop-drop k at text) ∙ ap (λ i. cut_of (drop i text)) start_is

  pub cut_found : (t : Token) (n : ℕ) → Cuts (Some (t, n)) (cut_of bs) → Finds text at (record { token = t; place = at + k; end = at + k + n })
  cut_found t n c =
      finds text at _ (c.0 ∙ ap (λ (x : Cut). x.tok) cut_is, start_is, (let e = ap (λ (x : Cut). x.size) cut_is in omega (arith, start_is, c.1)))

  pub cut_declined : wrong ≡ (cut_of bs).tok → Next (Err (record { place = at + k })) text at
  cut_declined c = declines text at _ (c ∙ ap (λ (x : Cut). x.tok) cut_is, start_is)

  pub cut_fits : (t : Token) (n : ℕ) → Cuts (Some (t, n)) (cut_of bs) → at + k + n ≤ max at (length text)
  cut_fits t n c = omega (arith, c.1, cut_within bs, ap length f, length-drop k rest, ap length r, length-drop m text, prefix_len-le-length blank rest)
