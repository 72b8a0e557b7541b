-- A text begins with a token that ends there exactly where its cut is that token.
use Rattle.std.proofs.Common.{◌≡◌, ℕ, zero, suc, ◌+◌, ◌<◌, ◌≤◌, Bool, true, false, cond, eqb, leb, List, [], ◌∷◌, ◌++◌, length, take, drop, pos, negsuc, neg_ℤ, Some, None, Option, sym, refl, ap, ◌∙◌, subst, zero-add, one-add, arith, length-take-le}
use lib.Seq.{take-append_seam}
use Rattle.std.specs.List.{prefix_len}
use Rattle.std.proofs.lemmas.List.{take-append-drop}
use Rattle.std.proofs.lemmas.List.Sums.{prefix_len-le-length}
use Rattle.std.proofs.lemmas.Bool.{eqb-true, ne_eqb, lt-leb, leb-true, and_parts, and_left, false≢true, cond-false}
use Rattle.letters.specs.declared.tokens.Sign.{Sign}
use Rattle.letters.specs.declared.tokens.Sign.TheVariants.{OpenSquare, CloseSquare, OpenRound, CloseRound, Comma, Star}
use Rattle.letters.specs.Bytes.{letter, digit, blank, minus, sign_byte}
use Rattle.letters.specs.Tokens.{Tok, word, number, sign, finish, wrong, decimal, numeral, bytes_of, AllOf, IsToken, BeginsNot, Ends}
use Rattle.letters.specs.Scanning.{Cut, sign_of, sign_cut, value_of, is_numeral, number_of, cut_of_number, cut_of}
use Rattle.letters.proofs.Cuts.{cut_word, cut_digits, cut_by, leading_grows}
use Rattle.letters.proofs.Runs.{leading_run, run_all, run_ends}
use Rattle.letters.proofs.Digits.{digit_is}
use Rattle.letters.proofs.Numerals.{Says, decimal_says, Spells, value_spells}

-- a token's bytes begin with one that is not blank, and with the rest their cut is the token
pub record Begins (bytes : List ℕ) (t : Tok) (rest : List ℕ) : Type 0 where
  pub some : 0 < length bytes
  pub solid : BeginsNot blank (bytes ++ rest)
  pub cut : cut_of (bytes ++ rest) ≡ record { tok = t; size = length bytes }

no_letter : (d : ℕ) → d ≤ 57 → letter d ≡ false
no_letter d h = and_left (leb 97 d) (leb d 122) (lt-leb 97 d (omega arith))

word_begins : (w rest : List ℕ) → 0 < length w → AllOf letter w → BeginsNot letter rest → Begins w (word w) rest
word_begins [] rest l a n = absurd (omega arith)
word_begins (b ∷ bs) rest l a n =
    let s : List ℕ = (b ∷ bs) ++ rest in
    let k : prefix_len letter s ≡ length (b ∷ bs) = leading_run letter (b ∷ bs) rest a n in
    let h = and_parts (leb 97 b) (leb b 122) a.0 in
    let m = leb-true 97 b h.0 in
    record {
      some = l;
      solid = ne_eqb b 32 (λ e. omega arith);
      cut = sym (cut_word s b (bs ++ rest) refl a.0) ∙ ap (λ (i : ℕ). record { tok = word (take i s); size = i }) k
          ∙ ap (λ (w : List ℕ). record { tok = word w; size = length (b ∷ bs) }) (take-append_seam (b ∷ bs) rest);
    }

-- digits up to a byte that is none are cut as the number that they say
number_cut : (negative : Bool) (before n : ℕ) (ds rest : List ℕ) → Says n ds → (negative ≡ true → 0 < n) → BeginsNot digit rest → cut_of_number negative before (ds ++ rest) ≡ record { tok = number (cond negative (neg_ℤ (pos n)) (pos n)); size = before + length ds }
number_cut negative before n ds rest h g e =
    let k : prefix_len digit (ds ++ rest) ≡ length ds = leading_run digit ds rest h.digits e in
    ap (λ (i : ℕ). record { tok = number_of negative (take i (ds ++ rest)); size = before + i }) k
    ∙ ap (λ (xs : List ℕ). record { tok = number_of negative xs; size = before + length ds }) (take-append_seam ds rest)
    ∙ ap (λ (t : Bool). record { tok = cond t (number (cond negative (neg_ℤ (pos (value_of 0 ds))) (pos (value_of 0 ds)))) wrong; size = before + length ds }) (h.taken negative g)
    ∙ ap (λ (v : ℕ). record { tok = number (cond negative (neg_ℤ (pos v)) (pos v)); size = before + length ds }) h.value

number_begins : (n : ℕ) (ds rest : List ℕ) → Says n ds → BeginsNot digit rest → Begins ds (number (pos n)) rest
number_begins n [] rest h e = let z = h.some in absurd (omega arith)
number_begins n (d ∷ ds) rest h e =
    let r = digit_is d h.digits.0 in
    record {
      some = h.some;
      solid = ne_eqb d 32 (λ e. omega arith);
      cut = sym (cut_digits (d ∷ (ds ++ rest)) d (ds ++ rest) refl 0 refl (no_letter d r.1) h.digits.0) ∙ number_cut false 0 n (d ∷ ds) rest h (λ f. absurd (false≢true f)) e
          ∙ ap (λ (k : ℕ). record { tok = number (pos n); size = k }) (zero-add (length (d ∷ ds)));
    }

sign_begins : (s : Sign) (rest : List ℕ) → Begins (sign_byte s ∷ []) (sign s) rest
sign_begins OpenSquare rest = record { some = omega arith; solid = refl; cut = refl }
sign_begins CloseSquare rest = record { some = omega arith; solid = refl; cut = refl }
sign_begins OpenRound rest = record { some = omega arith; solid = refl; cut = refl }
sign_begins CloseRound rest = record { some = omega arith; solid = refl; cut = refl }
sign_begins Comma rest = record { some = omega arith; solid = refl; cut = refl }
sign_begins Star rest = record { some = omega arith; solid = refl; cut = refl }

pub token_begins : (t : Tok) (rest : List ℕ) → IsToken t → Ends t rest → Begins (bytes_of t) t rest
token_begins (word w) rest i e = word_begins w rest i.0 i.1 e
token_begins (number (pos n)) rest i e = number_begins n (decimal n) rest (decimal_says n i) e
token_begins (number (negsuc n)) rest i e =
    let h = decimal_says (suc n) i in
    record {
      some = omega arith;
      solid = refl;
      cut = number_cut true 1 (suc n) (decimal (suc n)) rest h (λ _. omega arith) e ∙ ap (λ (k : ℕ). record { tok = number (negsuc n); size = k }) (one-add (length (decimal (suc n))));
    }
token_begins (sign s) rest i e = sign_begins s rest
token_begins finish rest i e = absurd i
token_begins wrong rest i e = absurd i

-- what a cut takes of a text: the token's bytes, up to where the token ends
pub record Takes (s : List ℕ) (c : Cut) : Type 0 where
  pub split : s ≡ bytes_of c.tok ++ drop c.size s
  pub size : c.size ≡ length (bytes_of c.tok)
  pub token : IsToken c.tok
  pub ends : Ends c.tok (drop c.size s)

run_length : (p : ℕ → Bool) (s : List ℕ) → prefix_len p s ≡ length (take (prefix_len p s) s)
run_length p s = sym (length-take-le (prefix_len p s) s (prefix_len-le-length p s))

word_takes : (s : List ℕ) → 0 < prefix_len letter s → Takes s (record { tok = word (take (prefix_len letter s) s); size = prefix_len letter s })
word_takes s g =
    let l = run_length letter s in
    record {
      split = sym (take-append-drop (prefix_len letter s) s);
      size = l;
      token = (omega arith, run_all letter s);
      ends = run_ends letter s;
    }

minus_numeral : (v : ℕ) → 0 < v → numeral (neg_ℤ (pos v)) ≡ minus ∷ decimal v
minus_numeral zero g = absurd (omega arith)
minus_numeral (suc v) g = refl

minus_token : (v : ℕ) → 0 < v → v < 1000 → IsToken (number (neg_ℤ (pos v)))
minus_token zero g h = absurd (omega arith)
minus_token (suc v) g h = h

number_takes : (s : List ℕ) → is_numeral false (take (prefix_len digit s) s) ≡ true → Takes s (cut_of_number false 0 s)
number_takes s t =
    let n : ℕ = prefix_len digit s in
    let ds : List ℕ = take n s in
    let v : ℕ = value_of 0 ds in
    let h : Spells false ds = value_spells false ds (run_all digit s) t in
    let number_is : Takes s (record { tok = number (pos v); size = n }) = record {
      split = sym (take-append-drop n s) ∙ ap (λ (xs : List ℕ). xs ++ drop n s) (sym h.same);
      size = run_length digit s ∙ ap length (sym h.same);
      token = h.small;
      ends = run_ends digit s;
    } in
    subst (λ (b : Bool). Takes s (record { tok = cond b (number (pos v)) wrong; size = 0 + n })) (sym t)
    (subst (λ (k : ℕ). Takes s (record { tok = number (pos v); size = k })) (sym (zero-add n)) number_is)

minus_takes : (s : List ℕ) → is_numeral true (take (prefix_len digit s) s) ≡ true → Takes (minus ∷ s) (cut_of_number true 1 s)
minus_takes s t =
    let n : ℕ = prefix_len digit s in
    let ds : List ℕ = take n s in
    let v : ℕ = value_of 0 ds in
    let h : Spells true ds = value_spells true ds (run_all digit s) t in
    let same : numeral (neg_ℤ (pos v)) ≡ minus ∷ ds = minus_numeral v (h.above refl) ∙ ap (λ (xs : List ℕ). minus ∷ xs) h.same in
    let number_is : Takes (minus ∷ s) (record { tok = number (neg_ℤ (pos v)); size = suc n }) = record {
      split = ap (λ (xs : List ℕ). minus ∷ xs) (sym (take-append-drop n s)) ∙ ap (λ (xs : List ℕ). xs ++ drop n s) (sym same);
      size = ap suc (run_length digit s) ∙ ap length (sym same);
      token = minus_token v (h.above refl) h.small;
      ends = run_ends digit s;
    } in
    subst (λ (b : Bool). Takes (minus ∷ s) (record { tok = cond b (number (neg_ℤ (pos v))) wrong; size = 1 + n })) (sym t)
    (subst (λ (k : ℕ). Takes (minus ∷ s) (record { tok = number (neg_ℤ (pos v)); size = k })) (sym (one-add n)) number_is)

sign_step : (b k : ℕ) (s u : Sign) (o : Option Sign) → sign_byte u ≡ k → cond (eqb b k) (Some u) o ≡ Some s → (o ≡ Some s → sign_byte s ≡ b) → sign_byte s ≡ b
sign_step b k s u o i e f = go (eqb b k) refl e
  where
    go : (t : Bool) → eqb b k ≡ t → cond t (Some u) o ≡ Some s → sign_byte s ≡ b
    go true q e = let m : b ≡ k = eqb-true b k q in let n : u ≡ s = cc in ap sign_byte (sym n) ∙ i ∙ sym m
    go false q e = f e

sign_byte_lem : (b : ℕ) (s : Sign) → sign_of b ≡ Some s → sign_byte s ≡ b
sign_byte_lem b s e =
    sign_step b 91 s OpenSquare _ refl e (λ e. sign_step b 93 s CloseSquare _ refl e (λ e. sign_step b 40 s OpenRound _ refl e (λ e.
    sign_step b 41 s CloseRound _ refl e (λ e. sign_step b 44 s Comma _ refl e (λ e. sign_step b 42 s Star _ refl e (λ e.
    let z : ◌≡◌ {A = ℕ} 0 1 = cc in absurd (omega arith)))))))

sign_takes : (b : ℕ) (bs : List ℕ) (o : Option Sign) → sign_of b ≡ o → ((sign_cut o).tok ≡ wrong → ⊥) → Takes (b ∷ bs) (sign_cut o)
sign_takes b bs (Some s) e n = record { split = ap (λ (x : ℕ). x ∷ bs) (sym (sign_byte_lem b s e)); size = refl; token = tt; ends = tt }
sign_takes b bs None e n = absurd (n refl)

-- digits whose cut is not wrong are a number
taken : (negative : Bool) (ds : List ℕ) → (number_of negative ds ≡ wrong → ⊥) → is_numeral negative ds ≡ true
taken negative ds n = go (is_numeral negative ds) refl
  where
    go : (t : Bool) → is_numeral negative ds ≡ t → is_numeral negative ds ≡ true
    go true e = e
    go false e = absurd (n (cond-false (is_numeral negative ds) _ wrong e))

-- the cut of a text is a token of it, but at the end and where it is wrong
pub token_takes : (s : List ℕ) → ((cut_of s).tok ≡ finish → ⊥) → ((cut_of s).tok ≡ wrong → ⊥) → Takes s (cut_of s)
token_takes [] f w = absurd (f refl)
token_takes (b ∷ bs) f w =
    cut_by (λ (c : Cut). (c.tok ≡ wrong → ⊥) → Takes (b ∷ bs) c) b bs
    (λ l _. word_takes (b ∷ bs) (leading_grows letter b bs l))
    (λ _ n. number_takes (b ∷ bs) (taken false (take (prefix_len digit (b ∷ bs)) (b ∷ bs)) n))
    (λ m n. subst (λ (x : ℕ). Takes (x ∷ bs) (cut_of_number true 1 bs)) (sym m) (minus_takes bs (taken true (take (prefix_len digit bs) bs) n)))
    (λ n. sign_takes b bs (sign_of b) refl n) w
