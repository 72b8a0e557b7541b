-- Tokens with which a list of placed tokens begins: those of an expression, with the places of its words.
use Rattle.std.proofs.Common.{◌≡◌, ℕ, ◌+◌, List, [], ◌∷◌, ◌++◌, map, length, pos, sym, refl, ap, ◌∙◌, subst, ap₂, arith}
use Rattle.std.proofs.lemmas.List.{map-append, append-nil}
use Rattle.letters.specs.declared.tokens.Sign.TheVariants.{OpenRound, CloseRound, Comma}
use Rattle.letters.specs.Tokens.{Tok, word, number, sign, finish, wrong, Placed}
use Rattle.filters.specs.Basic.{Weighed}
use Rattle.grammar.specs.declared.words.Word.{Word}
use Rattle.grammar.specs.declared.words.Word.TheVariants.{Join, After, Over, Rank, Weight}
use Rattle.grammar.specs.Words.{letters_of}
use Rattle.grammar.specs.Expr.{Expr, cell, join, after, over, rank, weight, Args, last, next, cell_tokens, weight_tokens, written, written_args, places_of, places_of_args, place_if_word, word_places, toks_of, Writes}
use Rattle.grammar.specs.Reading.{Toks}

-- a word stands at its place; the places of other tokens do not matter
abbrev SamePlace : Tok → ℕ → ℕ → Type 0
SamePlace (word w) p q = p ≡ q
SamePlace (number z) p q = Unit {0}
SamePlace (sign s) p q = Unit {0}
SamePlace finish p q = Unit {0}
SamePlace wrong p q = Unit {0}

-- tokens begin with those of ms, words at the same places, and go on with the rest
unfoldable pub Front : List Placed → Toks → Toks → Type 0
Front [] ts rest = ts ≡ rest
Front (m ∷ ms) ts rest = (at : ℕ) × (us : Toks) × (ts ≡ record { place = at; tok = m.tok } ∷ us) × SamePlace m.tok at m.place × Front ms us rest

pub front_append : (ms ns : List Placed) (ts us vs : Toks) → Front ms ts us → Front ns us vs → Front (ms ++ ns) ts vs
unfolding Front
front_append [] ns ts us vs f g = subst (λ (z : Toks). Front ns z vs) (sym f) g
front_append (m ∷ ms) ns ts us vs f g = (f.0, f.1, f.2, f.3, front_append ms ns f.1 us vs f.4 g)

pub front_split : (ms ns : List Placed) (ts vs : Toks) → Front (ms ++ ns) ts vs → (us : Toks) × Front ms ts us × Front ns us vs
unfolding Front
front_split [] ns ts vs f = (ts, refl, f)
front_split (m ∷ ms) ns ts vs f = let (us, g, h) = front_split ms ns f.1 vs f.4 in (us, (f.0, f.1, f.2, f.3, g), h)

pub front_length : (ms : List Placed) (ts rest : Toks) → Front ms ts rest → length ms + length rest ≡ length ts
unfolding Front
front_length [] ts rest f = omega (arith, ap length f)
front_length (m ∷ ms) ts rest f = omega (arith, front_length ms f.1 rest f.4, ap length f.2)

-- ---- a front as a list of tokens
here : (k : Tok) (p q : ℕ) (ps qs : List ℕ) → SamePlace k p q → ps ≡ qs → place_if_word k p ps ≡ place_if_word k q qs
here (word w) p q ps qs e f = ap₂ {C = List ℕ} ◌∷◌ e f
here (number z) p q ps qs e f = f
here (sign s) p q ps qs e f = f
here finish p q ps qs e f = f
here wrong p q ps qs e f = f

at_head : (k : Tok) (p q : ℕ) (ps qs : List ℕ) → place_if_word k p ps ≡ place_if_word k q qs → SamePlace k p q × (ps ≡ qs)
at_head (word w) p q ps qs e = (cc, cc)
at_head (number z) p q ps qs e = (tt, e)
at_head (sign s) p q ps qs e = (tt, e)
at_head finish p q ps qs e = (tt, e)
at_head wrong p q ps qs e = (tt, e)

front_of : (ms ps : List Placed) (rest : Toks) → toks_of ps ≡ toks_of ms → word_places ps ≡ word_places ms → Front ms (ps ++ rest) rest
unfolding Front
front_of [] [] rest e f = refl
front_of [] (p ∷ ps) rest e f = let z : ◌≡◌ {A = ℕ} 0 1 = cc in absurd (omega arith)
front_of (m ∷ ms) [] rest e f = let z : ◌≡◌ {A = ℕ} 0 1 = cc in absurd (omega arith)
front_of (m ∷ ms) (p ∷ ps) rest e f =
    let k : p.tok ≡ m.tok = cc in
    let t : toks_of ps ≡ toks_of ms = cc in
    let h = at_head m.tok p.place m.place (word_places ps) (word_places ms) (subst (λ (z : Tok). place_if_word z p.place (word_places ps) ≡ place_if_word m.tok m.place (word_places ms)) k f) in
    (p.place, ps ++ rest, ap (λ (z : Tok). record { place = p.place; tok = z } ∷ (ps ++ rest)) k, h.0, front_of ms ps rest t h.1)

of_front : (ms : List Placed) (ts rest : Toks) → Front ms ts rest → (ps : List Placed) × (ts ≡ ps ++ rest) × (toks_of ps ≡ toks_of ms) × (word_places ps ≡ word_places ms)
unfolding Front
of_front [] ts rest f = ([], f, refl, refl)
of_front (m ∷ ms) ts rest f =
    let (ps, e, t, w) = of_front ms f.1 rest f.4 in
    let p : Placed = record { place = f.0; tok = m.tok } in
    (p ∷ ps, f.2 ∙ ap (λ (z : Toks). p ∷ z) e, ap (λ (z : List Tok). m.tok ∷ z) t, here m.tok f.0 m.place (word_places ps) (word_places ms) f.3 w)

-- ---- the tokens of an expression, its words at their places
abbrev pub plain : Tok → Placed
plain k = record { place = 0; tok = k }

abbrev pub called : ℕ → Word → Placed
called at w = record { place = at; tok = word (letters_of w) }

unfoldable mutual
  pub marked : Expr → List Placed
  marked (cell n) = map plain (cell_tokens n)
  marked (join j at e es) = called at (Join j) ∷ plain (sign OpenRound) ∷ (marked e ++ marked_args es)
  marked (after at e f) = called at After ∷ plain (sign OpenRound) ∷ (marked e ++ (plain (sign Comma) ∷ (marked f ++ (plain (sign CloseRound) ∷ []))))
  marked (over s at h w) = called at (Over s) ∷ map plain (sign OpenRound ∷ number (pos h) ∷ sign Comma ∷ number (pos w) ∷ sign CloseRound ∷ [])
  marked (rank at h w k) =
      called at Rank ∷ map plain (sign OpenRound ∷ number (pos h) ∷ sign Comma ∷ number (pos w) ∷ sign Comma ∷ number (pos k) ∷ sign CloseRound ∷ [])
  marked (weight at k xs) = called at Weight ∷ map plain (sign OpenRound ∷ number (pos k) ∷ weight_tokens xs)

  pub marked_args : Args → List Placed
  marked_args (last e) = plain (sign Comma) ∷ (marked e ++ (plain (sign CloseRound) ∷ []))
  marked_args (next e es) = plain (sign Comma) ∷ (marked e ++ marked_args es)

toks_append : (ps qs : List Placed) → toks_of (ps ++ qs) ≡ toks_of ps ++ toks_of qs
toks_append ps qs = map-append (λ p. p.tok) ps qs

place_append : (k : Tok) (p : ℕ) (ps qs : List ℕ) → place_if_word k p (ps ++ qs) ≡ place_if_word k p ps ++ qs
place_append (word w) p ps qs = refl
place_append (number z) p ps qs = refl
place_append (sign s) p ps qs = refl
place_append finish p ps qs = refl
place_append wrong p ps qs = refl

places_append : (ps qs : List Placed) → word_places (ps ++ qs) ≡ word_places ps ++ word_places qs
places_append [] qs = refl
places_append (p ∷ ps) qs = ap (place_if_word p.tok p.place) (places_append ps qs) ∙ place_append p.tok p.place (word_places ps) (word_places qs)

toks_plain : (ks : List Tok) → toks_of (map plain ks) ≡ ks
toks_plain [] = refl
toks_plain (k ∷ ks) = ap (λ (z : List Tok). k ∷ z) (toks_plain ks)

weights_placeless : (xs : List Weighed) → word_places (map plain (weight_tokens xs)) ≡ []
weights_placeless [] = refl
weights_placeless (x ∷ xs) = weights_placeless xs

mutual
  unfolding marked written

  toks_marked : (e : Expr) → toks_of (marked e) ≡ written e
  toks_marked (cell n) = refl
  toks_marked (join j at e es) =
      ap (λ (z : List Tok). word (letters_of (Join j)) ∷ sign OpenRound ∷ z) (toks_append (marked e) (marked_args es) ∙ ap₂ (λ (y z : List Tok). y ++ z) (toks_marked e) (toks_args es))
  toks_marked (after at e f) =
      ap (λ (z : List Tok). word (letters_of After) ∷ sign OpenRound ∷ z)
      (toks_append (marked e) (plain (sign Comma) ∷ (marked f ++ (plain (sign CloseRound) ∷ [])))
      ∙ ap₂ (λ (y z : List Tok). y ++ (sign Comma ∷ z)) (toks_marked e) (toks_append (marked f) (plain (sign CloseRound) ∷ []) ∙ ap (λ (z : List Tok). z ++ (sign CloseRound ∷ [])) (toks_marked f)))
  toks_marked (over s at h w) = refl
  toks_marked (rank at h w k) = refl
  toks_marked (weight at k xs) = ap (λ (z : List Tok). word (letters_of Weight) ∷ sign OpenRound ∷ number (pos k) ∷ z) (toks_plain (weight_tokens xs))

  toks_args : (es : Args) → toks_of (marked_args es) ≡ written_args es
  toks_args (last e) = ap (λ (z : List Tok). sign Comma ∷ z) (toks_append (marked e) (plain (sign CloseRound) ∷ []) ∙ ap (λ (z : List Tok). z ++ (sign CloseRound ∷ [])) (toks_marked e))
  toks_args (next e es) = ap (λ (z : List Tok). sign Comma ∷ z) (toks_append (marked e) (marked_args es) ∙ ap₂ (λ (y z : List Tok). y ++ z) (toks_marked e) (toks_args es))

mutual
  unfolding marked places_of

  places_marked : (e : Expr) → word_places (marked e) ≡ places_of e
  places_marked (cell n) = refl
  places_marked (join j at e es) =
      ap (λ (z : List ℕ). at ∷ z) (places_append (marked e) (marked_args es) ∙ ap₂ (λ (y z : List ℕ). y ++ z) (places_marked e) (places_args es))
  places_marked (after at e f) =
      ap (λ (z : List ℕ). at ∷ z)
      (places_append (marked e) (plain (sign Comma) ∷ (marked f ++ (plain (sign CloseRound) ∷ [])))
      ∙ ap₂ (λ (y z : List ℕ). y ++ z) (places_marked e) (places_append (marked f) (plain (sign CloseRound) ∷ []) ∙ append-nil (word_places (marked f)) ∙ places_marked f))
  places_marked (over s at h w) = refl
  places_marked (rank at h w k) = refl
  places_marked (weight at k xs) = ap (λ (z : List ℕ). at ∷ z) (weights_placeless xs)

  places_args : (es : Args) → word_places (marked_args es) ≡ places_of_args es
  places_args (last e) = places_append (marked e) (plain (sign CloseRound) ∷ []) ∙ append-nil (word_places (marked e)) ∙ places_marked e
  places_args (next e es) = places_append (marked e) (marked_args es) ∙ ap₂ (λ (y z : List ℕ). y ++ z) (places_marked e) (places_args es)

pub writes_front : (e : Expr) (ps : List Placed) (rest : Toks) → Writes e ps → Front (marked e) (ps ++ rest) rest
writes_front e ps rest w = front_of (marked e) ps rest (w.0 ∙ sym (toks_marked e)) (w.1 ∙ sym (places_marked e))

pub front_writes : (e : Expr) (ts rest : Toks) → Front (marked e) ts rest → (ps : List Placed) × (ts ≡ ps ++ rest) × Writes e ps
front_writes e ts rest f = let (ps, q, t, w) = of_front (marked e) ts rest f in (ps, q, (t ∙ toks_marked e, w ∙ places_marked e))
