-- Joining the arguments of max or min as they are worked out.
use Rattle.std.proofs.Common.{◌≡◌, ℕ, zero, suc, ◌<◌, ◌≤◌, Bool, true, false, cond, List, [], ◌∷◌, length, drop, sym, refl, ap, ◌∙◌, arith}
use Rattle.letters.specs.declared.tokens.Sign.TheVariants.{OpenRound, Comma}
use Rattle.grammar.specs.declared.faults.Part.{Part}
use Rattle.grammar.specs.declared.faults.Part.TheVariants.{Grammar}
use Rattle.grammar.specs.declared.words.Joint.{Joint}
use Rattle.grammar.specs.Expr.{Expr, Args, last, next, join}
use Rattle.grammar.specs.Reading.{Out, ok, bad, bind, Toks, Read, read, sign_of, closes, args_of, joined_of}
use Rattle.expressions.specs.Working.{placed, join_of, form_of, form_of_args}
use Rattle.grammar.proofs.LeafFronts.{sign_fewer}

abbrev Form : Type 0
Form = Out (List ℕ)

-- a form joined with that of one more argument, and with those of all
abbrev pub joined_with : Joint → ℕ → Form → Form → Form
joined_with j at v w = bind v (λ f. bind w (λ g. placed at (join_of j f g)))

abbrev pub joined_all : Joint → ℕ → Form → Args → Form
joined_all j at v es = bind v (λ f. form_of_args es j at f)

one_more : (j : Joint) (at : ℕ) (v : Form) (e : Expr) (es : Args) → joined_all j at v (next e es) ≡ joined_all j at (joined_with j at v (form_of e)) es
unfolding form_of
one_more j at (ok f) e es = inner (form_of e)
  where
    inner : (w : Form) → bind w (λ g. bind (placed at (join_of j f g)) (λ h. form_of_args es j at h)) ≡ bind (bind w (λ g. placed at (join_of j f g))) (λ h. form_of_args es j at h)
    inner (ok g) = refl
    inner (bad p n k) = refl
one_more j at (bad p n k) e es = refl

the_last : (j : Joint) (at : ℕ) (v : Form) (e : Expr) → joined_all j at v (last e) ≡ joined_with j at v (form_of e)
unfolding form_of
the_last j at v e = refl

-- what the arguments make of the form before them, and the tokens behind
abbrev pub further : (Toks → Out (Read Expr)) → Joint → ℕ → ℕ → Form → Toks → Out (Read Form)
further one j at n v ts = bind (args_of n one ts) (λ es. read (joined_all j at v es.got) es.rest)

module _ (one : Toks → Out (Read Expr)) (j : Joint) (at : ℕ) (v : Form) (e : Expr) (ts us vs : Toks) (comma : sign_of Comma ts ≡ ok us) (arg : one us ≡ read e vs) where
  opened : (n : ℕ) → args_of (suc n) one ts ≡ cond (closes vs) (read (last e) (drop 1 vs)) (bind (args_of n one vs) (λ es. read (next e es.got) es.rest))
  unfolding args_of
  opened n =
      ap (λ (o : Out Toks). bind o (λ us. bind (one us) (λ e. cond (closes e.rest) (read (last e.got) (drop 1 e.rest)) (bind (args_of n one e.rest) (λ es. read (next e.got es.got) es.rest))))) comma
      ∙ ap (λ (o : Out (Read Expr)). bind o (λ e. cond (closes e.rest) (read (last e.got) (drop 1 e.rest)) (bind (args_of n one e.rest) (λ es. read (next e.got es.got) es.rest)))) arg

  goes_on : (n : ℕ) → closes vs ≡ false → further one j at (suc n) v ts ≡ further one j at n (joined_with j at v (form_of e)) vs
  goes_on n c =
      ap (λ (o : Out (Read Args)). bind o (λ es. read (joined_all j at v es.got) es.rest)) (opened n ∙ ap (λ (b : Bool). cond b (read (last e) (drop 1 vs)) (bind (args_of n one vs) (λ es. read (next e es.got) es.rest))) c)
      ∙ inner (args_of n one vs)
    where
      inner : (o : Out (Read Args)) → bind (bind o (λ es. read (next e es.got) es.rest)) (λ es. read (joined_all j at v es.got) es.rest) ≡ bind o (λ es. read (joined_all j at (joined_with j at v (form_of e)) es.got) es.rest)
      inner (ok r) = ap (λ (w : Form). read w r.rest) (one_more j at v e r.got)
      inner (bad p n k) = refl

  stops : (n : ℕ) → closes vs ≡ true → further one j at (suc n) v ts ≡ read (joined_with j at v (form_of e)) (drop 1 vs)
  stops n c =
      ap (λ (o : Out (Read Args)). bind o (λ es. read (joined_all j at v es.got) es.rest)) (opened n ∙ ap (λ (b : Bool). cond b (read (last e) (drop 1 vs)) (bind (args_of n one vs) (λ es. read (next e es.got) es.rest))) c)
      ∙ ap (λ (w : Form). read w (drop 1 vs)) (the_last j at v e)

no_comma : (one : Toks → Out (Read Expr)) (j : Joint) (at : ℕ) (v : Form) (ts : Toks) (p : Part) (k place n : ℕ) → sign_of Comma ts ≡ bad p k place → further one j at (suc n) v ts ≡ bad p k place
unfolding args_of
no_comma one j at v ts p k place n e =
    ap (λ (o : Out Toks). bind (bind o (λ us. bind (one us) (λ e. cond (closes e.rest) (read (last e.got) (drop 1 e.rest)) (bind (args_of n one e.rest) (λ es. read (next e.got es.got) es.rest))))) (λ es. read (joined_all j at v es.got) es.rest)) e

no_argument : (one : Toks → Out (Read Expr)) (j : Joint) (at : ℕ) (v : Form) (ts us : Toks) (p : Part) (k place n : ℕ) → sign_of Comma ts ≡ ok us → one us ≡ bad p k place → further one j at (suc n) v ts ≡ bad p k place
unfolding args_of
no_argument one j at v ts us p k place n e d =
    ap (λ (o : Out Toks). bind (bind o (λ us. bind (one us) (λ e. cond (closes e.rest) (read (last e.got) (drop 1 e.rest)) (bind (args_of n one e.rest) (λ es. read (next e.got es.got) es.rest))))) (λ es. read (joined_all j at v es.got) es.rest)) e
    ∙ ap (λ (o : Out (Read Expr)). bind (bind o (λ e. cond (closes e.rest) (read (last e.got) (drop 1 e.rest)) (bind (args_of n one e.rest) (λ es. read (next e.got es.got) es.rest)))) (λ es. read (joined_all j at v es.got) es.rest)) d

-- arguments stand in front of the second tokens, and what follows is joined from there
abbrev pub Joining : (Toks → Out (Read Expr)) → Joint → ℕ → Toks → Form → Toks → Form → Type 0
Joining one j at ts v us w = (n : ℕ) → length ts ≤ n → (m : ℕ) × (length us ≤ m) × (further one j at n v ts ≡ further one j at m w us)

pub start : (one : Toks → Out (Read Expr)) (j : Joint) (at : ℕ) (ts : Toks) (v : Form) → Joining one j at ts v ts v
start one j at ts v n l = (n, l, refl)

-- no sign stands where no token does, and there no argument is read
none_left : (us : Toks) → length us ≤ 0 → sign_of Comma us ≡ bad Grammar 3 0
none_left [] l = refl
none_left (t ∷ us) l = absurd (omega arith)

no_more : (one : Toks → Out (Read Expr)) (j : Joint) (at : ℕ) (w : Form) (us : Toks) → further one j at 0 w us ≡ bad Grammar 3 0
unfolding args_of
no_more one j at w us = refl

module _ (one : Toks → Out (Read Expr)) (j : Joint) (at : ℕ) (ts : Toks) (v : Form) (us : Toks) (w : Form) (b : Joining one j at ts v us w) where
  pub more : (mid end : Toks) (e : Expr) (x y : Form) → sign_of Comma us ≡ ok mid → one mid ≡ read e end → length end < length us → closes end ≡ false
      → x ≡ form_of e → y ≡ joined_with j at w x → Joining one j at ts v end y
  more mid end e x y comma arg fewer c d f n l = go (b n l)
    where
      go : (m : ℕ) × (length us ≤ m) × (further one j at n v ts ≡ further one j at m w us) → (m : ℕ) × (length end ≤ m) × (further one j at n v ts ≡ further one j at m y end)
      go (zero, k, q) = absurd (omega arith)
      go (suc m, k, q) = (
        m,
        omega arith,
        q ∙ goes_on one j at w e us mid end comma arg m c ∙ ap (λ (u : Form). further one j at m u end) (ap (joined_with j at w) (sym d) ∙ sym f),
      )

  pub finished : (mid end : Toks) (e : Expr) (x y : Form) → sign_of Comma us ≡ ok mid → one mid ≡ read e end → closes end ≡ true
      → x ≡ form_of e → y ≡ joined_with j at w x → (n : ℕ) → length ts ≤ n → further one j at n v ts ≡ read y (drop 1 end)
  finished mid end e x y comma arg c d f n l = go (b n l)
    where
      go : (m : ℕ) × (length us ≤ m) × (further one j at n v ts ≡ further one j at m w us) → further one j at n v ts ≡ read y (drop 1 end)
      go (zero, k, q) = absurd (omega (arith, sign_fewer Comma us mid comma))
      go (suc m, k, q) = q ∙ stops one j at w e us mid end comma arg m c ∙ ap (λ (u : Form). read u (drop 1 end)) (ap (joined_with j at w) (sym d) ∙ sym f)

  module _ (p : Part) (k place n : ℕ) (l : length ts ≤ n) where
    pub stopped : sign_of Comma us ≡ bad p k place → further one j at n v ts ≡ bad p k place
    stopped e = go (b n l)
      where
        go : (m : ℕ) × (length us ≤ m) × (further one j at n v ts ≡ further one j at m w us) → further one j at n v ts ≡ bad p k place
        go (zero, h, q) = q ∙ no_more one j at w us ∙ ap (λ (o : Out Toks). bind o (further one j at 0 w)) (sym (none_left us h) ∙ e)
        go (suc m, h, q) = q ∙ no_comma one j at w us p k place m e

    pub failed : (mid : Toks) → sign_of Comma us ≡ ok mid → one mid ≡ bad p k place → further one j at n v ts ≡ bad p k place
    failed mid comma e = go (b n l)
      where
        go : (m : ℕ) × (length us ≤ m) × (further one j at n v ts ≡ further one j at m w us) → further one j at n v ts ≡ bad p k place
        go (zero, h, q) = absurd (omega (arith, sign_fewer Comma us mid comma))
        go (suc m, h, q) = q ∙ no_argument one j at w us mid p k place m comma e

same_read : {A : Type 0} (a b : A) (us vs : Toks) → read a us ≡ read b vs → (a ≡ b) × (us ≡ vs)
same_read {A} a b us vs e =
    let q : ◌≡◌ {A = Read A} (record { got = a; rest = us }) (record { got = b; rest = vs }) = cc in
    (ap (λ (r : Read A). r.got) q, ap (λ (r : Read A). r.rest) q)

whole_join : (j : Joint) (at : ℕ) (e : Expr) (es : Args) → joined_all j at (form_of e) es ≡ form_of (join j at e es)
unfolding form_of
whole_join j at e es = refl

-- the whole call, from the outcome of its further arguments
module _ (one : Toks → Out (Read Expr)) (j : Joint) (at : ℕ) (e : Expr) (v : Form) (ts us vs : Toks) (s : sign_of OpenRound ts ≡ ok us) (first : one us ≡ read e vs) (h : v ≡ form_of e) where
  begun : joined_of one j at ts ≡ bind (args_of (length us) one vs) (λ es. read (join j at e es.got) es.rest)
  begun =
      ap (λ (o : Out Toks). bind o (λ us. bind (one us) (λ e. bind (args_of (length us) one e.rest) (λ es. read (join j at e.got es.got) es.rest)))) s
      ∙ ap (λ (o : Out (Read Expr)). bind o (λ e. bind (args_of (length us) one e.rest) (λ es. read (join j at e.got es.got) es.rest))) first

  pub joined_bad : (p : Part) (k place : ℕ) → further one j at (length us) v vs ≡ bad p k place → joined_of one j at ts ≡ bad p k place
  joined_bad p k place q = begun ∙ go (args_of (length us) one vs) q
    where
      go : (o : Out (Read Args)) → bind o (λ es. read (joined_all j at v es.got) es.rest) ≡ bad p k place → bind o (λ es. read (join j at e es.got) es.rest) ≡ bad p k place
      go (ok r) q = let z : ◌≡◌ {A = ℕ} 0 1 = cc in absurd (omega arith)
      go (bad p' k' place') q = cc

  pub joined_ok : (w : Form) (rest : Toks) → further one j at (length us) v vs ≡ read w rest → (x : Expr) × (joined_of one j at ts ≡ read x rest) × (w ≡ form_of x)
  joined_ok w rest q = let (x, a, b) = go (args_of (length us) one vs) q in (x, begun ∙ a, b)
    where
      go : (o : Out (Read Args)) → bind o (λ es. read (joined_all j at v es.got) es.rest) ≡ read w rest
          → (x : Expr) × (bind o (λ es. read (join j at e es.got) es.rest) ≡ read x rest) × (w ≡ form_of x)
      go (ok r) q =
          let (b, a) = same_read (joined_all j at v r.got) w r.rest rest q in
          (join j at e r.got, ap (λ (us : Toks). read (join j at e r.got) us) a, sym b ∙ ap (λ (u : Form). joined_all j at u r.got) h ∙ whole_join j at e r.got)
      go (bad p k place) q = let z : ◌≡◌ {A = ℕ} 0 1 = cc in absurd (omega arith)
