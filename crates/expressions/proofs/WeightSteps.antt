-- Reading weighed cells one by one.
use Rattle.std.proofs.Common.{◌≡◌, ℕ, zero, suc, ◌<◌, ◌≤◌, Bool, true, false, cond, not, ◌&&◌, eqb, leb, List, [], ◌∷◌, ◌++◌, length, drop, Ok, Err, Result, sym, refl, ap, ◌∙◌, subst, ap₂, append_assoc, arith, length-append, eq-eqb, eqb-true, le-leb, leb-true}
use mathlib.Core.Bool.{false≢true}
use Rattle.std.proofs.lemmas.Bool.{and_parts}
use Rattle.filters.specs.declared.weights.Weights.{Weights}
use Rattle.filters.specs.declared.weights.adding.WeightsFault.{WeightsFault}
use Rattle.filters.specs.declared.weights.adding.WeightsFault.TheVariants.{Full, Repeated}
use Rattle.filters.specs.Basic.{Weighed, most_cells, total, lacks, different, weight_rule}
use Rattle.filters.specs.Weights.{listed, Added}
use Rattle.filters.proofs.Weighing.{listed_few}
use Rattle.letters.specs.declared.tokens.Sign.TheVariants.{OpenRound}
use Rattle.grammar.specs.declared.faults.Part.{Part}
use Rattle.grammar.specs.declared.faults.Part.TheVariants.{Grammar}
use Rattle.grammar.specs.Expr.{weight, most_weight}
use Rattle.grammar.specs.Reading.{Out, ok, bad, bind, Toks, Read, read, closes, sign_of, amount_of, ruled, weighed_of, weights_of, weighted_of}
use Rattle.grammar.proofs.LeafFronts.{amount_fewer, weighed_fewer}
use Rattle.expressions.specs.Outcomes.{few, Lists}

-- cells that were read before
abbrev pub prefixed : List Weighed → Out (Read (List Weighed)) → Out (Read (List Weighed))
prefixed xs (ok r) = ok (record { got = xs ++ r.got; rest = r.rest })
prefixed xs (bad p n at) = bad p n at

none : (o : Out (Read (List Weighed))) → o ≡ prefixed [] o
none (ok r) = refl
none (bad p n at) = refl

twice : (xs ys : List Weighed) (o : Out (Read (List Weighed))) → prefixed xs (prefixed ys o) ≡ prefixed (xs ++ ys) o
twice xs ys (ok r) = ap (λ (zs : List Weighed). read zs r.rest) (sym (append_assoc xs ys r.got))
twice xs ys (bad p n at) = refl

-- the cells xs stand in front of the second tokens, and what follows is read from there
abbrev pub Between : Toks → Toks → List Weighed → Type 0
Between ts us xs = (n : ℕ) → length ts ≤ n → (m : ℕ) × (length us ≤ m) × (weights_of n ts ≡ prefixed xs (weights_of m us))

pub start : (ts : Toks) → Between ts ts []
start ts n l = (n, l, none (weights_of n ts))

module _ (x : Weighed) (ts us : Toks) (e : weighed_of ts ≡ read x us) where
  goes_on : (n : ℕ) → closes us ≡ false → weights_of (suc n) ts ≡ prefixed (x ∷ []) (weights_of n us)
  unfolding weights_of
  goes_on n c =
      ap (λ (o : Out (Read Weighed)). bind o (λ x. cond (closes x.rest) (read (x.got ∷ []) (drop 1 x.rest)) (bind (weights_of n x.rest) (λ xs. read (x.got ∷ xs.got) xs.rest)))) e
      ∙ ap (λ (b : Bool). cond b (read (x ∷ []) (drop 1 us)) (bind (weights_of n us) (λ xs. read (x ∷ xs.got) xs.rest))) c
      ∙ pushed (weights_of n us)
    where
      pushed : (o : Out (Read (List Weighed))) → bind o (λ xs. read (x ∷ xs.got) xs.rest) ≡ prefixed (x ∷ []) o
      pushed (ok r) = refl
      pushed (bad p k at) = refl

  stops : (n : ℕ) → closes us ≡ true → weights_of (suc n) ts ≡ read (x ∷ []) (drop 1 us)
  unfolding weights_of
  stops n c =
      ap (λ (o : Out (Read Weighed)). bind o (λ x. cond (closes x.rest) (read (x.got ∷ []) (drop 1 x.rest)) (bind (weights_of n x.rest) (λ xs. read (x.got ∷ xs.got) xs.rest)))) e
      ∙ ap (λ (b : Bool). cond b (read (x ∷ []) (drop 1 us)) (bind (weights_of n us) (λ xs. read (x ∷ xs.got) xs.rest))) c

module _ (ts us end : Toks) (xs : List Weighed) (x : Weighed) (e : weighed_of us ≡ read x end) (b : Between ts us xs) where
  pub more : closes end ≡ false → Between ts end (xs ++ x ∷ [])
  more c n l = go (b n l)
    where
      go : (m : ℕ) × (length us ≤ m) × (weights_of n ts ≡ prefixed xs (weights_of m us)) → (m : ℕ) × (length end ≤ m) × (weights_of n ts ≡ prefixed (xs ++ x ∷ []) (weights_of m end))
      go (zero, k, q) = absurd (omega (arith, weighed_fewer x us end e))
      go (suc m, k, q) = (m, omega (arith, weighed_fewer x us end e), q ∙ ap (prefixed xs) (goes_on x us end e m c) ∙ twice xs (x ∷ []) (weights_of m end))

  pub finished : closes end ≡ true → (n : ℕ) → length ts ≤ n → weights_of n ts ≡ read (xs ++ x ∷ []) (drop 1 end)
  finished c n l = go (b n l)
    where
      go : (m : ℕ) × (length us ≤ m) × (weights_of n ts ≡ prefixed xs (weights_of m us)) → weights_of n ts ≡ read (xs ++ x ∷ []) (drop 1 end)
      go (zero, k, q) = absurd (omega (arith, weighed_fewer x us end e))
      go (suc m, k, q) = q ∙ ap (prefixed xs) (stops x us end e m c)

-- no cell stands where no token does, and there no more of them are read
none_left : (us : Toks) → length us ≤ 0 → weighed_of us ≡ bad Grammar 3 0
unfolding weighed_of
none_left [] l = refl
none_left (t ∷ us) l = absurd (omega arith)

pub failed : (ts us : Toks) (xs : List Weighed) (p : Part) (k place : ℕ) → Between ts us xs → weighed_of us ≡ bad p k place → (n : ℕ) → length ts ≤ n → weights_of n ts ≡ bad p k place
unfolding weights_of
failed ts us xs p k place b e n l = go (b n l)
  where
    go : (m : ℕ) × (length us ≤ m) × (weights_of n ts ≡ prefixed xs (weights_of m us)) → weights_of n ts ≡ bad p k place
    go (zero, h, q) = q ∙ ap (λ (o : Out (Read Weighed)). bind o (λ x. weights_of 0 x.rest)) (sym (none_left us h) ∙ e)
    go (suc m, h, q) = q ∙ ap (λ (o : Out (Read Weighed)). prefixed xs (bind o (λ x. cond (closes x.rest) (read (x.got ∷ []) (drop 1 x.rest)) (bind (weights_of m x.rest) (λ xs. read (x.got ∷ xs.got) xs.rest))))) e

-- ---- few and different

not_same : (a b : ℕ) → not (eqb a b) ≡ true → not (eqb b a) ≡ true
not_same a b e = go (eqb b a) refl
  where
    go : (s : Bool) → eqb b a ≡ s → not s ≡ true
    go true q = absurd (false≢true (sym (ap not (eq-eqb a b (sym (eqb-true b a q)))) ∙ e))
    go false q = refl

lacks_last : (c : ℕ) (xs : List Weighed) (x : Weighed) → lacks c (xs ++ x ∷ []) ≡ true → (lacks c xs ≡ true) × (not (eqb c x.cell) ≡ true)
lacks_last c [] x e = (refl, (and_parts (not (eqb c x.cell)) true e).0)
lacks_last c (y ∷ ys) x e =
    let (p, q) = and_parts (not (eqb c y.cell)) (lacks c (ys ++ x ∷ [])) e in
    let (r, s) = lacks_last c ys x q in
    (ap₂ ◌&&◌ p r, s)

apart_last : (xs : List Weighed) (x : Weighed) → different (xs ++ x ∷ []) ≡ true → (different xs ≡ true) × (lacks x.cell xs ≡ true)
apart_last [] x e = (refl, refl)
apart_last (y ∷ ys) x e =
    let (p, q) = and_parts (lacks y.cell (ys ++ x ∷ [])) (different (ys ++ x ∷ [])) e in
    let (r, s) = lacks_last y.cell ys x p in
    let (t, u) = apart_last ys x q in
    (ap₂ ◌&&◌ r t, ap₂ ◌&&◌ (not_same y.cell x.cell s) u)

few_last : (xs : List Weighed) (x : Weighed) → few (xs ++ x ∷ []) ≡ true → (few xs ≡ true) × (lacks x.cell xs ≡ true) × (length xs < most_cells)
few_last xs x e =
    let (p, q) = and_parts (leb (length (xs ++ x ∷ [])) most_cells) (different (xs ++ x ∷ [])) e in
    let (r, s) = apart_last xs x q in
    let l : length xs < most_cells = omega (arith, leb-true (length (xs ++ x ∷ [])) most_cells p, length-append xs (x ∷ [])) in
    (ap₂ ◌&&◌ (le-leb (length xs) most_cells (omega arith)) r, s, l)

refuted : (b : Bool) → (b ≡ true → ⊥) → b ≡ false
refuted true h = absurd (h refl)
refuted false h = refl

-- where one more cell is not added, they are not few and different with it
pub not_added : (e : WeightsFault) (xs ys : List Weighed) (x : Weighed) → Added (Err e) x.cell x.times xs ys → few (xs ++ x ∷ []) ≡ false
not_added Full xs ys x d = refuted (few (xs ++ x ∷ [])) (λ e. omega (arith, (few_last xs x e).2, d.0))
not_added Repeated xs ys x d = refuted (few (xs ++ x ∷ [])) (λ e. false≢true (sym d.1 ∙ (few_last xs x e).1))

-- once there are too many or a repeated one, there are with one more
pub never_few : (xs : List Weighed) (x : Weighed) → few xs ≡ false → few (xs ++ x ∷ []) ≡ false
never_few xs x h = refuted (few (xs ++ x ∷ [])) (λ e. false≢true (sym h ∙ (few_last xs x e).0))

-- ---- the rule of the whole list

pub rule_kept : (w : Weights) (k : ℕ) → k ≤ total (listed w) → weight_rule k (listed w) ≡ true
rule_kept w k l =
    ap₂ ◌&&◌ (ap₂ ◌&&◌ (le-leb (length (listed w)) most_cells (listed_few w)) w.apart) (le-leb k (total (listed w)) l)

-- ---- the whole call

module _ (at k : ℕ) (ts us vs : Toks) (s : sign_of OpenRound ts ≡ ok us) (a : amount_of 1 most_weight us ≡ read k vs) where
  begun : weighted_of at ts ≡ bind (weights_of (length us) vs) (λ xs. ruled at (weight_rule k xs.got) (read (weight at k xs.got) xs.rest))
  begun =
      ap (λ (o : Out Toks). bind o (λ us. bind (amount_of 1 most_weight us) (λ k. bind (weights_of (length us) k.rest) (λ xs. ruled at (weight_rule k.got xs.got) (read (weight at k.got xs.got) xs.rest))))) s
      ∙ ap (λ (o : Out (Read ℕ)). bind o (λ k. bind (weights_of (length us) k.rest) (λ xs. ruled at (weight_rule k.got xs.got) (read (weight at k.got xs.got) xs.rest)))) a

  fewer : length vs ≤ length us
  fewer = omega (arith, amount_fewer 1 most_weight k us vs a)

  abbrev Listed : Result Weights WeightsFault → Toks → Type 0
  Listed w rest = (m : ℕ) → length vs ≤ m → (xs : List Weighed) × (weights_of m vs ≡ read xs rest) × Lists w xs

  ruled_by : (xs : List Weighed) (rest : Toks) (b : Bool) → weights_of (length us) vs ≡ read xs rest → weight_rule k xs ≡ b → weighted_of at ts ≡ ruled at b (read (weight at k xs) rest)
  ruled_by xs rest b e q =
      begun ∙ ap (λ (o : Out (Read (List Weighed))). bind o (λ xs. ruled at (weight_rule k xs.got) (read (weight at k xs.got) xs.rest))) e
      ∙ ap (λ (c : Bool). ruled at c (read (weight at k xs) rest)) q

  pub weighted_ok : (w : Weights) (rest : Toks) → Listed (Ok w) rest → k ≤ total (listed w) → weighted_of at ts ≡ read (weight at k (listed w)) rest
  weighted_ok w rest h l =
      let (xs, e, q) = h (length us) fewer in
      ruled_by (listed w) rest true (subst (λ (ys : List Weighed). weights_of (length us) vs ≡ read ys rest) (sym q) e) (rule_kept w k l)
