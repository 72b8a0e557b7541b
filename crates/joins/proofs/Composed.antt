-- Where a composition is true, and when it leaves the window.
use Rattle.std.proofs.Common.{◌≡◌, ℕ, ◌^◌, ◌<◌, Bool, true, false, cond, leb, ◌⊎◌, List, [], ◌∷◌, map, length, ℤ, ◌+ℤ◌, Ok, Err, Result, sym, refl, ap, ◌∙◌, subst, inl, inr, arith}
use Rattle.std.proofs.lemmas.Bool.{cases_Bool}
use Rattle.forms.specs.declared.form.Form.{Form}
use Rattle.forms.specs.declared.faults.Fault.{Fault}
use Rattle.forms.specs.declared.faults.Fault.TheVariants.{TooManyTerms, OutsideWindow}
use Rattle.forms.specs.Window.{row_of, column_of, in_window, stays}
use Rattle.forms.specs.Sets.{Has, cells, every, movable, moved}
use Rattle.forms.specs.Terms.{most_terms, In, Inside, TrueOn, Terms, used}
use Rattle.forms.specs.Places.{Picks, TrueAt}
use Rattle.forms.specs.Entering.{Made, made, declined, bounded, enter}
use Rattle.forms.specs.Parts.{terms_of, outcome}
use Rattle.forms.proofs.Listed.{cells_in, in_cells, cells_some, every_in, uses_used, used_uses}
use Rattle.forms.proofs.Moving.{Fits, movable_fits, moved_to, moved_from}
use Rattle.forms.proofs.Whole.{sets_form}
use Rattle.joins.specs.Joins.{after, enter_all, unions, max_of, min_of, min_at, all_at, max_at, any_at, stays_all, compose}
use Rattle.joins.specs.Outcomes.{Ensured, After, Leaves, Outside}
use Rattle.joins.proofs.Entries.{between, all_to, all_from, min_to, min_from}
use Rattle.joins.proofs.Passing.{stays_term}

abbrev at : List ℕ → ℕ → List ℕ
at f c = map (moved c) f

module _ (P : ℕ → Type 0) (f : List ℕ) where
  mins_to : (cs h g : List ℕ) → min_at f cs h ≡ made g → TrueOn g P → TrueOn h P × ((c : ℕ) → In c cs → TrueOn (at f c) P)
  mins_to [] h g e x = (subst (λ (y : List ℕ). TrueOn y P) (let q : g ≡ h = cc in q) x, λ c m. absurd m)
  mins_to (c ∷ cs) h g e x =
      let (k, m, r) = between (min_of h (at f c)) (λ y. min_at f cs y) g e in
      let ih = mins_to cs k g r x in
      let b = min_to P h (at f c) k m ih.0 in
      (b.0, put b.1 ih.1)
    where
      put : TrueOn (at f c) P → ((d : ℕ) → In d cs → TrueOn (at f d) P) → (d : ℕ) → In d (c ∷ cs) → TrueOn (at f d) P
      put a b d (inl z) = subst (λ (y : ℕ). TrueOn (at f y) P) (sym z) a
      put a b d (inr n) = b d n

  mins_from : (cs h g : List ℕ) → min_at f cs h ≡ made g → TrueOn h P → ((c : ℕ) → In c cs → TrueOn (at f c) P) → TrueOn g P
  mins_from [] h g e x y = subst (λ (y : List ℕ). TrueOn y P) (let q : h ≡ g = cc in q) x
  mins_from (c ∷ cs) h g e x y =
      let (k, m, r) = between (min_of h (at f c)) (λ y. min_at f cs y) g e in
      mins_from cs k g r (min_from P h (at f c) k m x (y c (inl refl))) (λ d n. y d (inr n))

  -- f at every cell of a term
  pub term_to : (t : ℕ) (g : List ℕ) → 0 < t → t < 2 ^ 63 → all_at f (cells t) ≡ made g → TrueOn g P → Inside t (λ c. TrueOn (at f c) P)
  term_to t g p q e x c l h = go (cells t) e (cells_in t c l h)
    where
      go : (cs : List ℕ) → all_at f cs ≡ made g → In c cs → TrueOn (at f c) P
      go [] e m = absurd m
      go (d ∷ cs) e (inl z) = subst (λ (y : ℕ). TrueOn (at f y) P) (sym z) (mins_to cs (at f d) g e x).0
      go (d ∷ cs) e (inr m) = (mins_to cs (at f d) g e x).1 c m

  pub term_from : (t : ℕ) (g : List ℕ) → 0 < t → t < 2 ^ 63 → all_at f (cells t) ≡ made g → Inside t (λ c. TrueOn (at f c) P) → TrueOn g P
  term_from t g p q e x = go (cells t) (cells_some t p q) e (λ c m. x c (in_cells t c m).0 (in_cells t c m).1)
    where
      go : (cs : List ℕ) → (cs ≡ [] → ⊥) → all_at f cs ≡ made g → ((c : ℕ) → In c cs → TrueOn (at f c) P) → TrueOn g P
      go [] n e y = absurd (n refl)
      go (d ∷ cs) n e y = mins_from cs (at f d) g e (y d (inl refl)) (λ c m. y c (inr m))

  maxes_to : (ts h g : List ℕ) → Terms ts → max_at f ts h ≡ made g → TrueOn g P → TrueOn h P ⊎ TrueOn ts (λ c. TrueOn (at f c) P)
  maxes_to [] h g w e x = inl (subst (λ (y : List ℕ). TrueOn y P) (let q : g ≡ h = cc in q) x)
  maxes_to (t ∷ ts) h g w e x =
      let (m, p, r) = between (all_at f (cells t)) (λ m. after (max_of h m) (λ k. max_at f ts k)) g e in
      let (k, q, s) = between (max_of h m) (λ k. max_at f ts k) g r in
      elim (maxes_to ts k g (λ u n. w u (inr n)) s x) [
        | inr y ↦ inr (y.0, inr y.1, y.2)
        | inl y ↦ elim (all_to P m h k q y) [
          | inl z ↦ inl z
          | inr z ↦ inr (t, inl refl, term_to t m (w t (inl refl)).0 (w t (inl refl)).1 p z)
        ]
      ]

  maxes_from : (ts h g : List ℕ) → Terms ts → max_at f ts h ≡ made g → TrueOn h P ⊎ TrueOn ts (λ c. TrueOn (at f c) P) → TrueOn g P
  maxes_from [] h g w e (inl x) = subst (λ (y : List ℕ). TrueOn y P) (let q : h ≡ g = cc in q) x
  maxes_from [] h g w e (inr x) = absurd x.1
  maxes_from (t ∷ ts) h g w e x =
      let (m, p, r) = between (all_at f (cells t)) (λ m. after (max_of h m) (λ k. max_at f ts k)) g e in
      let (k, q, s) = between (max_of h m) (λ k. max_at f ts k) g r in
      maxes_from ts k g (λ u n. w u (inr n)) s (go m p k q x)
    where
      here : (m : List ℕ) → all_at f (cells t) ≡ made m → (k : List ℕ) → max_of h m ≡ made k
          → (u : ℕ) → In u (t ∷ ts) → Inside u (λ c. TrueOn (at f c) P) → TrueOn k P ⊎ TrueOn ts (λ c. TrueOn (at f c) P)
      here m p k q u (inl z) i = inl (all_from P m h k q (inr (term_from t m (w t (inl refl)).0 (w t (inl refl)).1 p
          (subst (λ (y : ℕ). Inside y (λ c. TrueOn (at f c) P)) z i))))
      here m p k q u (inr n) i = inr (u, n, i)

      go : (m : List ℕ) → all_at f (cells t) ≡ made m → (k : List ℕ) → max_of h m ≡ made k
          → TrueOn h P ⊎ TrueOn (t ∷ ts) (λ c. TrueOn (at f c) P) → TrueOn k P ⊎ TrueOn ts (λ c. TrueOn (at f c) P)
      go m p k q (inl y) = inl (all_from P m h k q (inl y))
      go m p k q (inr y) = here m p k q y.0 y.1 y.2

  pub any_to : (ts g : List ℕ) → Terms ts → any_at f ts ≡ made g → TrueOn g P → TrueOn ts (λ c. TrueOn (at f c) P)
  any_to [] g w e x = absurd (subst (λ (y : List ℕ). TrueOn y P) (let q : g ≡ [] = cc in q) x).1
  any_to (t ∷ ts) g w e x =
      let (m, p, r) = between (all_at f (cells t)) (λ m. max_at f ts m) g e in
      elim (maxes_to ts m g (λ u n. w u (inr n)) r x) [
        | inl y ↦ (t, inl refl, term_to t m (w t (inl refl)).0 (w t (inl refl)).1 p y)
        | inr y ↦ (y.0, inr y.1, y.2)
      ]

  pub any_from : (ts g : List ℕ) → Terms ts → any_at f ts ≡ made g → TrueOn ts (λ c. TrueOn (at f c) P) → TrueOn g P
  any_from [] g w e x = absurd x.1
  any_from (t ∷ ts) g w e x =
      let (m, p, r) = between (all_at f (cells t)) (λ m. max_at f ts m) g e in
      maxes_from ts m g (λ u n. w u (inr n)) r (here m p x.0 x.1 x.2)
    where
      here : (m : List ℕ) → all_at f (cells t) ≡ made m → (u : ℕ) → In u (t ∷ ts) → Inside u (λ c. TrueOn (at f c) P) → TrueOn m P ⊎ TrueOn ts (λ c. TrueOn (at f c) P)
      here m p u (inl z) i = inl (term_from t m (w t (inl refl)).0 (w t (inl refl)).1 p (subst (λ (y : ℕ). Inside y (λ c. TrueOn (at f c) P)) z i))
      here m p u (inr n) i = inr (u, n, i)

-- what was made stayed in the window
pub made_stays : (e f h : List ℕ) → compose e f ≡ made h → (stays_all e f ≡ true) × (any_at f e ≡ made h)
unfolding compose
made_stays e f h = go (stays_all e f) refl
  where
    go : (b : Bool) → stays_all e f ≡ b → cond b (any_at f e) (declined 9) ≡ made h → (stays_all e f ≡ true) × (any_at f e ≡ made h)
    go true q x = (q, x)
    go false q x = absurd (let z : ◌≡◌ {A = ℕ} 0 1 = cc in omega arith)

-- at any place, on any places
module _ (Q : ℤ → ℤ → Type 0) (r c : ℤ) (e f h : List ℕ) (we : Terms e) (wf : Terms f) (q : compose e f ≡ made h) where
  fits : (t : ℕ) → In t e → (n : ℕ) → n < 63 → Has t n → Fits n f
  fits t m n l i = movable_fits n f (stays_term e f (made_stays e f h q).0 t m n l i)

  pub compose_to : TrueAt h Q r c → TrueAt e (TrueAt f Q) r c
  compose_to x =
      let y = any_to (λ k. Q (r +ℤ row_of k) (c +ℤ column_of k)) f e h we (made_stays e f h q).1 x in
      (y.0, y.1, λ n l i. moved_to n f l wf (fits y.0 y.1 n l i) Q r c (y.2 n l i))

  pub compose_from : TrueAt e (TrueAt f Q) r c → TrueAt h Q r c
  compose_from x = any_from (λ k. Q (r +ℤ row_of k) (c +ℤ column_of k)) f e h we (made_stays e f h q).1
      (x.0, x.1, λ n l i. moved_from n f l wf (fits x.0 x.1 n l i) Q r c (x.2 n l i))

pub compose_ensured : (o : Result Form Fault) (e f : Form) → outcome o ≡ compose (terms_of e) (terms_of f) → Ensured o (After (terms_of e) (terms_of f))
compose_ensured (Ok s) e f q = λ p r c. (
  compose_to (Picks p) r c (terms_of e) (terms_of f) (terms_of s) (sets_form e) (sets_form f) (sym q),
  compose_from (Picks p) r c (terms_of e) (terms_of f) (terms_of s) (sets_form e) (sets_form f) (sym q),
)
compose_ensured (Err x) e f q = tt

-- ---- the window
pub stays_none : (e f : List ℕ) → stays_all e f ≡ true → Leaves e f → ⊥
unfolding stays_all stays
stays_none e f s x =
    let (a, b, la, lb, ua, ub, o) = x in
    let m : movable a (used f) ≡ true = every_in (λ k. movable k (used f)) (cells (used e)) s a (cells_in (used e) a la (uses_used e a ua)) in
    let n : in_window (row_of a +ℤ row_of b) (column_of a +ℤ column_of b) ≡ true = every_in (stays a) (cells (used f)) m b (cells_in (used f) b lb (uses_used f b ub)) in
    mathlib.Core.Bool.false≢true (sym o ∙ n)

every_not : (p : ℕ → Bool) (cs : List ℕ) → every p cs ≡ false → (c : ℕ) × In c cs × (p c ≡ false)
every_not p [] e = absurd (mathlib.Core.Bool.false≢true (sym e))
every_not p (c ∷ cs) e = elim (cases_Bool (p c)) [
  | inl q ↦ (let (d, m, r) = every_not p cs (ap (λ (b : Bool). mathlib.Core.Bool.◌&&◌ b (every p cs)) (sym q) ∙ e) in (d, inr m, r))
  | inr q ↦ (c, inl refl, q)
]

pub stays_leaves : (e f : List ℕ) → stays_all e f ≡ false → Leaves e f
unfolding stays_all stays
stays_leaves e f s =
    let (a, m, q) = every_not (λ k. movable k (used f)) (cells (used e)) s in
    let (b, n, r) = every_not (stays a) (cells (used f)) q in (
      a,
      b,
      (in_cells (used e) a m).0,
      (in_cells (used f) b n).0,
      used_uses e a (in_cells (used e) a m).1,
      used_uses f b (in_cells (used f) b n).1,
      r,
    )

-- only too many terms decline a composition that stays in the window
tried : (m : Made) (k : List ℕ → Made) (n : ℕ) → after m k ≡ declined n → (m ≡ declined n) ⊎ ((f : List ℕ) × (k f ≡ declined n))
tried (made f) k n e = inr (f, e)
tried (declined x) k n e = inl e

bounded_eight : (f : List ℕ) (n : ℕ) → bounded f ≡ declined n → n ≡ 8
bounded_eight f n = go (leb (length f) most_terms)
  where
    go : (b : Bool) → cond b (made f) (declined 8) ≡ declined n → n ≡ 8
    go true e = absurd (let z : ◌≡◌ {A = ℕ} 0 1 = cc in omega arith)
    go false e = cc

enter_eight : (ts f : List ℕ) (n : ℕ) → enter_all ts f ≡ declined n → n ≡ 8
enter_eight [] f n e = absurd (let z : ◌≡◌ {A = ℕ} 0 1 = cc in omega arith)
enter_eight (t ∷ ts) f n e = elim (tried (bounded (enter t f)) (λ h. enter_all ts h) n e)
    [ inl q ↦ bounded_eight (enter t f) n q | inr x ↦ enter_eight ts x.0 n x.1 ]

min_eight : (f cs h : List ℕ) (n : ℕ) → min_at f cs h ≡ declined n → n ≡ 8
min_eight f [] h n e = absurd (let z : ◌≡◌ {A = ℕ} 0 1 = cc in omega arith)
min_eight f (c ∷ cs) h n e = elim (tried (min_of h (at f c)) (λ k. min_at f cs k) n e)
    [ inl q ↦ enter_eight (unions h (at f c)) [] n q | inr x ↦ min_eight f cs x.0 n x.1 ]

all_eight : (f cs : List ℕ) (n : ℕ) → all_at f cs ≡ declined n → n ≡ 8
all_eight f [] n e = absurd (let z : ◌≡◌ {A = ℕ} 0 1 = cc in omega arith)
all_eight f (c ∷ cs) n e = min_eight f cs (at f c) n e

max_eight : (f ts h : List ℕ) (n : ℕ) → max_at f ts h ≡ declined n → n ≡ 8
max_eight f [] h n e = absurd (let z : ◌≡◌ {A = ℕ} 0 1 = cc in omega arith)
max_eight f (t ∷ ts) h n e = elim (tried (all_at f (cells t)) (λ m. after (max_of h m) (λ k. max_at f ts k)) n e) [
  | inl q ↦ all_eight f (cells t) n q
  | inr x ↦ elim (tried (max_of h x.0) (λ k. max_at f ts k) n x.1)
      [ inl q ↦ enter_eight x.0 h n q | inr y ↦ max_eight f ts y.0 n y.1 ]
]

any_eight : (f ts : List ℕ) (n : ℕ) → any_at f ts ≡ declined n → n ≡ 8
any_eight f [] n e = absurd (let z : ◌≡◌ {A = ℕ} 0 1 = cc in omega arith)
any_eight f (t ∷ ts) n e = elim (tried (all_at f (cells t)) (λ m. max_at f ts m) n e)
    [ inl q ↦ all_eight f (cells t) n q | inr x ↦ max_eight f ts x.0 n x.1 ]

pub compose_window : (o : Result Form Fault) (e f : List ℕ) → stays_all e f ≡ true → outcome o ≡ any_at f e → Outside o e f
compose_window (Ok h) e f s q = stays_none e f s
compose_window (Err TooManyTerms) e f s q = stays_none e f s
compose_window (Err OutsideWindow) e f s q = absurd (let z : 9 ≡ 8 = any_eight f e 9 (sym q) in omega arith)
