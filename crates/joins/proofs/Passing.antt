-- The turns of the loops of a composition, over cells and over terms.
use Rattle.std.proofs.Common.{◌≡◌, ℕ, ◌+◌, ◌<◌, ◌≤◌, Bool, true, false, ◌&&◌, List, [], ◌∷◌, map, length, get_or, drop, sym, ap, ◌∙◌, arith}
use Rattle.std.proofs.lemmas.List.{drop_more, drop_all}
use Rattle.std.proofs.lemmas.Bool.{cond-true, cond-false}
use Rattle.forms.specs.Sets.{Has, cells, cells_from, every, movable, moved}
use Rattle.forms.specs.Terms.{In, used}
use Rattle.forms.specs.Entering.{Made, made, declined}
use Rattle.forms.proofs.Listed.{cells_in, in_cells, every_in, in_every, uses_used}
use Rattle.joins.specs.Joins.{after, max_of, min_of, min_at, all_at, max_at, any_at, stays_all, compose}

-- ---- f moved to the cells of a list
module _ (f : List ℕ) (o : Made) (k : ℕ) (cs : List ℕ) (h : List ℕ) (i : min_at f (k ∷ cs) h ≡ o) (g : List ℕ) (e : g ≡ map (moved k) f) (m : Made) (w : m ≡ min_of h g) where
  at_cell_lem : after m (λ y. min_at f cs y) ≡ o
  at_cell_lem = ap (λ (y : Made). after y (λ z. min_at f cs z)) (w ∙ ap (min_of h) e) ∙ i

  pub cell_more : (y : List ℕ) → m ≡ made y → min_at f cs y ≡ o
  cell_more y r = ap (λ (x : Made). after x (λ z. min_at f cs z)) (sym r) ∙ at_cell_lem

  pub cell_stop : (n : ℕ) → m ≡ declined n → declined n ≡ o
  cell_stop n r = ap (λ (x : Made). after x (λ z. min_at f cs z)) (sym r) ∙ at_cell_lem

-- ---- the terms of e
module _ (f e : List ℕ) (o : Made) (j : ℕ) (acc : List ℕ) (i : max_at f (drop j e) acc ≡ o) where
  module _ (l : j < length e) (t : ℕ) (q : t ≡ get_or e j 0) (m : Made) (k : m ≡ all_at f (cells t)) where
    at_term_lem : after m (λ h. after (max_of acc h) (λ y. max_at f (drop (j + 1) e) y)) ≡ o
    at_term_lem = ap (λ (y : Made). after y (λ h. after (max_of acc h) (λ z. max_at f (drop (j + 1) e) z))) (k ∙ ap (λ (u : ℕ). all_at f (cells u)) q)
        ∙ ap (λ (y : List ℕ). max_at f y acc) (sym (drop_more e j 0 l)) ∙ i

    pub term_stop : (n : ℕ) → m ≡ declined n → declined n ≡ o
    term_stop n w = ap (λ (y : Made). after y (λ h. after (max_of acc h) (λ z. max_at f (drop (j + 1) e) z))) (sym w) ∙ at_term_lem

    module _ (h : List ℕ) (w : m ≡ made h) (n : Made) (v : n ≡ max_of acc h) where
      at_max : after n (λ y. max_at f (drop (j + 1) e) y) ≡ o
      at_max = ap (λ (y : Made). after y (λ z. max_at f (drop (j + 1) e) z)) v
          ∙ ap (λ (y : Made). after y (λ h. after (max_of acc h) (λ z. max_at f (drop (j + 1) e) z))) (sym w) ∙ at_term_lem

      pub max_more : (g : List ℕ) → n ≡ made g → max_at f (drop (j + 1) e) g ≡ o
      max_more g x = ap (λ (y : Made). after y (λ z. max_at f (drop (j + 1) e) z)) (sym x) ∙ at_max

      pub max_stop : (x : ℕ) → n ≡ declined x → declined x ≡ o
      max_stop x z = ap (λ (y : Made). after y (λ z. max_at f (drop (j + 1) e) z)) (sym z) ∙ at_max

  pub term_end : length e ≤ j → made acc ≡ o
  term_end l = ap (λ (y : List ℕ). max_at f y acc) (sym (drop_all j e l)) ∙ i

module _ (f e : List ℕ) (t : ℕ) (l : 0 < length e) (q : t ≡ get_or e 0 0) (m : Made) (k : m ≡ all_at f (cells t)) where
  at_first : (e : List ℕ) → 0 < length e → t ≡ get_or e 0 0 → after m (λ y. max_at f (drop 1 e) y) ≡ any_at f e
  at_first [] l q = absurd (omega arith)
  at_first (u ∷ e) l q = ap (λ (y : Made). after y (λ z. max_at f e z)) (k ∙ ap (λ (v : ℕ). all_at f (cells v)) q)

  pub first_more : (g : List ℕ) → m ≡ made g → max_at f (drop 1 e) g ≡ any_at f e
  first_more g w = ap (λ (y : Made). after y (λ z. max_at f (drop 1 e) z)) (sym w) ∙ at_first e l q

  pub first_stop : (n : ℕ) → m ≡ declined n → declined n ≡ any_at f e
  first_stop n w = ap (λ (y : Made). after y (λ z. max_at f (drop 1 e) z)) (sym w) ∙ at_first e l q

-- ---- the test of the window
pub compose_out : (e f : List ℕ) → stays_all e f ≡ false → declined 9 ≡ compose e f
unfolding compose
compose_out e f s = sym (cond-false (stays_all e f) (any_at f e) (declined 9) s)

pub compose_in : (e f : List ℕ) → stays_all e f ≡ true → any_at f e ≡ compose e f
unfolding compose
compose_in e f s = sym (cond-true (stays_all e f) (any_at f e) (declined 9) s)

pub stays_term : (e f : List ℕ) → stays_all e f ≡ true → (t : ℕ) → In t e → (c : ℕ) → c < 63 → Has t c → movable c (used f) ≡ true
unfolding stays_all
stays_term e f s t m c l h = every_in (λ k. movable k (used f)) (cells (used e)) s c (cells_in (used e) c l (uses_used e c (t, m, h)))

pub stays_cells : (e f : List ℕ) → stays_all e f ≡ true → (t : ℕ) → In t e → every (λ c. movable c (used f)) (cells t) ≡ true
stays_cells e f s t m = in_every (λ c. movable c (used f)) (cells t) (λ c n. let p = in_cells t c n in stays_term e f s t m c p.0 p.1)

pub staying : (e f : List ℕ) (u : ℕ) → u ≡ used e → every (λ k. movable k (used f)) (cells u) ≡ stays_all e f
unfolding stays_all
staying e f u d = ap (λ (y : ℕ). every (λ k. movable k (used f)) (cells y)) d
