-- The list of a set's cells, and the set of a list's cells.
use Rattle.std.proofs.Common.{◌≡◌, ℕ, zero, suc, ◌+◌, ◌-◌, ◌^◌, ◌<◌, ◌≤◌, Bool, true, false, eqb, ◌⊎◌, List, [], ◌∷◌, Decides, sym, refl, ap, ◌∙◌, subst, inl, inr, arith}
use lib.Bits.{bit_or}
use Rattle.std.proofs.lemmas.Nat.{shr_le}
use Rattle.std.proofs.lemmas.Bool.{eqb-true, eqb-false, cases_order, and_parts, and_from}
use Rattle.forms.specs.Sets.{bit, Has, single, only_if, cells_below, cells, set_of, every}
use Rattle.forms.specs.Terms.{In, Terms, Uses, used_from, used}
use Rattle.forms.proofs.Bits.{ext, has_or, has_single, single_has, single_small, or_small, or_some}

-- the list holds just the cells
in_below : (n t c : ℕ) → n ≤ 63 → In c (cells_below n t) → (c < 63) × Has t c
unfolding cells_below
in_below zero t c l = λ m. absurd m
in_below (suc n) t c l = go (in_below n t c (omega arith)) (eqb (bit t n) 1) refl
  where
    back : 62 - (62 - n) ≡ n
    back = omega arith

    at : bit t n ≡ 1 → Has t (62 - n)
    at h = subst (λ (j : ℕ). bit t j ≡ 1) (sym back) h

    go : (In c (cells_below n t) → (c < 63) × Has t c) → (b : Bool) → eqb (bit t n) 1 ≡ b
        → In c (only_if b (62 - n) (cells_below n t)) → (c < 63) × Has t c
    go ih true e (inl p) = (omega arith, subst (λ (y : ℕ). Has t y) (sym p) (at (eqb-true (bit t n) 1 e)))
    go ih true e (inr m) = ih m
    go ih false e m = ih m

below_in : (n t c k : ℕ) → k < n → bit t k ≡ 1 → c ≡ 62 - k → In c (cells_below n t)
unfolding cells_below
below_in zero t c k l h e = absurd (omega arith)
below_in (suc n) t c k l h e = go (λ m. below_in n t c k m h e) (eqb (bit t n) 1) refl (cases_order k n)
  where
    go : (k < n → In c (cells_below n t)) → (b : Bool) → eqb (bit t n) 1 ≡ b → (k ≡ n) ⊎ ((k < n) ⊎ (n < k))
        → In c (only_if b (62 - n) (cells_below n t))
    go ih true x (inl p) = inl (omega arith)
    go ih true x (inr (inl q)) = inr (ih q)
    go ih true x (inr (inr r)) = absurd (omega arith)
    go ih false x (inl p) = absurd (eqb-false (bit t n) 1 x (subst (λ (j : ℕ). bit t j ≡ 1) p h))
    go ih false x (inr (inl q)) = ih q
    go ih false x (inr (inr r)) = absurd (omega arith)

pub in_cells : (t c : ℕ) → In c (cells t) → (c < 63) × Has t c
unfolding cells
in_cells t c m = in_below 63 t c (omega arith) m

pub cells_in : (t c : ℕ) → c < 63 → Has t c → In c (cells t)
unfolding cells
cells_in t c l h = below_in 63 t c (62 - c) (omega arith) h (omega arith)

pub cells_some : (t : ℕ) → 0 < t → t < 2 ^ 63 → cells t ≡ [] → ⊥
cells_some t p q e = let z : t ≡ 0 = ext 63 t 0 q (omega arith) none in omega arith
  where
    zeros : (k : ℕ) → bit 0 k ≡ 0
    zeros k = omega (arith, shr_le 0 k)

    back : (k : ℕ) → k < 63 → 62 - (62 - k) ≡ k
    back k l = omega arith

    no : (k : ℕ) → k < 63 → bit t k ≡ 1 → ⊥
    no k l h = subst (λ (y : List ℕ). In (62 - k) y) e (cells_in t (62 - k) (omega arith) (subst (λ (j : ℕ). bit t j ≡ 1) (sym (back k l)) h))

    none : (k : ℕ) → k < 63 → bit t k ≡ bit 0 k
    none k l = let n : bit t k ≡ 1 → ⊥ = no k l in omega (arith, zeros k)

-- ---- the cells from number n on, as loops go through them
pub cells_whole : (t : ℕ) → cells t ≡ cells_below (63 - 0) t
unfolding cells
cells_whole t = refl

pub below_suc : (n t : ℕ) → cells_below (suc n) t ≡ only_if (eqb (bit t n) 1) (62 - n) (cells_below n t)
unfolding cells_below
below_suc n t = refl

pub below_zero : (t : ℕ) → cells_below 0 t ≡ []
unfolding cells_below
below_zero t = refl

pub decided : (r : Bool) (a b : ℕ) → Decides r (a ≡ b) → r ≡ eqb a b
decided r a b d = go r (eqb a b) refl refl
  where
    go : (x y : Bool) → r ≡ x → eqb a b ≡ y → x ≡ y
    go true true p q = refl
    go false false p q = refl
    go true false p q = absurd (eqb-false a b q (d.0 p))
    go false true p q = absurd (mathlib.Core.Bool.false≢true (sym p ∙ d.1 (eqb-true a b q)))

module _ (t c : ℕ) (l : c < 63) (b : Bool) (d : Decides b (Has t c)) where
  here : cells_below (63 - c) t ≡ only_if b c (cells_below (63 - (c + 1)) t)
  here =
      let e : 63 - c ≡ suc (62 - c) = omega arith in
      let k : 62 - c ≡ 63 - (c + 1) = omega arith in
      let z : 62 - (62 - c) ≡ c = omega arith in
      ap (λ (n : ℕ). cells_below n t) e ∙ below_suc (62 - c) t
      ∙ ap (λ (v : Bool). only_if v (62 - (62 - c)) (cells_below (62 - c) t)) (sym (decided b (bit t (62 - c)) 1 d))
      ∙ ap (λ (i : ℕ). only_if b i (cells_below (62 - c) t)) z
      ∙ ap (λ (n : ℕ). only_if b c (cells_below n t)) k

  pub cells_more : b ≡ true → cells_below (63 - c) t ≡ c ∷ cells_below (63 - (c + 1)) t
  cells_more r = here ∙ ap (λ (v : Bool). only_if v c (cells_below (63 - (c + 1)) t)) r

  pub cells_skip : b ≡ false → cells_below (63 - c) t ≡ cells_below (63 - (c + 1)) t
  cells_skip r = here ∙ ap (λ (v : Bool). only_if v c (cells_below (63 - (c + 1)) t)) r

pub cells_none : (t c : ℕ) → 63 ≤ c → cells_below (63 - c) t ≡ []
cells_none t c l = ap (λ (n : ℕ). cells_below n t) (let e : 63 - c ≡ 0 = omega arith in e) ∙ below_zero t

-- ---- the set of a list's cells
abbrev pub Low : List ℕ → Type 0
Low cs = (c : ℕ) → In c cs → c < 63

no_bits : (k : ℕ) → bit 0 k ≡ 0
no_bits k = omega (arith, shr_le 0 k)

pub set_has : (cs : List ℕ) → Low cs → (c : ℕ) → c < 63 → Has (set_of cs) c → In c cs
set_has [] w c l h = absurd (omega (arith, h, no_bits (62 - c)))
set_has (d ∷ cs) w c l h = elim ((has_or (single d) (set_of cs) c).0 h)
    [ inl p ↦ inl (single_has d c (w d (inl refl)) l p) | inr p ↦ inr (set_has cs (λ k m. w k (inr m)) c l p) ]

pub has_set : (cs : List ℕ) (c : ℕ) → In c cs → Has (set_of cs) c
has_set [] c m = absurd m
has_set (d ∷ cs) c (inl e) = (has_or (single d) (set_of cs) c).1 (inl (subst (λ (y : ℕ). Has (single d) y) (sym e) (has_single d)))
has_set (d ∷ cs) c (inr m) = (has_or (single d) (set_of cs) c).1 (inr (has_set cs c m))

pub set_small : (cs : List ℕ) → set_of cs < 2 ^ 63
set_small [] = omega arith
set_small (d ∷ cs) = or_small (single d) (set_of cs) (single_small d) (set_small cs)

-- ---- a test of every one
pub every_in : (p : ℕ → Bool) (cs : List ℕ) → every p cs ≡ true → (c : ℕ) → In c cs → p c ≡ true
every_in p [] e c m = absurd m
every_in p (d ∷ cs) e c (inl q) = ap p q ∙ (and_parts (p d) (every p cs) e).0
every_in p (d ∷ cs) e c (inr m) = every_in p cs (and_parts (p d) (every p cs) e).1 c m

pub in_every : (p : ℕ → Bool) (cs : List ℕ) → ((c : ℕ) → In c cs → p c ≡ true) → every p cs ≡ true
in_every p [] h = refl
in_every p (d ∷ cs) h = and_from (p d) (every p cs) (h d (inl refl)) (in_every p cs (λ c m. h c (inr m)))

-- ---- the cells that terms use
used_keeps : (a : ℕ) (f : List ℕ) (c : ℕ) → Has a c → Has (used_from a f) c
used_keeps a [] c h = h
used_keeps a (t ∷ f) c h = used_keeps (bit_or a t) f c ((has_or a t c).1 (inl h))

used_has : (a : ℕ) (f : List ℕ) (t c : ℕ) → In t f → Has t c → Has (used_from a f) c
used_has a [] t c m h = absurd m
used_has a (u ∷ f) t c (inl e) h = used_keeps (bit_or a u) f c ((has_or a u c).1 (inr (subst (λ (y : ℕ). Has y c) e h)))
used_has a (u ∷ f) t c (inr m) h = used_has (bit_or a u) f t c m h

has_used : (a : ℕ) (f : List ℕ) (c : ℕ) → Has (used_from a f) c → Has a c ⊎ Uses f c
has_used a [] c h = inl h
has_used a (t ∷ f) c h = elim (has_used (bit_or a t) f c h) [
  | inr u ↦ inr (u.0, inr u.1, u.2)
  | inl p ↦ elim ((has_or a t c).0 p) [ inl q ↦ inl q | inr q ↦ inr (t, inl refl, q) ]
]

pub uses_used : (f : List ℕ) (c : ℕ) → Uses f c → Has (used f) c
uses_used f c u = used_has 0 f u.0 c u.1 u.2

pub used_uses : (f : List ℕ) (c : ℕ) → Has (used f) c → Uses f c
used_uses f c h = elim (has_used 0 f c h) [ inl p ↦ absurd (omega (arith, p, no_bits (62 - c))) | inr u ↦ u ]

pub used_small : (a : ℕ) (f : List ℕ) → a < 2 ^ 63 → Terms f → used_from a f < 2 ^ 63
used_small a [] l w = l
used_small a (t ∷ f) l w = used_small (bit_or a t) f (or_small a t l (w t (inl refl)).1) (λ u m. w u (inr m))

used_grows : (a : ℕ) (f : List ℕ) → 0 < a → 0 < used_from a f
used_grows a [] l = l
used_grows a (t ∷ f) l = used_grows (bit_or a t) f (or_some a t l)

pub used_some : (f : List ℕ) (t : ℕ) → In t f → Terms f → 0 < used f
used_some [] t m w = absurd m
used_some (u ∷ f) t m w = used_grows (bit_or 0 u) f (subst (λ (y : ℕ). 0 < y) (lib.Bits.or_comm u 0) (or_some u 0 (w u (inl refl)).0))

-- the first cell of what is left is a cell of the set
pub from_has : (t from k : ℕ) (rest : List ℕ) → cells_below (63 - from) t ≡ k ∷ rest → Has t k
from_has t from k rest e = (in_below (63 - from) t k (omega arith) (subst (λ (y : List ℕ). In k y) (sym e) (inl refl))).1

pub first_has : (t k : ℕ) (rest : List ℕ) → cells t ≡ k ∷ rest → Has t k
first_has t k rest e = (in_cells t k (subst (λ (y : List ℕ). In k y) (sym e) (inl refl))).1
