-- Where a form is true after terms were entered, and after unions were.
use Rattle.std.proofs.Common.{◌≡◌, ℕ, Bool, true, false, cond, leb, ◌⊎◌, List, [], ◌∷◌, ◌++◌, map, length, sym, refl, subst, inl, inr, arith}
use lib.Bits.{bit_or}
use Rattle.forms.specs.Terms.{most_terms, In, Inside, TrueOn}
use Rattle.forms.specs.Entering.{Made, made, declined, bounded, enter}
use Rattle.forms.proofs.Bits.{has_or}
use Rattle.forms.proofs.Entered.{enter_to, enter_from}
use Rattle.forms.proofs.Moving.{in_map, map_in}
use Rattle.joins.specs.Joins.{after, enter_all, unions, min_of}

-- the middle of a chain that was made
pub between : (m : Made) (k : List ℕ → Made) (h : List ℕ) → after m k ≡ made h → (f : List ℕ) × (m ≡ made f) × (k f ≡ made h)
between (made f) k h e = (f, refl, e)
between (declined n) k h e = absurd (let z : ◌≡◌ {A = ℕ} 0 1 = cc in omega arith)

pub bounded_is : (f h : List ℕ) → bounded f ≡ made h → f ≡ h
bounded_is f h = go (leb (length f) most_terms)
  where
    go : (b : Bool) → cond b (made f) (declined 8) ≡ made h → f ≡ h
    go true e = cc
    go false e = absurd (let z : ◌≡◌ {A = ℕ} 0 1 = cc in omega arith)

-- where a form is true after terms were entered
pub all_to : (P : ℕ → Type 0) (ts f h : List ℕ) → enter_all ts f ≡ made h → TrueOn h P → TrueOn f P ⊎ TrueOn ts P
all_to P [] f h e x = inl (subst (λ (y : List ℕ). TrueOn y P) (let q : h ≡ f = cc in q) x)
all_to P (t ∷ ts) f h e x =
    let (g, m, r) = between (bounded (enter t f)) (λ y. enter_all ts y) h e in
    elim (all_to P ts g h r x) [
      | inl y ↦ elim (enter_to P t f (subst (λ (z : List ℕ). TrueOn z P) (sym (bounded_is (enter t f) g m)) y))
          [ inl z ↦ inl z | inr z ↦ inr (t, inl refl, z) ]
      | inr y ↦ inr (y.0, inr y.1, y.2)
    ]

pub all_from : (P : ℕ → Type 0) (ts f h : List ℕ) → enter_all ts f ≡ made h → TrueOn f P ⊎ TrueOn ts P → TrueOn h P
all_from P [] f h e (inl x) = subst (λ (y : List ℕ). TrueOn y P) (let q : f ≡ h = cc in q) x
all_from P [] f h e (inr x) = absurd x.1
all_from P (t ∷ ts) f h e x =
    let (g, m, r) = between (bounded (enter t f)) (λ y. enter_all ts y) h e in
    all_from P ts g h r (go g (bounded_is (enter t f) g m) x)
  where
    here : (u : ℕ) → In u (t ∷ ts) → Inside u P → TrueOn (enter t f) P ⊎ TrueOn ts P
    here u (inl q) i = inl (enter_from P t f (inr (subst (λ (y : ℕ). Inside y P) q i)))
    here u (inr n) i = inr (u, n, i)

    lift : (g : List ℕ) → enter t f ≡ g → TrueOn (enter t f) P ⊎ TrueOn ts P → TrueOn g P ⊎ TrueOn ts P
    lift g q (inl y) = inl (subst (λ (z : List ℕ). TrueOn z P) q y)
    lift g q (inr y) = inr y

    go : (g : List ℕ) → enter t f ≡ g → TrueOn f P ⊎ TrueOn (t ∷ ts) P → TrueOn g P ⊎ TrueOn ts P
    go g q (inl y) = lift g q (inl (enter_from P t f (inl y)))
    go g q (inr y) = lift g q (here y.0 y.1 y.2)

-- the members of joined lists
pub in_append : (f g : List ℕ) (u : ℕ) → In u (f ++ g) → In u f ⊎ In u g
in_append [] g u m = inr m
in_append (t ∷ f) g u (inl e) = inl (inl e)
in_append (t ∷ f) g u (inr m) = elim (in_append f g u m) [ inl n ↦ inl (inr n) | inr n ↦ inr n ]

pub append_in : (f g : List ℕ) (u : ℕ) → In u f ⊎ In u g → In u (f ++ g)
append_in [] g u (inl m) = absurd m
append_in [] g u (inr m) = m
append_in (t ∷ f) g u (inl (inl e)) = inl e
append_in (t ∷ f) g u (inl (inr m)) = inr (append_in f g u (inl m))
append_in (t ∷ f) g u (inr m) = inr (append_in f g u (inr m))

-- a union is inside P where both are
pub or_inside : (P : ℕ → Type 0) (t u : ℕ) → Inside (bit_or t u) P → Inside t P × Inside u P
or_inside P t u h = ((λ c l k. h c l ((has_or t u c).1 (inl k))), λ c l k. h c l ((has_or t u c).1 (inr k)))

pub inside_or : (P : ℕ → Type 0) (t u : ℕ) → Inside t P → Inside u P → Inside (bit_or t u) P
inside_or P t u h i c l k = elim ((has_or t u c).0 k) [ inl p ↦ h c l p | inr p ↦ i c l p ]

pub unions_to : (P : ℕ → Type 0) (f g : List ℕ) → TrueOn (unions f g) P → TrueOn f P × TrueOn g P
unions_to P [] g x = absurd x.1
unions_to P (t ∷ f) g x = elim (in_append (map (λ u. bit_or t u) g) (unions f g) x.0 x.1) [
  | inl m ↦ one (in_map (λ u. bit_or t u) g x.0 m)
  | inr m ↦ rest (unions_to P f g (x.0, m, x.2))
]
  where
    one : (u : ℕ) × In u g × (x.0 ≡ bit_or t u) → TrueOn (t ∷ f) P × TrueOn g P
    one y = let i = or_inside P t y.0 (subst (λ (z : ℕ). Inside z P) y.2 x.2) in ((t, inl refl, i.0), (y.0, y.1, i.1))

    rest : TrueOn f P × TrueOn g P → TrueOn (t ∷ f) P × TrueOn g P
    rest y = ((y.0.0, inr y.0.1, y.0.2), y.1)

unions_in : (f g : List ℕ) (t u : ℕ) → In t f → In u g → In (bit_or t u) (unions f g)
unions_in [] g t u m n = absurd m
unions_in (v ∷ f) g t u (inl e) n =
    append_in (map (λ u. bit_or v u) g) (unions f g) (bit_or t u)
    (inl (subst (λ (z : ℕ). In (bit_or z u) (map (λ u. bit_or v u) g)) (sym e) (map_in (λ u. bit_or v u) g u n)))
unions_in (v ∷ f) g t u (inr m) n = append_in (map (λ u. bit_or v u) g) (unions f g) (bit_or t u) (inr (unions_in f g t u m n))

pub unions_from : (P : ℕ → Type 0) (f g : List ℕ) → TrueOn f P → TrueOn g P → TrueOn (unions f g) P
unions_from P f g x y = (bit_or x.0 y.0, unions_in f g x.0 y.0 x.1 y.1, inside_or P x.0 y.0 x.2 y.2)

module _ (P : ℕ → Type 0) (f g h : List ℕ) (e : min_of f g ≡ made h) where
  pub min_to : TrueOn h P → TrueOn f P × TrueOn g P
  min_to x = elim (all_to P (unions f g) [] h e x) [ inl y ↦ absurd y.1 | inr y ↦ unions_to P f g y ]

  pub min_from : TrueOn f P → TrueOn g P → TrueOn h P
  min_from x y = all_from P (unions f g) [] h e (inr (unions_from P f g x y))
