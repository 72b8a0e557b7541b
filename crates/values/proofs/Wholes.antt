-- The terms of a form, and what joins make of them: there are some, and each is a set of cells that is not empty.
use Rattle.std.proofs.Common.{◌≡◌, ℕ, ◌^◌, ◌<◌, List, [], ◌∷◌, map, length, pos, sym, refl, ap, subst, inl, inr, arith}
use lib.Bits.{bit_or}
use Rattle.forms.specs.declared.form.Form.{Form}
use Rattle.forms.specs.Sets.{cells, moved}
use Rattle.forms.specs.Terms.{In, Terms, TrueOn}
use Rattle.forms.specs.Entering.{enter, made, bounded}
use Rattle.forms.specs.Parts.{terms_of}
use Rattle.forms.proofs.Bits.{or_some, or_small}
use Rattle.forms.proofs.Entered.{enter_terms}
use Rattle.forms.proofs.Listed.{in_cells}
use Rattle.forms.proofs.Moving.{in_map, movable_fits, moved_terms}
use Rattle.forms.proofs.Whole.{sets_form, size_some}
use Rattle.joins.specs.Joins.{after, enter_all, unions, max_of, min_of, min_at, all_at, max_at, any_at, compose}
use Rattle.joins.proofs.Entries.{between, bounded_is, in_append, all_from, min_from}
use Rattle.joins.proofs.Passing.{stays_term}
use Rattle.joins.proofs.Composed.{made_stays, compose_from}
use Rattle.values.specs.Laws.{Whole}

pub whole_form : (f : Form) → Whole (terms_of f)
whole_form f = record { some = λ e. omega (arith, ap length e, size_some f); sets = sets_form f }

pub some_term : (f : List ℕ) → (f ≡ [] → ⊥) → (t : ℕ) × In t f
some_term [] n = absurd (n refl)
some_term (t ∷ f) n = (t, inl refl)

-- a list of terms is true on all cells exactly when there are some
true_some : (h : List ℕ) → TrueOn h (λ c. Unit {0}) → h ≡ [] → ⊥
true_some h x e = subst (λ (y : List ℕ). In x.0 y) e x.1

some_true : (f : List ℕ) → Whole f → TrueOn f (λ c. Unit {0})
some_true f w = let (t, m) = some_term f w.some in (t, m, λ c l k. tt)

all_terms : (ts f h : List ℕ) → Terms ts → Terms f → enter_all ts f ≡ made h → Terms h
all_terms [] f h w v e = subst Terms (let q : f ≡ h = cc in q) v
all_terms (t ∷ ts) f h w v e =
    let (k, a, b) = between (bounded (enter t f)) (λ g. enter_all ts g) h e in
    all_terms ts k h (λ u m. w u (inr m)) (subst Terms (bounded_is (enter t f) k a) (enter_terms t f (w t (inl refl)).0 (w t (inl refl)).1 v)) b

unions_terms : (f g : List ℕ) → Terms f → Terms g → Terms (unions f g)
unions_terms [] g w v u m = absurd m
unions_terms (t ∷ f) g w v u m = elim (in_append (map (λ y. bit_or t y) g) (unions f g) u m) [
  | inl i ↦ (let (y, n, e) = in_map (λ z. bit_or t z) g u i in
      subst (λ (z : ℕ). (0 < z) × (z < 2 ^ 63)) (sym e) (or_some t y (w t (inl refl)).0, or_small t y (w t (inl refl)).1 (v y n).1))
  | inr i ↦ unions_terms f g (λ z n. w z (inr n)) v u i
]

min_terms : (f g h : List ℕ) → Terms f → Terms g → min_of f g ≡ made h → Terms h
min_terms f g h w v e = all_terms (unions f g) [] h (unions_terms f g w v) (λ u m. absurd m) e

pub max_whole : (f g h : List ℕ) → Whole f → Whole g → max_of f g ≡ made h → Whole h
max_whole f g h w v e = record {
  some = true_some h (all_from (λ c. Unit {0}) g f h e (inl (some_true f w)));
  sets = all_terms g f h v.sets w.sets e;
}

pub min_whole : (f g h : List ℕ) → Whole f → Whole g → min_of f g ≡ made h → Whole h
min_whole f g h w v e = record {
  some = true_some h (min_from (λ c. Unit {0}) f g h e (some_true f w) (some_true g v));
  sets = min_terms f g h w.sets v.sets e;
}

-- f moved to each of some cells has terms
abbrev Moved : List ℕ → List ℕ → Type 0
Moved f cs = (c : ℕ) → In c cs → Terms (map (moved c) f)

min_at_terms : (f cs h k : List ℕ) → Moved f cs → Terms h → min_at f cs h ≡ made k → Terms k
min_at_terms f [] h k s w e = subst Terms (let q : h ≡ k = cc in q) w
min_at_terms f (c ∷ cs) h k s w e =
    let (g, a, b) = between (min_of h (map (moved c) f)) (λ y. min_at f cs y) k e in
    min_at_terms f cs g k (λ d m. s d (inr m)) (min_terms h (map (moved c) f) g w (s c (inl refl)) a) b

all_at_terms : (f cs k : List ℕ) → Moved f cs → all_at f cs ≡ made k → Terms k
all_at_terms f [] k s e = subst Terms (let q : [] ≡ k = cc in q) (λ u m. absurd m)
all_at_terms f (c ∷ cs) k s e = min_at_terms f cs (map (moved c) f) k (λ d m. s d (inr m)) (s c (inl refl)) e

max_at_terms : (f ts h k : List ℕ) → ((t : ℕ) → In t ts → Moved f (cells t)) → Terms h → max_at f ts h ≡ made k → Terms k
max_at_terms f [] h k s w e = subst Terms (let q : h ≡ k = cc in q) w
max_at_terms f (t ∷ ts) h k s w e =
    let (g, a, b) = between (all_at f (cells t)) (λ m. after (max_of h m) (λ y. max_at f ts y)) k e in
    let (j, c, d) = between (max_of h g) (λ y. max_at f ts y) k b in
    max_at_terms f ts j k (λ u m. s u (inr m)) (all_terms g h j (all_at_terms f (cells t) g (s t (inl refl)) a) w c) d

any_at_terms : (f ts k : List ℕ) → ((t : ℕ) → In t ts → Moved f (cells t)) → any_at f ts ≡ made k → Terms k
any_at_terms f [] k s e = subst Terms (let q : [] ≡ k = cc in q) (λ u m. absurd m)
any_at_terms f (t ∷ ts) k s e =
    let (g, a, b) = between (all_at f (cells t)) (λ m. max_at f ts m) k e in
    max_at_terms f ts g k (λ u m. s u (inr m)) (all_at_terms f (cells t) g (s t (inl refl)) a) b

pub compose_whole : (e f h : List ℕ) → Whole e → Whole f → compose e f ≡ made h → Whole h
compose_whole e f h w v q = record {
  some = true_some h (compose_from (λ r c. Unit {0}) (pos 0) (pos 0) e f h w.sets v.sets q
      (let (t, m) = some_term e w.some in (t, m, λ c l k. some_true f v)));
  sets = any_at_terms f e h places (made_stays e f h q).1;
}
  where
    places : (t : ℕ) → In t e → Moved f (cells t)
    places t m c i =
        let (l, k) = in_cells t c i in
        moved_terms c f l v.sets (movable_fits c f (stays_term e f (made_stays e f h q).0 t m c l k))
