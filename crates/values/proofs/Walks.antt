-- Walking the cells of a term, first to last, with the least element so far.
use Rattle.std.proofs.Common.{◌≡◌, ℕ, Bool, true, false, cond, List, [], ◌∷◌, sym, refl, ap, ◌∙◌, subst, inl, inr}
use Rattle.elements.specs.Order.{lesser, greater}
use Rattle.forms.specs.Sets.{cells}
use Rattle.forms.specs.Terms.{In, Inside}
use Rattle.forms.proofs.Listed.{cells_in, in_cells}
use Rattle.values.specs.Value.{Ordered, least}
use Rattle.values.proofs.Levels.{Le, lesser_to, lesser_from, least_in, least_out, by_levels}

module _ {E : Type 0} (le : E → E → Bool) (x : ℕ → E) where
  abbrev pub Under : E → ℕ → Type 0
  Under u s = Inside s (λ c. Le le u (x c))

  abbrev pub UnderAll : E → List ℕ → Type 0
  UnderAll u cs = (c : ℕ) → In c cs → Le le u (x c)

  -- low is the least element among the cells of t that are not in rest
  abbrev pub Walked : ℕ → List ℕ → E → Type 0
  Walked t rest low = (u : E) → (Under u t → Le le u low × UnderAll u rest) × (Le le u low → UnderAll u rest → Under u t)

module _ {E : Type 0} (le : E → E → Bool) (o : Ordered le) (x : ℕ → E) (t : ℕ) where
  pub walk_first : (c : ℕ) (rest : List ℕ) (low : E) → cells t ≡ c ∷ rest → low ≡ x c → Walked le x t rest low
  walk_first c rest low p e u = (
    (λ h. (subst (λ (y : E). Le le u y) (sym e) (all h c (inl refl)), λ d m. all h d (inr m))),
    (λ a b d l k. elim (subst (λ (cs : List ℕ). In d cs) p (cells_in t d l k))
        [ inl q ↦ subst (λ (i : ℕ). Le le u (x i)) (sym q) (subst (λ (y : E). Le le u y) e a) | inr m ↦ b d m ]),
  )
    where
      all : Under le x u t → (d : ℕ) → In d (c ∷ rest) → Le le u (x d)
      all h d m = let i = in_cells t d (subst (λ (cs : List ℕ). In d cs) (sym p) m) in h d i.0 i.1

  pub walk_more : (c : ℕ) (rest left : List ℕ) (low v r : E) → Walked le x t left low → left ≡ c ∷ rest → v ≡ x c → r ≡ lesser le low v → Walked le x t rest r
  walk_more c rest left low v r w p e q = subst (λ (y : E). Walked le x t rest y) (sym q) (λ u. (
    (λ h. let k = (w u).0 h in
        let all : UnderAll le x u (c ∷ rest) = subst (λ (cs : List ℕ). UnderAll le x u cs) p k.1 in
        (lesser_from le o u low v k.0 (subst (λ (y : E). Le le u y) (sym e) (all c (inl refl))), λ d m. all d (inr m))),
    (λ a b. let k = lesser_to le o u low v a in
        (w u).1 k.0 (λ d m. elim (subst (λ (cs : List ℕ). In d cs) p m)
        [ inl i ↦ subst (λ (j : ℕ). Le le u (x j)) (sym i) (subst (λ (y : E). Le le u y) e k.1) | inr n ↦ b d n ])),
  ))

  module _ (some : cells t ≡ [] → ⊥) where
    pub walk_all : (low : E) → Walked le x t [] low → low ≡ least le x t
    walk_all low w = by_levels le o low (least le x t)
        (λ u h. least_out le o x u t some ((w u).1 h (λ c m. absurd m)))
        (λ u h. ((w u).0 (least_in le o x u t some h)).0)

    keeps : (high y : E) → Le le y high → greater le high y ≡ high
    keeps high y h = go (le high y) refl
      where
        go : (b : Bool) → le high y ≡ b → cond b y high ≡ high
        go true e = o.antisymmetric y high h e
        go false e = refl

    -- a term that has an element at most `high` does not raise it
    pub walk_under : (rest : List ℕ) (low high : E) → Walked le x t rest low → Le le low high → high ≡ greater le high (least le x t)
    walk_under rest low high w h =
        let under : Le le (least le x t) low = ((w (least le x t)).0 (least_in le o x (least le x t) t some (o.reflexive (least le x t)))).0 in
        sym (keeps high (least le x t) (o.transitive (least le x t) low high under h))
