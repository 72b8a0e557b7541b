-- Terms that are taken out of a list in place: up to the place i, the first k of ys are what is kept of xs.
use Rattle.std.proofs.Common.{◌≡◌, ℕ, ◌+◌, ◌<◌, ◌≤◌, List, [], ◌∷◌, ◌++◌, length, get_or, take, drop, set, sym, ap, ◌∙◌, append_assoc, append-nil, add-zero, arith}
use Rattle.std.proofs.lemmas.List.{drop_more, drop_all, get_or-drop, length-set, drop-drop, drop-set-lt, take_more_set}
use Rattle.std.proofs.lemmas.Bool.{cond-true, cond-false, eq-eqb, ne_eqb}
use lib.Bits.{bit_and}
use Rattle.forms.specs.Sets.{sub}
use Rattle.forms.specs.Entering.{without}

module _ (t : ℕ) (xs : List ℕ) where
  abbrev pub Thinning : ℕ → List ℕ → ℕ → Type 0
  Thinning i ys k =
      (length ys ≡ length xs) × (k ≤ i) × (drop i ys ≡ drop i xs) × (take k ys ++ without t (drop i xs) ≡ without t xs)

  module _ (i : ℕ) (ys : List ℕ) (k : ℕ) (p : Thinning i ys k) (l : i < length xs) where
    one_more : drop (i + 1) ys ≡ drop (i + 1) xs
    one_more = sym (drop-drop 1 i ys) ∙ ap (λ (y : List ℕ). drop 1 y) p.2 ∙ drop-drop 1 i xs

    same_there : get_or ys i 0 ≡ get_or xs i 0
    same_there = rw add-zero at (sym (get_or-drop i ys 0 0) ∙ ap (λ (y : List ℕ). get_or y 0 0) p.2 ∙ get_or-drop i xs 0 0)

    left : drop i xs ≡ get_or ys i 0 ∷ drop (i + 1) xs
    left = drop_more xs i 0 l ∙ ap (λ (y : ℕ). y ∷ drop (i + 1) xs) (sym same_there)

    pub thinning_out : bit_and t (get_or ys i 0) ≡ t → Thinning (i + 1) ys k
    thinning_out q = (
      p.0,
      omega arith,
      one_more,
      ap (λ (y : List ℕ). take k ys ++ y)
          (sym (ap (without t) left ∙ cond-true (sub t (get_or ys i 0)) _ _ (eq-eqb (bit_and t (get_or ys i 0)) t q)))
          ∙ p.3,
    )

    pub thinning_keep : (bit_and t (get_or ys i 0) ≡ t → ⊥) → Thinning (i + 1) (set ys k (get_or ys i 0)) (k + 1)
    thinning_keep q = (
      length-set ys k (get_or ys i 0) ∙ p.0,
      omega arith,
      drop-set-lt (i + 1) ys k (get_or ys i 0) (omega arith) ∙ one_more,
      ap (λ (y : List ℕ). y ++ without t (drop (i + 1) xs)) (take_more_set ys k (get_or ys i 0) (omega arith))
          ∙ append_assoc (take k ys) (get_or ys i 0 ∷ []) (without t (drop (i + 1) xs))
          ∙ ap (λ (y : List ℕ). take k ys ++ y)
          (sym (ap (without t) left ∙ cond-false (sub t (get_or ys i 0)) _ _ (ne_eqb (bit_and t (get_or ys i 0)) t q)))
          ∙ p.3,
    )

  pub thinning_all : (i : ℕ) (ys : List ℕ) (k : ℕ) → Thinning i ys k → length xs ≤ i → take k ys ≡ without t xs
  thinning_all i ys k p l =
      sym (append-nil (take k ys)) ∙ ap (λ (y : List ℕ). take k ys ++ without t y) (sym (drop_all i xs l)) ∙ p.3
