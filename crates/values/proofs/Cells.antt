-- Elements of a window that changed at one cell.
use Rattle.std.proofs.Common.{◌≡◌, ℕ, ◌<◌, cond, eqb, ◌⊎◌, List, length, get_or, set, sym, ap, ◌∙◌, inl, inr}
use Rattle.std.proofs.lemmas.List.{get_or-set_same, get_or-set_other}
use Rattle.std.proofs.lemmas.Bool.{cases_eq, eq-eqb, ne_eqb, cond-true, cond-false}

pub changed : {E : Type 0} (xs : List E) (n k : ℕ) (e : E) → n ≡ k → k < length xs → (d : E) (c : ℕ)
    → get_or (set xs n e) c d ≡ cond (eqb c k) e (get_or xs c d)
changed {E} xs n k e p l d c = ap (λ (i : ℕ). get_or (set xs i e) c d) p ∙ go (cases_eq c k)
  where
    go : (c ≡ k) ⊎ (c ≡ k → ⊥) → get_or (set xs k e) c d ≡ cond (eqb c k) e (get_or xs c d)
    go (inl q) = ap (λ (i : ℕ). get_or (set xs k e) i d) q ∙ get_or-set_same xs k e d l ∙ sym (cond-true (eqb c k) e (get_or xs c d) (eq-eqb c k q))
    go (inr q) = get_or-set_other xs k c e d q ∙ sym (cond-false (eqb c k) e (get_or xs c d) (ne_eqb c k q))
