-- Windows that are marked cell by cell.
use Rattle.std.proofs.Common.{◌≡◌, ℕ, ◌-◌, ◌<◌, cond, eqb, List, [], ◌∷◌, sym, refl, ◌∙◌, subst, inl, inr}
use Rattle.std.proofs.lemmas.Bool.{cases_eq, eq-eqb, ne_eqb, cond-true, cond-false}
use Rattle.forms.specs.Sets.{bit, Has, cells}
use Rattle.forms.specs.Terms.{In}
use Rattle.forms.proofs.Listed.{cells_in, in_cells}
use Rattle.values.specs.Value.{marked}

-- all cells but those in rest are marked, and those are in the set
pub record Marking {E : Type 0} (x : ℕ → E) (low high : E) (s : ℕ) (rest : List ℕ) : Type 0 where
  pub done : (c : ℕ) → c < 63 → (In c rest → ⊥) → x c ≡ marked low high s c
  pub left : (c : ℕ) → In c rest → Has s c

module _ {E : Type 0} (low high : E) (s : ℕ) where
  marks : (c : ℕ) → Has s c → high ≡ marked low high s c
  marks c h = sym (cond-true (eqb (bit s (62 - c)) 1) high low (eq-eqb (bit s (62 - c)) 1 h))

  leaves : (c : ℕ) → (Has s c → ⊥) → low ≡ marked low high s c
  leaves c h = sym (cond-false (eqb (bit s (62 - c)) 1) high low (ne_eqb (bit s (62 - c)) 1 h))

  pub marking_none : (x : ℕ → E) → ((c : ℕ) → c < 63 → x c ≡ low) → Marking x low high s (cells s)
  marking_none x h = record { done = λ c l n. h c l ∙ leaves c (λ k. n (cells_in s c l k)); left = λ c m. (in_cells s c m).1 }

  pub marking_more : (x y : ℕ → E) (k : ℕ) (rest left : List ℕ) → left ≡ k ∷ rest → ((c : ℕ) → c < 63 → y c ≡ cond (eqb c k) high (x c))
      → Marking x low high s left → Marking y low high s rest
  marking_more x y k rest left e z m = record {
    done = λ c l n. elim (cases_eq c k) [
      | inl q ↦ z c l ∙ cond-true (eqb c k) high (x c) (eq-eqb c k q) ∙ marks c (subst (λ (v : ℕ). Has s v) (sym q) (m.left k (here k (inl refl))))
      | inr q ↦ z c l ∙ cond-false (eqb c k) high (x c) (ne_eqb c k q) ∙ m.done c l (λ i. other c q n (subst (λ (cs : List ℕ). In c cs) e i))
    ];
    left = λ c i. m.left c (here c (inr i));
  }
    where
      here : (c : ℕ) → In c (k ∷ rest) → In c left
      here c i = subst (λ (cs : List ℕ). In c cs) (sym e) i

      other : (c : ℕ) → (c ≡ k → ⊥) → (In c rest → ⊥) → In c (k ∷ rest) → ⊥
      other c q n (inl i) = q i
      other c q n (inr i) = n i
