-- Entering a term: what is left are the minimal sets among the terms before and the new one.
use Rattle.std.specs.Prelude.{◌≡◌, ℕ, Bool, cond, List, [], ◌∷◌, length, ◌==◌, nat_le, nat_lt}
use Rattle.std.specs.List.{list_any}
use Rattle.forms.specs.Sets.{Sub, sub}
use Rattle.forms.specs.Terms.{most_terms, In, Ascending}

-- the minimal sets of ts, in ascending order, are f
pub record Minimal (ts f : List ℕ) : Type 0 where
  pub among : (t : ℕ) → In t f → In t ts
  pub least : (t u : ℕ) → In t f → In u ts → Sub u t → u ≡ t
  pub whole : (t : ℕ) → In t ts → ((u : ℕ) → In u ts → Sub u t → u ≡ t) → In t f
  pub ascending : Ascending f

-- t is one of the terms of f
abbrev pub holds : List ℕ → ℕ → Bool
holds f t = list_any (λ u. u == t) f

-- some term of f is inside the set s
abbrev pub covers : List ℕ → ℕ → Bool
covers f s = list_any (λ t. sub t s) f

-- the terms that do not contain t
abbrev pub without : ℕ → List ℕ → List ℕ
without t [] = []
without t (u ∷ us) = cond (sub t u) (without t us) (u ∷ without t us)

-- t put among ascending terms: the lesser stands first, and the greater goes on
abbrev pub put : ℕ → List ℕ → List ℕ
put t [] = t ∷ []
put t (u ∷ us) = cond (nat_lt t u) (t ∷ put u us) (u ∷ put t us)

abbrev pub enter : ℕ → List ℕ → List ℕ
enter t f = cond (covers f t) f (put t (without t f))

-- a form, or the number under which it is declined
pub data Made : Type 0 where
  made : List ℕ → Made
  declined : ℕ → Made

-- more than the most terms are declined with 8
abbrev pub bounded : List ℕ → Made
bounded f = cond (nat_le (length f) most_terms) (made f) (declined 8)
