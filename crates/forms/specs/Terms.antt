-- Terms and forms: a form is a list of terms, and a term is a non-empty set of cells.
use Rattle.std.specs.Prelude.{◌≡◌, ℕ, ◌^◌, ◌<◌, ◌⊎◌, List, [], ◌∷◌, bit_or, fold}
use Rattle.forms.specs.Sets.{Has, Sub}

-- the most terms that a form may have
abbrev pub most_terms : ℕ
most_terms = 256

abbrev pub In : ℕ → List ℕ → Type 0
In t [] = ⊥
In t (u ∷ us) = (t ≡ u) ⊎ In t us

-- each is a set of cells and is not empty
abbrev pub Terms : List ℕ → Type 0
Terms f = (t : ℕ) → In t f → (0 < t) × (t < 2 ^ 63)

-- strictly ascending
abbrev pub Ascending : List ℕ → Type 0
Ascending [] = Unit {0}
Ascending (t ∷ ts) = ((u : ℕ) → In u ts → t < u) × Ascending ts

-- none inside another
abbrev pub Apart : List ℕ → Type 0
Apart f = (t u : ℕ) → In t f → In u f → Sub t u → t ≡ u

-- some term of f is inside the set s
abbrev pub True : List ℕ → ℕ → Type 0
True f s = (t : ℕ) × In t f × Sub t s

-- every cell of t is in P; some term of f is inside P
abbrev pub Inside : ℕ → (ℕ → Type 0) → Type 0
Inside t P = (c : ℕ) → c < 63 → Has t c → P c

abbrev pub TrueOn : List ℕ → (ℕ → Type 0) → Type 0
TrueOn f P = (t : ℕ) × In t f × Inside t P

-- the cells that the terms of f use
abbrev pub used_from : ℕ → List ℕ → ℕ
used_from s f = fold bit_or s f

abbrev pub used : List ℕ → ℕ
used f = used_from 0 f

abbrev pub Uses : List ℕ → ℕ → Type 0
Uses f c = (t : ℕ) × In t f × Has t c
