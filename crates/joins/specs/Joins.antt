-- Joining forms: the max and the min of two, and one after another.
use Rattle.std.specs.Prelude.{ℕ, Bool, cond, List, [], ◌∷◌, ◌++◌, map, bit_or}
use Rattle.forms.specs.Sets.{cells, every, movable, moved}
use Rattle.forms.specs.Terms.{used}
use Rattle.forms.specs.Entering.{enter, Made, made, declined, bounded}

-- what is made goes on, and what is declined stays so
abbrev pub after : Made → (List ℕ → Made) → Made
after (made f) k = k f
after (declined n) k = declined n

-- the terms ts entered in order into f
abbrev pub enter_all : List ℕ → List ℕ → Made
enter_all [] f = made f
enter_all (t ∷ ts) f = after (bounded (enter t f)) (λ h. enter_all ts h)

abbrev pub max_of : List ℕ → List ℕ → Made
max_of f g = enter_all g f

-- the unions of one term of each, by the first's term, then the second's
abbrev pub unions : List ℕ → List ℕ → List ℕ
unions [] g = []
unions (t ∷ f) g = map (λ u. bit_or t u) g ++ unions f g

abbrev pub min_of : List ℕ → List ℕ → Made
min_of f g = enter_all (unions f g) []

-- f moved to a first cell and to others, joined by min
abbrev pub min_at : List ℕ → List ℕ → List ℕ → Made
min_at f [] h = made h
min_at f (c ∷ cs) h = after (min_of h (map (moved c) f)) (λ k. min_at f cs k)

abbrev pub all_at : List ℕ → List ℕ → Made
all_at f [] = made []
all_at f (c ∷ cs) = min_at f cs (map (moved c) f)

-- f moved to the cells of a first term and of others, joined by max
abbrev pub max_at : List ℕ → List ℕ → List ℕ → Made
max_at f [] h = made h
max_at f (t ∷ ts) h = after (all_at f (cells t)) (λ m. after (max_of h m) (λ k. max_at f ts k))

abbrev pub any_at : List ℕ → List ℕ → Made
any_at f [] = made []
any_at f (t ∷ ts) = after (all_at f (cells t)) (λ m. max_at f ts m)

-- whether each cell that e uses, plus each cell that f uses, is in the window
unfoldable pub stays_all : List ℕ → List ℕ → Bool
stays_all e f = every (λ c. movable c (used f)) (cells (used e))

-- e after f
unfoldable pub compose : List ℕ → List ℕ → Made
compose e f = cond (stays_all e f) (any_at f e) (declined 9)
