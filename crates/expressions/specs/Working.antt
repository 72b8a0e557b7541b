-- Working out the form of an expression, and compiling a text.
use Rattle.std.specs.Prelude.{ℕ, ◌*◌, List, [], ◌∷◌}
use Rattle.forms.specs.Sets.{single}
use Rattle.forms.specs.Entering.{Made, made, declined}
use Rattle.joins.specs.Joins.{max_of, min_of, compose}
use Rattle.filters.specs.Basic.{erosion_of, dilation_of, opening_of, closing_of, rank_of, weight_of, middle}
use Rattle.grammar.specs.declared.faults.Part.TheVariants.{Forms}
use Rattle.grammar.specs.declared.words.Joint.{Joint}
use Rattle.grammar.specs.declared.words.Joint.TheVariants.{Max, Min}
use Rattle.grammar.specs.declared.words.Shape.{Shape}
use Rattle.grammar.specs.declared.words.Shape.TheVariants.{Erode, Dilate, Open, Close, Med}
use Rattle.grammar.specs.Expr.{Expr, cell, join, after, over, rank, weight, Args, last, next}
use Rattle.grammar.specs.Reading.{Out, ok, bad, bind, parse}

-- what was made, or its fault at the word
abbrev pub placed : ℕ → Made → Out (List ℕ)
placed at (made f) = ok f
placed at (declined n) = bad Forms n at

abbrev pub join_of : Joint → List ℕ → List ℕ → Made
join_of Max f g = max_of f g
join_of Min f g = min_of f g

abbrev pub shape_of : Shape → ℕ → ℕ → Made
shape_of Erode h w = made (erosion_of h w)
shape_of Dilate h w = dilation_of h w
shape_of Open h w = opening_of h w
shape_of Close h w = closing_of h w
shape_of Med h w = rank_of h w (middle (h * w))

-- arguments from the left before their call; max and min join each argument as soon as it is worked out
unfoldable mutual
  pub form_of : Expr → Out (List ℕ)
  form_of (cell n) = ok (single n ∷ [])
  form_of (join j at e es) = bind (form_of e) (λ f. form_of_args es j at f)
  form_of (after at e f) = bind (form_of e) (λ g. bind (form_of f) (λ h. placed at (compose g h)))
  form_of (over s at h w) = placed at (shape_of s h w)
  form_of (rank at h w k) = placed at (rank_of h w k)
  form_of (weight at k xs) = placed at (weight_of k xs)

  pub form_of_args : Args → Joint → ℕ → List ℕ → Out (List ℕ)
  form_of_args (last e) j at f = bind (form_of e) (λ g. placed at (join_of j f g))
  form_of_args (next e es) j at f = bind (form_of e) (λ g. bind (placed at (join_of j f g)) (λ h. form_of_args es j at h))

-- the text is read whole, then its expression is worked out
unfoldable pub compile : List ℕ → Out (List ℕ)
compile text = bind (parse text) form_of
