-- The value of an expression's form is the expression's sample.
use Rattle.std.proofs.Common.{◌≡◌, ℕ, ◌+◌, ◌*◌, ◌^◌, ◌<◌, ◌≤◌, Bool, true, ◌&&◌, leb, List, [], ◌∷◌, length, ℤ, ◌+ℤ◌, ◌-ℤ◌, neg_ℤ, sym, refl, ap, ◌∙◌, subst, ap₂, inl, inr, mul-le-mul, arith}
use Rattle.std.proofs.lemmas.Int.{ints}
use Rattle.std.proofs.lemmas.Bool.{and_parts, leb-true}
use Rattle.elements.specs.Order.{lesser, greater}
use Rattle.forms.specs.Window.{row_of, column_of}
use Rattle.forms.specs.Sets.{Has, single}
use Rattle.forms.specs.Terms.{In, Terms, TrueOn}
use Rattle.forms.specs.Entering.{Made, made, declined}
use Rattle.forms.proofs.Bits.{has_single, single_has, single_small, single_some}
use Rattle.joins.specs.Joins.{compose}
use Rattle.joins.specs.Outcomes.{On}
use Rattle.joins.proofs.Entries.{between}
use Rattle.values.specs.Value.{Ordered}
use Rattle.values.specs.Laws.{Whole, seen, value_at}
use Rattle.values.proofs.Levels.{Le, by_levels, value_to, value_from}
use Rattle.values.proofs.Wholes.{max_whole, min_whole, compose_whole}
use Rattle.values.proofs.JoinedValues.{max_value, min_value, compose_value}
use Rattle.values.proofs.Tellings.{value_cells}
use Rattle.filters.specs.Boxes.{Sides, box}
use Rattle.filters.specs.Basic.{opposite, erosion_of, dilation_of, Weighed, total, weight_of, once, middle, most_cells, different}
use Rattle.filters.specs.Truths.{counted, Cells}
use Rattle.filters.proofs.Truths.{box_length, box_cells, opposite_place, erosion_to, erosion_from, erosion_sets, dilation_to, dilation_from, dilation_sets, weight_to, weight_from, weight_sets}
use Rattle.grammar.specs.declared.words.Joint.{Joint}
use Rattle.grammar.specs.declared.words.Joint.TheVariants.{Max, Min}
use Rattle.grammar.specs.declared.words.Shape.{Shape}
use Rattle.grammar.specs.declared.words.Shape.TheVariants.{Erode, Dilate, Open, Close, Med}
use Rattle.grammar.specs.Expr.{Expr, cell, join, after, over, rank, weight, Args, last, next, Ruled, RuledArgs, RuledWeights, shape_rule}
use Rattle.grammar.specs.Reading.{Out, ok, bad, bind}
use Rattle.expressions.specs.Working.{placed, join_of, shape_of, form_of, form_of_args}
use Rattle.samples.specs.Samples.{against, repeated, eroded, dilated, ranked, shaped, joined, sample, sample_args}
use Rattle.samples.proofs.Ranks.{kth_to, kth_from, repeated_once, total_once}
use Rattle.samples.proofs.Samples.{some_cell, eroded_to, eroded_from, dilated_to, dilated_from}

-- ---- what was made
pub bind_ok : {A B : Type 0} (m : Out A) (k : A → Out B) (b : B) → bind m k ≡ ok b → (a : A) × (m ≡ ok a) × (k a ≡ ok b)
bind_ok (ok a) k b e = (a, refl, e)
bind_ok (bad p n at) k b e = let z : ◌≡◌ {A = ℕ} 0 1 = cc in absurd (omega arith)

placed_made : (at : ℕ) (m : Made) (f : List ℕ) → placed at m ≡ ok f → m ≡ made f
placed_made at (made g) f e = ap made (cc)
placed_made at (declined n) f e = let z : ◌≡◌ {A = ℕ} 0 1 = cc in absurd (omega arith)

true_some : (f : List ℕ) (P : ℕ → Type 0) → TrueOn f P → f ≡ [] → ⊥
true_some f P x e = subst (λ (y : List ℕ). In x.0 y) e x.1

-- ---- listed cells
counted_all : (xs : List Weighed) → counted (λ c. true) xs ≡ total xs
counted_all [] = refl
counted_all (x ∷ xs) = ap (λ (n : ℕ). x.times + n) (counted_all xs)

once_cells : (cs : List ℕ) → ((c : ℕ) → In c cs → c < 63) → Cells (once cs)
once_cells [] h = tt
once_cells (c ∷ cs) h = (h c (inl refl), once_cells cs (λ d m. h d (inr m)))

ruled_cells : (xs : List Weighed) → RuledWeights xs → Cells xs
ruled_cells [] v = tt
ruled_cells (x ∷ xs) v = (v.0, ruled_cells xs v.3)

module _ {E : Type 0} (most : E → E → Bool) (o : Ordered most) where
  -- the terms f are those of a form, and its value at every place of every plane is v
  abbrev pub Gives : ((ℤ → ℤ → E) → ℤ → ℤ → E) → List ℕ → Type 0
  Gives v f = Whole f × ((x : ℤ → ℤ → E) (r c : ℤ) → value_at most x f r c ≡ v x r c)

  -- f is true on the places whose element is at least u, seen from row r and column c
  abbrev Reached : List ℕ → (ℤ → ℤ → E) → ℤ → ℤ → E → Type 0
  Reached f x r c u = TrueOn f (λ k. Le most u (seen x r c k))

  gives : (f : List ℕ) (v : (ℤ → ℤ → E) → ℤ → ℤ → E) → Whole f
      → ((x : ℤ → ℤ → E) (r c : ℤ) (u : E) → Reached f x r c u → Le most u (v x r c))
      → ((x : ℤ → ℤ → E) (r c : ℤ) (u : E) → Le most u (v x r c) → Reached f x r c u) → Gives v f
  gives f v w p q = (
    w,
    λ x r c. by_levels most o (value_at most x f r c) (v x r c)
        (λ u l. p x r c u (value_to most o (seen x r c) u f w.some w.sets l))
        (λ u l. value_from most o (seen x r c) u f w.some w.sets (q x r c u l)),
  )

  cell_gives : (n : ℕ) → n < 63 → Gives (λ x r c. seen x r c n) (single n ∷ [])
  cell_gives n l = gives (single n ∷ []) (λ x r c. seen x r c n) whole to from
    where
      sets : Terms (single n ∷ [])
      sets t (inl e) = (subst (λ (y : ℕ). 0 < y) (sym e) (single_some n), subst (λ (y : ℕ). y < 2 ^ 63) (sym e) (single_small n))
      sets t (inr m) = absurd m

      whole : Whole (single n ∷ [])
      whole = record { some = true_some (single n ∷ []) (λ c. Unit {0}) (single n, inl refl, λ c i k. tt); sets = sets }

      to : (x : ℤ → ℤ → E) (r c : ℤ) (u : E) → Reached (single n ∷ []) x r c u → Le most u (seen x r c n)
      to x r c u (t, inl e, i) = i n l (subst (λ (s : ℕ). Has s n) (sym e) (has_single n))
      to x r c u (t, inr m, i) = absurd m

      from : (x : ℤ → ℤ → E) (r c : ℤ) (u : E) → Le most u (seen x r c n) → Reached (single n ∷ []) x r c u
      from x r c u h = (single n, inl refl, λ k i j. subst (λ (d : ℕ). Le most u (seen x r c d)) (sym (single_has n k l i j)) h)

  -- ---- boxes
  module _ (h w : ℕ) (s : Sides h w) where
    eroded_gives : Gives (eroded most h w) (erosion_of h w)
    eroded_gives = gives (erosion_of h w) (eroded most h w)
        (record { some = true_some (erosion_of h w) (λ c. Unit {0}) (erosion_from (λ c. Unit {0}) h w s (λ c m. tt)); sets = erosion_sets h w s })
        (λ x r c u t. eroded_from most o h w s x r c u (erosion_to (λ k. Le most u (seen x r c k)) h w s t))
        (λ x r c u l. erosion_from (λ k. Le most u (seen x r c k)) h w s (eroded_to most o h w s x r c u l))

    -- from the other side of the middle, a place plus a cell is the place minus the cell
    turned : (x : ℤ → ℤ → E) (r c : ℤ) (k : ℕ) → In k (box h w) → seen x r c (opposite k) ≡ against x r c k
    turned x r c k m =
        let (p, q, l) = opposite_place k (box_cells h w s k m) in
        ap₂ x (ap (λ (n : ℤ). r +ℤ n) p ∙ less r (row_of k)) (ap (λ (n : ℤ). c +ℤ n) q ∙ less c (column_of k))
      where
        less : (a b : ℤ) → a +ℤ neg_ℤ b ≡ a -ℤ b
        less a b = omega (arith, ints)

    dilated_gives : (f : List ℕ) → dilation_of h w ≡ made f → Gives (dilated most h w) f
    dilated_gives f e = gives f (dilated most h w)
        (record { some = true_some f (λ c. Unit {0}) (let (k, m) = some_cell h w s in dilation_from (λ c. Unit {0}) h w f s e k m tt); sets = dilation_sets h w f s e })
        (λ x r c u t. let (k, m, l) = dilation_to (λ k. Le most u (seen x r c k)) h w f s e t in
        dilated_from most o h w s x r c u k m (subst (Le most u) (turned x r c k m) l))
        (λ x r c u l. let (k, m, i) = dilated_to most o h w s x r c u l in
        dilation_from (λ k. Le most u (seen x r c k)) h w f s e k m (subst (Le most u) (sym (turned x r c k m)) i))

  -- ---- ranks
  weight_gives : (k : ℕ) (xs : List Weighed) (f : List ℕ) → Cells xs → 1 ≤ k → k ≤ total xs → weight_of k xs ≡ made f → Gives (ranked most k (repeated xs)) f
  weight_gives k xs f w l n e = gives f (ranked most k (repeated xs))
      (record { some = true_some f (On (λ c. true)) (weight_from (λ c. true) k xs f w e (omega (arith, counted_all xs))); sets = weight_sets k xs f w l e })
      (λ x r c u t. kth_from most o u (x r c) (seen x r c) k xs l n (weight_to (λ i. most u (seen x r c i)) k xs f w e t))
      (λ x r c u t. weight_from (λ i. most u (seen x r c i)) k xs f w e (kth_to most o u (x r c) (seen x r c) k xs l n t))

  rank_gives : (k : ℕ) (h w : ℕ) (f : List ℕ) → Sides h w → 1 ≤ k → k ≤ h * w → weight_of k (once (box h w)) ≡ made f → Gives (ranked most k (box h w)) f
  rank_gives k h w f s l n e = subst (λ (cs : List ℕ). Gives (ranked most k cs) f) (repeated_once (box h w))
      (weight_gives k (once (box h w)) f (once_cells (box h w) (box_cells h w s)) l (omega (arith, total_once (box h w), box_length h w)) e)

  -- ---- joins
  module _ (v z : (ℤ → ℤ → E) → ℤ → ℤ → E) (g k f : List ℕ) (a : Gives v g) (b : Gives z k) where
    join_gives : (j : Joint) → join_of j g k ≡ made f → Gives (λ x r c. joined most j (v x r c) (z x r c)) f
    join_gives Max e = (
      max_whole g k f a.0 b.0 e,
      λ x r c. max_value most o (seen x r c) g k f a.0 b.0 e ∙ ap₂ (greater most) (a.1 x r c) (b.1 x r c),
    )
    join_gives Min e = (
      min_whole g k f a.0 b.0 e,
      λ x r c. min_value most o (seen x r c) g k f a.0 b.0 e ∙ ap₂ (lesser most) (a.1 x r c) (b.1 x r c),
    )

    after_gives : compose g k ≡ made f → Gives (λ x r c. v (λ p q. z x p q) r c) f
    after_gives e = (
      compose_whole g k f a.0 b.0 e,
      λ x r c. compose_value most o x r c g k f a.0 b.0 e
          ∙ value_cells most o (seen (λ p q. value_at most x k p q) r c) (seen (λ p q. z x p q) r c) g a.0 (λ n l. b.1 x (r +ℤ row_of n) (c +ℤ column_of n))
          ∙ a.1 (λ p q. z x p q) r c,
    )

  shape_gives : (s : Shape) (h w : ℕ) (f : List ℕ) → Sides h w → shape_rule s h w ≡ true → shape_of s h w ≡ made f → Gives (shaped most s h w) f
  shape_gives Erode h w f s e q = subst (Gives (eroded most h w)) (cc) (eroded_gives h w s)
  shape_gives Dilate h w f s e q = dilated_gives h w s f q
  shape_gives Open h w f s e q =
      let (d, a, b) = between (dilation_of h w) (λ d. compose d (erosion_of h w)) f q in
      after_gives (dilated most h w) (eroded most h w) d (erosion_of h w) f (dilated_gives h w s d a) (eroded_gives h w s) b
  shape_gives Close h w f s e q =
      let (d, a, b) = between (dilation_of h w) (λ d. compose (erosion_of h w) d) f q in
      after_gives (eroded most h w) (dilated most h w) (erosion_of h w) d f (eroded_gives h w s) (dilated_gives h w s d a) b
  shape_gives Med h w f s e q = rank_gives (middle (h * w)) h w f s (half (h * w) some).0 (half (h * w) some).1 q
    where
      some : 1 ≤ h * w
      some = omega (arith, mul-le-mul s.some_rows s.some_columns)

      half : (n : ℕ) → 1 ≤ n → (1 ≤ middle n) × (middle n ≤ n)
      half n l = (omega arith, omega arith)

  mutual
    unfolding Ruled RuledArgs form_of form_of_args sample sample_args

    pub form_samples : (e : Expr) → Ruled e → (f : List ℕ) → form_of e ≡ ok f → Gives (λ x r c. sample most e x r c) f
    form_samples (cell n) v f q = subst (Gives (λ x r c. seen x r c n)) (cc) (cell_gives n v)
    form_samples (join j at e es) v f q =
        let (g, a, b) = bind_ok (form_of e) (λ g. form_of_args es j at g) f q in
        args_samples es v.1 j at (λ x r c. sample most e x r c) g (form_samples e v.0 g a) f b
    form_samples (after at e g) v f q =
        let (i, a, b) = bind_ok (form_of e) (λ i. bind (form_of g) (λ k. placed at (compose i k))) f q in
        let (k, c, d) = bind_ok (form_of g) (λ k. placed at (compose i k)) f b in
        after_gives (λ x r c. sample most e x r c) (λ x r c. sample most g x r c) i k f (form_samples e v.0 i a) (form_samples g v.1 k c) (placed_made at (compose i k) f d)
    form_samples (over s at h w) v f q = shape_gives s h w f v.0 v.1 (placed_made at (shape_of s h w) f q)
    form_samples (rank at h w k) v f q =
        rank_gives k h w f v.0 v.1 (leb-true k (h * w) (and_parts (leb (h * w) most_cells) (leb k (h * w)) v.3).1) (placed_made at (weight_of k (once (box h w))) f q)
    form_samples (weight at k xs) v f q =
        weight_gives k xs f (ruled_cells xs v.3) v.0 (leb-true k (total xs) (and_parts (leb (length xs) most_cells && different xs) (leb k (total xs)) v.4).1) (placed_made at (weight_of k xs) f q)

    args_samples : (es : Args) → RuledArgs es → (j : Joint) (at : ℕ) (v : (ℤ → ℤ → E) → ℤ → ℤ → E) (g : List ℕ) → Gives v g
        → (f : List ℕ) → form_of_args es j at g ≡ ok f → Gives (λ x r c. sample_args most es j (v x r c) x r c) f
    args_samples (last e) w j at v g a f q =
        let (k, b, d) = bind_ok (form_of e) (λ k. placed at (join_of j g k)) f q in
        join_gives v (λ x r c. sample most e x r c) g k f a (form_samples e w k b) j (placed_made at (join_of j g k) f d)
    args_samples (next e es) w j at v g a f q =
        let (k, b, d) = bind_ok (form_of e) (λ k. bind (placed at (join_of j g k)) (λ i. form_of_args es j at i)) f q in
        let (i, m, n) = bind_ok (placed at (join_of j g k)) (λ i. form_of_args es j at i) f d in
        args_samples es w.1 j at (λ x r c. joined most j (v x r c) (sample most e x r c)) i
        (join_gives v (λ x r c. sample most e x r c) g k i a (form_samples e w.0 k b) j (placed_made at (join_of j g k) i m)) f n
