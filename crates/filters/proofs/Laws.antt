-- The laws of openings and closings.
use Rattle.std.proofs.Common.{◌≡◌, ℕ, List, ℤ, ◌+ℤ◌, ◌-ℤ◌, neg_ℤ, Ok, Err, Result, sym, ap, subst, arith}
use Rattle.std.proofs.lemmas.Int.{ints}
use Rattle.forms.specs.declared.form.Form.{Form}
use Rattle.forms.specs.declared.faults.Fault.{Fault}
use Rattle.forms.specs.Window.{row_of, column_of}
use Rattle.forms.specs.Terms.{In}
use Rattle.forms.specs.Entering.{made}
use Rattle.forms.specs.Places.{Picks, TrueAt}
use Rattle.forms.specs.Parts.{terms_of, outcome}
use Rattle.joins.specs.Joins.{compose}
use Rattle.joins.specs.Outcomes.{Ensured}
use Rattle.joins.proofs.Entries.{between}
use Rattle.joins.proofs.Composed.{compose_to, compose_from}
use Rattle.filters.specs.Boxes.{Sides, box}
use Rattle.filters.specs.Basic.{opposite, erosion_of, dilation_of, opening_of, closing_of}
use Rattle.filters.specs.Laws.{Erodes, Dilates, Under, Over, Again}
use Rattle.filters.proofs.Truths.{box_cells, opposite_place, erosion_to, erosion_from, erosion_sets, dilation_to, dilation_from, dilation_sets}

-- differences of places
to_other : (a x y : ℤ) → y ≡ neg_ℤ x → a +ℤ y ≡ a -ℤ x
to_other a x y e = omega (arith, ints)

back : (a x : ℤ) → (a -ℤ x) +ℤ x ≡ a
back a x = omega (arith, ints)

forth : (a x : ℤ) → (a +ℤ x) -ℤ x ≡ a
forth a x = omega (arith, ints)

at : (Q : ℤ → ℤ → Type 0) (a b c d : ℤ) → a ≡ c → b ≡ d → Q a b → Q c d
at Q a b c d e f q = subst (λ (y : ℤ). Q c y) f (subst (λ (x : ℤ). Q x b) e q)

module _ (h w : ℕ) (s : Sides h w) where
  module _ (Q : ℤ → ℤ → Type 0) (r c : ℤ) where
    erode_to : TrueAt (erosion_of h w) Q r c → (b : ℕ) → In b (box h w) → Q (r +ℤ row_of b) (c +ℤ column_of b)
    erode_to x = erosion_to (λ k. Q (r +ℤ row_of k) (c +ℤ column_of k)) h w s x

    erode_from : ((b : ℕ) → In b (box h w) → Q (r +ℤ row_of b) (c +ℤ column_of b)) → TrueAt (erosion_of h w) Q r c
    erode_from x = erosion_from (λ k. Q (r +ℤ row_of k) (c +ℤ column_of k)) h w s x

    module _ (d : List ℕ) (e : dilation_of h w ≡ made d) where
      row : (b : ℕ) → In b (box h w) → r +ℤ row_of (opposite b) ≡ r -ℤ row_of b
      row b m = to_other r (row_of b) (row_of (opposite b)) (opposite_place b (box_cells h w s b m)).0

      column : (b : ℕ) → In b (box h w) → c +ℤ column_of (opposite b) ≡ c -ℤ column_of b
      column b m = to_other c (column_of b) (column_of (opposite b)) (opposite_place b (box_cells h w s b m)).1

      dilate_to : TrueAt d Q r c → (b : ℕ) × In b (box h w) × Q (r -ℤ row_of b) (c -ℤ column_of b)
      dilate_to x =
          let (b, m, q) = dilation_to (λ k. Q (r +ℤ row_of k) (c +ℤ column_of k)) h w d s e x in
          (b, m, at Q (r +ℤ row_of (opposite b)) (c +ℤ column_of (opposite b)) (r -ℤ row_of b) (c -ℤ column_of b) (row b m) (column b m) q)

      dilate_from : (b : ℕ) → In b (box h w) → Q (r -ℤ row_of b) (c -ℤ column_of b) → TrueAt d Q r c
      dilate_from b m q = dilation_from (λ k. Q (r +ℤ row_of k) (c +ℤ column_of k)) h w d s e b m
          (at Q (r -ℤ row_of b) (c -ℤ column_of b) (r +ℤ row_of (opposite b)) (c +ℤ column_of (opposite b)) (sym (row b m)) (sym (column b m)) q)

  pub erodes : (f : List ℕ) → f ≡ erosion_of h w → Erodes h w f
  erodes f e = subst (Erodes h w) (sym e) (λ p r c. (erode_to (Picks p) r c, erode_from (Picks p) r c))

  pub dilates : (f : List ℕ) → made f ≡ dilation_of h w → Dilates h w f
  dilates f e = λ p r c. (dilate_to (Picks p) r c f (sym e), λ x. dilate_from (Picks p) r c f (sym e) x.0 x.1 x.2)

  -- ---- an opening, f: a box that holds the place, all of it picked
  module _ (d f : List ℕ) (e : dilation_of h w ≡ made d) (q : compose d (erosion_of h w) ≡ made f) (Q : ℤ → ℤ → Type 0) where
    open_to : (r c : ℤ) → TrueAt f Q r c → (b : ℕ) × In b (box h w) × ((k : ℕ) → In k (box h w) → Q ((r -ℤ row_of b) +ℤ row_of k) ((c -ℤ column_of b) +ℤ column_of k))
    open_to r c x =
        let (b, m, y) = dilate_to (TrueAt (erosion_of h w) Q) r c d e (compose_to Q r c d (erosion_of h w) f (dilation_sets h w d s e) (erosion_sets h w s) q x) in
        (b, m, erode_to Q (r -ℤ row_of b) (c -ℤ column_of b) y)

    open_from : (r c : ℤ) (b : ℕ) → In b (box h w) → ((k : ℕ) → In k (box h w) → Q ((r -ℤ row_of b) +ℤ row_of k) ((c -ℤ column_of b) +ℤ column_of k)) → TrueAt f Q r c
    open_from r c b m y = compose_from Q r c d (erosion_of h w) f (dilation_sets h w d s e) (erosion_sets h w s) q
        (dilate_from (TrueAt (erosion_of h w) Q) r c d e b m (erode_from Q (r -ℤ row_of b) (c -ℤ column_of b) y))

    open_under : (r c : ℤ) → TrueAt f Q r c → Q r c
    open_under r c x =
        let (b, m, y) = open_to r c x in
        at Q ((r -ℤ row_of b) +ℤ row_of b) ((c -ℤ column_of b) +ℤ column_of b) r c (back r (row_of b)) (back c (column_of b)) (y b m)

  module _ (d f : List ℕ) (e : dilation_of h w ≡ made d) (q : compose d (erosion_of h w) ≡ made f) (Q : ℤ → ℤ → Type 0) where
    open_again : (r c : ℤ) → TrueAt f Q r c → TrueAt f (TrueAt f Q) r c
    open_again r c x =
        let (b, m, y) = open_to d f e q Q r c x in
        open_from d f e q (TrueAt f Q) r c b m (λ k n. open_from d f e q Q ((r -ℤ row_of b) +ℤ row_of k) ((c -ℤ column_of b) +ℤ column_of k) k n (λ l o.
        at Q ((r -ℤ row_of b) +ℤ row_of l) ((c -ℤ column_of b) +ℤ column_of l)
        ((((r -ℤ row_of b) +ℤ row_of k) -ℤ row_of k) +ℤ row_of l) ((((c -ℤ column_of b) +ℤ column_of k) -ℤ column_of k) +ℤ column_of l)
        (ap (λ (z : ℤ). z +ℤ row_of l) (sym (forth (r -ℤ row_of b) (row_of k)))) (ap (λ (z : ℤ). z +ℤ column_of l) (sym (forth (c -ℤ column_of b) (column_of k)))) (y l o)))

  -- ---- a closing, f: every box that holds the place has a picked one
  module _ (d f : List ℕ) (e : dilation_of h w ≡ made d) (q : compose (erosion_of h w) d ≡ made f) (Q : ℤ → ℤ → Type 0) where
    close_to : (r c : ℤ) → TrueAt f Q r c → (b : ℕ) → In b (box h w) → (k : ℕ) × In k (box h w) × Q ((r +ℤ row_of b) -ℤ row_of k) ((c +ℤ column_of b) -ℤ column_of k)
    close_to r c x b m = dilate_to Q (r +ℤ row_of b) (c +ℤ column_of b) d e
        (erode_to (TrueAt d Q) r c (compose_to Q r c (erosion_of h w) d f (erosion_sets h w s) (dilation_sets h w d s e) q x) b m)

    close_from : (r c : ℤ) → ((b : ℕ) → In b (box h w) → (k : ℕ) × In k (box h w) × Q ((r +ℤ row_of b) -ℤ row_of k) ((c +ℤ column_of b) -ℤ column_of k)) → TrueAt f Q r c
    close_from r c y = compose_from Q r c (erosion_of h w) d f (erosion_sets h w s) (dilation_sets h w d s e) q
        (erode_from (TrueAt d Q) r c (λ b m. dilate_from Q (r +ℤ row_of b) (c +ℤ column_of b) d e (y b m).0 (y b m).1 (y b m).2))

    close_over : (r c : ℤ) → Q r c → TrueAt f Q r c
    close_over r c x = close_from r c (λ b m.
        (b, m, at Q r c ((r +ℤ row_of b) -ℤ row_of b) ((c +ℤ column_of b) -ℤ column_of b) (sym (forth r (row_of b))) (sym (forth c (column_of b))) x))

  module _ (d f : List ℕ) (e : dilation_of h w ≡ made d) (q : compose (erosion_of h w) d ≡ made f) (Q : ℤ → ℤ → Type 0) where
    close_again : (r c : ℤ) → TrueAt f (TrueAt f Q) r c → TrueAt f Q r c
    close_again r c x = close_from d f e q Q r c (λ b m.
        let (k, n, y) = close_to d f e q (TrueAt f Q) r c x b m in
        let (l, o, z) = close_to d f e q Q ((r +ℤ row_of b) -ℤ row_of k) ((c +ℤ column_of b) -ℤ column_of k) y k n in (
          l,
          o,
          at Q ((((r +ℤ row_of b) -ℤ row_of k) +ℤ row_of k) -ℤ row_of l) ((((c +ℤ column_of b) -ℤ column_of k) +ℤ column_of k) -ℤ column_of l)
              ((r +ℤ row_of b) -ℤ row_of l) ((c +ℤ column_of b) -ℤ column_of l)
              (ap (λ (z : ℤ). z -ℤ row_of l) (back (r +ℤ row_of b) (row_of k))) (ap (λ (z : ℤ). z -ℤ column_of l) (back (c +ℤ column_of b) (column_of k))) z,
        ))

  -- ---- of the forms that were made
  pub opening_under : (o : Result Form Fault) → outcome o ≡ opening_of h w → Ensured o Under
  opening_under (Ok g) q = let (d, e, z) = between (dilation_of h w) (λ d. compose d (erosion_of h w)) (terms_of g) (sym q) in λ p r c. open_under d (terms_of g) e z (Picks p) r c
  opening_under (Err n) q = tt

  pub opening_again : (o : Result Form Fault) → outcome o ≡ opening_of h w → Ensured o Again
  opening_again (Ok g) q = let (d, e, z) = between (dilation_of h w) (λ d. compose d (erosion_of h w)) (terms_of g) (sym q) in
      λ p r c. (open_under d (terms_of g) e z (TrueAt (terms_of g) (Picks p)) r c, open_again d (terms_of g) e z (Picks p) r c)
  opening_again (Err n) q = tt

  pub closing_over : (o : Result Form Fault) → outcome o ≡ closing_of h w → Ensured o Over
  closing_over (Ok g) q = let (d, e, z) = between (dilation_of h w) (λ d. compose (erosion_of h w) d) (terms_of g) (sym q) in λ p r c. close_over d (terms_of g) e z (Picks p) r c
  closing_over (Err n) q = tt

  pub closing_again : (o : Result Form Fault) → outcome o ≡ closing_of h w → Ensured o Again
  closing_again (Ok g) q = let (d, e, z) = between (dilation_of h w) (λ d. compose (erosion_of h w) d) (terms_of g) (sym q) in
      λ p r c. (close_again d (terms_of g) e z (Picks p) r c, close_over d (terms_of g) e z (TrueAt (terms_of g) (Picks p)) r c)
  closing_again (Err n) q = tt
