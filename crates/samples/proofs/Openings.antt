-- An opening is at most its source, a closing at least; each done twice is the same as once.
use Rattle.std.proofs.Common.{◌≡◌, ℕ, Bool, ℤ, ◌+ℤ◌, ◌-ℤ◌, sym, subst, ap₂, arith}
use Rattle.std.proofs.lemmas.Int.{ints}
use Rattle.forms.specs.Window.{row_of, column_of}
use Rattle.values.specs.Value.{Ordered}
use Rattle.values.specs.Laws.{seen}
use Rattle.values.proofs.Levels.{Le, by_levels}
use Rattle.filters.specs.Boxes.{Sides}
use Rattle.samples.specs.Samples.{against, eroded, dilated, opened, closed}
use Rattle.samples.specs.Laws.{Openings, Closings}
use Rattle.samples.proofs.Samples.{eroded_to, eroded_from, dilated_to, dilated_from}

plus_less : (a b : ℤ) → (a +ℤ b) -ℤ b ≡ a
plus_less a b = omega (arith, ints)

less_plus : (a b : ℤ) → (a -ℤ b) +ℤ b ≡ a
less_plus a b = omega (arith, ints)

module _ {E : Type 0} (most : E → E → Bool) (o : Ordered most) (h w : ℕ) (s : Sides h w) where
  -- one step to a cell and one step back
  there : (x : ℤ → ℤ → E) (r c : ℤ) (k : ℕ) → seen x (r -ℤ row_of k) (c -ℤ column_of k) k ≡ x r c
  there x r c k = ap₂ x (less_plus r (row_of k)) (less_plus c (column_of k))

  back : (x : ℤ → ℤ → E) (r c : ℤ) (k : ℕ) → against x (r +ℤ row_of k) (c +ℤ column_of k) k ≡ x r c
  back x r c k = ap₂ x (plus_less r (row_of k)) (plus_less c (column_of k))

  opened_under : (x : ℤ → ℤ → E) (r c : ℤ) (u : E) → Le most u (opened most h w x r c) → Le most u (x r c)
  opened_under x r c u l =
      let (k, m, p) = dilated_to most o h w s (eroded most h w x) r c u l in
      subst (Le most u) (there x r c k) (eroded_to most o h w s x (r -ℤ row_of k) (c -ℤ column_of k) u p k m)

  closed_over : (x : ℤ → ℤ → E) (r c : ℤ) (u : E) → Le most u (x r c) → Le most u (closed most h w x r c)
  closed_over x r c u l = eroded_from most o h w s (dilated most h w x) r c u (λ k m.
      dilated_from most o h w s x (r +ℤ row_of k) (c +ℤ column_of k) u k m (subst (Le most u) (sym (back x r c k)) l))

  opened_again : (x : ℤ → ℤ → E) (r c : ℤ) (u : E) → Le most u (opened most h w x r c) → Le most u (opened most h w (opened most h w x) r c)
  opened_again x r c u l =
      let (k, m, p) = dilated_to most o h w s (eroded most h w x) r c u l in
      dilated_from most o h w s (eroded most h w (opened most h w x)) r c u k m
      (closed_over (eroded most h w x) (r -ℤ row_of k) (c -ℤ column_of k) u p)

  closed_again : (x : ℤ → ℤ → E) (r c : ℤ) (u : E) → Le most u (closed most h w (closed most h w x) r c) → Le most u (closed most h w x r c)
  closed_again x r c u l = eroded_from most o h w s (dilated most h w x) r c u (λ k m.
      opened_under (dilated most h w x) (r +ℤ row_of k) (c +ℤ column_of k) u
      (eroded_to most o h w s (dilated most h w (closed most h w x)) r c u l k m))

module _ {E : Type 0} (most : E → E → Bool) (o : Ordered most) where
  pub openings : Openings most
  openings h w s = record {
    under = λ m r c. opened_under most o h w s m.element r c (opened most h w m.element r c) (o.reflexive (opened most h w m.element r c));
    again = λ m r c. by_levels most o (opened most h w (opened most h w m.element) r c) (opened most h w m.element r c)
        (λ u l. opened_under most o h w s (opened most h w m.element) r c u l) (λ u l. opened_again most o h w s m.element r c u l);
  }

  pub closings : Closings most
  closings h w s = record {
    over = λ m r c. closed_over most o h w s m.element r c (m.element r c) (o.reflexive (m.element r c));
    again = λ m r c. by_levels most o (closed most h w (closed most h w m.element) r c) (closed most h w m.element r c)
        (λ u l. closed_again most o h w s m.element r c u l) (λ u l. closed_over most o h w s (closed most h w m.element) r c u l);
  }
