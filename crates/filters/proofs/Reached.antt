-- Entering the sets that count enough, by the steps of the recursion, and where the forms are true.
use Rattle.std.proofs.Common.{◌≡◌, ℕ, zero, suc, ◌+◌, ◌-◌, ◌*◌, ◌≤◌, true, leb, List, [], ◌∷◌, ◌++◌, map, length, get_or, take, drop, Some, None, Option, sym, refl, ap, ◌∙◌, subst, ap₂, inl, inr, arith}
use lib.Bits.{bit_or, or_zero_r}
use Rattle.std.proofs.lemmas.Bool.{and_from, and_right, le-leb, lt-leb}
use Rattle.std.proofs.lemmas.List.{map-append, map-id, take_all}
use Rattle.forms.specs.declared.form.Form.{Form}
use Rattle.forms.specs.Sets.{single}
use Rattle.forms.specs.Entering.{Made, made, declined, bounded, enter}
use Rattle.forms.specs.Parts.{terms_of}
use Rattle.forms.proofs.Entered.{some}
use Rattle.joins.specs.Joins.{after, enter_all}
use Rattle.joins.proofs.Turns.{all_append}
use Rattle.filters.specs.Boxes.{box}
use Rattle.filters.specs.Basic.{Weighed, most_cells, total, reaching, weight_of, once}
use Rattle.filters.specs.Ranks.{Weighted, Ranked}
use Rattle.filters.specs.Laws.{Weighs, Provided}
use Rattle.filters.specs.Truths.{counted, Cells}
use Rattle.filters.proofs.Weighing.{once_total}
use Rattle.filters.proofs.Unions.{or_assoc, window, from_window}
use Rattle.filters.proofs.Truths.{box_length, weight_to, weight_from, reaching_from, reaching_small}

-- the sets that count k, each with the cells of s, entered into f
abbrev pub reached : ℕ → List Weighed → ℕ → List ℕ → Made
reached s xs k f = enter_all (map (bit_or s) (reaching xs k)) f

after_made : (m : Made) → after m (λ h. made h) ≡ m
after_made (made f) = refl
after_made (declined n) = refl

pub reached_zero : (s : ℕ) (xs : List Weighed) (k : ℕ) (f : List ℕ) → k ≡ 0 → bounded (enter s f) ≡ reached s xs k f
reached_zero s xs zero f e =
    sym (after_made (bounded (enter s f))) ∙ ap (λ (t : ℕ). after (bounded (enter t f)) (λ h. made h)) (sym (or_zero_r s))
reached_zero s xs (suc k) f e = absurd (omega arith)

map_or : (s c : ℕ) (ts : List ℕ) → map (bit_or s) (map (bit_or c) ts) ≡ map (bit_or (bit_or s c)) ts
map_or s c [] = refl
map_or s c (t ∷ ts) = ap₂ (λ (x : ℕ) (y : List ℕ). x ∷ y) (sym (or_assoc s c t)) (map_or s c ts)

split : (s : ℕ) (x : Weighed) (xs : List Weighed) (k : ℕ) (f : List ℕ) → (k ≡ 0 → ⊥)
    → after (reached s xs k f) (λ h. reached (bit_or s (single x.cell)) xs (k - x.times) h) ≡ reached s (x ∷ xs) k f
split s x xs zero f n = absurd (n refl)
split s x xs (suc k) f n = sym (
    ap (λ (y : List ℕ). enter_all y f) (map-append (bit_or s) (reaching xs (suc k)) (map (bit_or (single x.cell)) (reaching xs (suc k - x.times)))
    ∙ ap (λ (y : List ℕ). map (bit_or s) (reaching xs (suc k)) ++ y) (map_or s (single x.cell) (reaching xs (suc k - x.times))))
    ∙ all_append (map (bit_or s) (reaching xs (suc k))) (map (bit_or (bit_or s (single x.cell))) (reaching xs (suc k - x.times))) f)

-- a list that is not empty, and its first
pub first_of : (ys : List Weighed) (x : Weighed) → 1 ≤ length ys → x ≡ get_or ys 0 x → ys ≡ x ∷ take (length ys - 1) (drop 1 ys)
first_of [] x l e = absurd (omega arith)
first_of (y ∷ ys) x l e = ap₂ (λ (z : Weighed) (zs : List Weighed). z ∷ zs) (sym e) (sym (take_all (length (y ∷ ys) - 1) ys (omega arith)))

-- of the cells ys the first is x: m is what the sets without it give
module _ (s : ℕ) (ys : List Weighed) (x : Weighed) (xs : List Weighed) (q : ys ≡ x ∷ xs) (k : ℕ) (f : List ℕ) (n : k ≡ 0 → ⊥) (m : Made) (e : m ≡ reached s xs k f) where
  both : after m (λ h. reached (bit_or s (single x.cell)) xs (k - x.times) h) ≡ reached s ys k f
  both =
      ap (λ (y : Made). after y (λ h. reached (bit_or s (single x.cell)) xs (k - x.times) h)) e
      ∙ split s x xs k f n ∙ ap (λ (zs : List Weighed). reached s zs k f) (sym q)

  pub reached_more : (g : List ℕ) (o : Made) (t j : ℕ) → m ≡ made g → t ≡ bit_or s (single x.cell) → j ≡ k - x.times
      → o ≡ reached t xs j g → o ≡ reached s ys k f
  reached_more g o t j r a b z =
      z ∙ ap₂ (λ (y l : ℕ). reached y xs l g) a b
      ∙ ap (λ (y : Made). after y (λ h. reached (bit_or s (single x.cell)) xs (k - x.times) h)) (sym r) ∙ both

  pub reached_stop : (d : ℕ) → m ≡ declined d → declined d ≡ reached s ys k f
  reached_stop d r = ap (λ (y : Made). after y (λ h. reached (bit_or s (single x.cell)) xs (k - x.times) h)) (sym r) ∙ both

-- from no cell on, into the form of the whole window
counted_all : (xs : List Weighed) → counted (λ c. true) xs ≡ total xs
counted_all [] = refl
counted_all (x ∷ xs) = ap (λ (n : ℕ). x.times + n) (counted_all xs)

pub reached_start : (s : ℕ) (xs : List Weighed) (k : ℕ) (f : List ℕ) → s ≡ 0 → Cells xs → k ≤ total xs → f ≡ window ∷ [] → reached s xs k f ≡ weight_of k xs
reached_start s xs k f z w l e =
    let x = reaching_from (λ c. true) xs k w (omega (arith, counted_all xs)) in
    ap₂ (λ (y : ℕ) (g : List ℕ). reached y xs k g) z e ∙ ap (λ (ts : List ℕ). enter_all ts (window ∷ [])) (map-id (reaching xs k))
    ∙ from_window (reaching xs k) (some (reaching xs k) x.0 x.1) (reaching_small xs k)

-- the ranks of a box are those of its cells, each counting once
pub ranked : (o : Option Form) (h w k : ℕ) (xs : List Weighed) → xs ≡ once (box h w) → h * w ≤ most_cells → Weighted o k xs → Ranked o h w k
ranked o h w k xs e l q = go o (subst (Weighted o k) e q)
  where
    sum : total (once (box h w)) ≡ h * w
    sum = once_total (box h w) ∙ box_length h w

    go : (o : Option Form) → Weighted o k (once (box h w)) → Ranked o h w k
    go (Some f) q = (q.0, and_from (leb (h * w) most_cells) (leb k (h * w)) (le-leb (h * w) most_cells l) (le-leb k (h * w) (omega (arith, sum, q.1))), q.2)
    go None (inl z) = inl z
    go None (inr m) = inr (and_right (leb (h * w) most_cells) (leb k (h * w)) (lt-leb k (h * w) (omega (arith, sum))))

-- where the forms are true
pub weighs : (o : Option Form) (k : ℕ) (xs : List Weighed) → Cells xs → Weighted o k xs → Provided o (Weighs k xs)
weighs (Some f) k xs w q = λ p. (weight_to p k xs (terms_of f) w (sym q.2), weight_from p k xs (terms_of f) w (sym q.2))
weighs None k xs w q = tt
