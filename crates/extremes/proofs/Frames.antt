-- Frames in reading order.
use Rattle.std.proofs.Common.{◌≡◌, ℕ, ◌+◌, ◌-◌, ◌*◌, ◌/◌, ◌%◌, ◌<◌, Bool, true, false, List, get_or, Some, None, Ok, Err, Option, Result, ℤ, pos, ◌≤ℤ◌, sym, ap, ◌∙◌, subst, inl, inr, mul-le-mul_right, suc-mul, mul_comm, add-mul, zero-add, arith}
use Rattle.std.specs.Result.{result_ok}
use Rattle.std.proofs.lemmas.Int.{ints, by_lt_z}
use Rattle.std.proofs.lemmas.Nat.{div-add-mod', mul-add-lt, div-mul-add, mod-mul-add, div_below, mod_below}
use Rattle.std.proofs.lemmas.Bool.{cases_lt}
use Rattle.sources.specs.Meaning.{Meaning, Ranges, Readable, RowReadable, RowHolds}
use Rattle.extremes.specs.declared.Found.{Found}
use Rattle.extremes.specs.declared.lead.Lead.{Lead}
use Rattle.extremes.specs.Leads.{Leads}
use Rattle.extremes.specs.Leads.{element_in_order}
use Rattle.extremes.specs.First.{Before, First}

-- what was declined is not taken by `ok`, and what was not is
pub err_not_some : {T E : Type 0} {r : Result T E} {e : E} {o : Option T} {x : T} → r ≡ Err e → o ≡ result_ok r → o ≡ Some x → ⊥
err_not_some {x = x} p q s = let n : None ≡ Some x = sym (q ∙ ap result_ok p) ∙ s in cc

pub ok_not_none : {T E : Type 0} {r : Result T E} {x : T} {o : Option T} → r ≡ Ok x → o ≡ result_ok r → o ≡ None → ⊥
ok_not_none {x = x} p q s = let n : Some x ≡ None = sym (q ∙ ap result_ok p) ∙ s in cc

module _ {E : Type 0} (m : Meaning E) (q : Ranges m) where
  pub origin_margin : Readable m (pos 0) (pos 0) → pos 0 ≤ℤ m.margin
  origin_margin r = omega (arith, ints, r.0.0)

  pub margin_known : ((Readable m (pos 0) (pos 0) → ⊥) → ⊥) → pos 0 ≤ℤ m.margin
  margin_known n = by_lt_z m.margin (pos 0) (λ l. absurd (n (λ r. let h = origin_margin r in omega (arith, ints)))) (λ h. h)

  pub frame_row : pos 0 ≤ℤ m.margin → (row : ℕ) → row < m.height → RowReadable m (pos row) (pos 0) m.width
  frame_row g row l k a = ((omega (arith, ints), omega (arith, ints)), (omega (arith, ints), omega (arith, ints)))

  pub in_order : (row column : ℕ) → column < m.width → element_in_order m (row * m.width + column) ≡ m.element (pos row) (pos column)
  in_order row column l =
      ap (λ (r : ℕ). m.element (pos r) (pos ((row * m.width + column) % m.width))) (div-mul-add row m.width column l)
      ∙ ap (λ (c : ℕ). m.element (pos row) (pos c)) (mod-mul-add row m.width column l)

  pub in_frame : (row column : ℕ) → row < m.height → column < m.width → row * m.width + column < m.height * m.width
  in_frame row column p l = omega (arith, mul-add-lt row m.width column m.height p l, mul_comm m.width m.height)

  before_index : (r c index : ℕ) → c < m.width → Before r c (index / m.width) (index % m.width) → r * m.width + c < index
  before_index r c index l (inl a) =
      let rows = mul-le-mul_right m.width a in
      let next = suc-mul r m.width in
      omega (arith, div-add-mod' index m.width)
  before_index r c index l (inr (e, b)) =
      let same : r * m.width ≡ index / m.width * m.width = ap (λ (i : ℕ). i * m.width) e in
      omega (arith, div-add-mod' index m.width)

  -- the first in reading order is the first by row and column
  pub first_from : (most : E → E → Bool) (f : Lead E) → Leads most (element_in_order m) (m.height * m.width) f
      → First most m (record { element = f.element; row = f.index / m.width; column = f.index % m.width })
  first_from most f w =
      let some : 0 < m.width = omega (arith, q.some_columns) in
      let total = in_frame 0 0 (omega (arith, q.some_rows)) some in
      let inside : f.index < m.height * m.width = elim (cases_lt 0 f.index) [ inl a ↦ w.within a | inr b ↦ omega arith ] in
      record {
        in_rows = div_below f.index m.width m.height some inside;
        in_columns = mod_below f.index m.width some;
        shown = w.shown;
        lowest = λ r c p l. subst (λ (x : E). most f.element x ≡ true) (in_order r c l) (w.lowest (r * m.width + c) (in_frame r c p l));
        first = λ r c l b. subst (λ (x : E). most x f.element ≡ false) (in_order r c l) (w.first (r * m.width + c) (before_index r c f.index l b));
      }

  -- a row of the frame, as the loop asks for it
  module _ (z : ℤ) (row n w : ℕ) (e : z ≡ pos row) (long : n ≡ m.width) (wide : w ≡ m.width) where
    pub row_readable : pos 0 ≤ℤ m.margin → row < m.height → RowReadable m z (pos 0) n
    row_readable g l = subst (λ (y : ℤ). RowReadable m y (pos 0) n) (sym e) (subst (λ (k : ℕ). RowReadable m (pos row) (pos 0) k) (sym long) (frame_row g row l))

    pub row_elements : (out : List E) → RowHolds m z (pos 0) n out → (k : ℕ) (d : E) → k < n → get_or out k d ≡ element_in_order m (row * w + k)
    row_elements out h k d l =
        h k l d
        ∙ ap (λ (y : ℤ). m.element y (pos (0 + k))) e
        ∙ ap (λ (j : ℕ). m.element (pos row) (pos j)) (zero-add k)
        ∙ sym (in_order row k (omega (arith, l, long)))
        ∙ ap (λ (v : ℕ). element_in_order m (row * v + k)) (sym wide)

    pub row_holds : (out : List E) → RowHolds m z (pos 0) n out → RowHolds m (pos (row + 1 - 1)) (pos 0) w out
    row_holds out h k l d =
        let back : row + 1 - 1 ≡ row = omega arith in
        h k (omega (arith, l, long, wide)) d ∙ ap (λ (y : ℤ). m.element y (pos (0 + k))) (e ∙ ap pos (sym back))

next_row : (row w n : ℕ) → n ≡ w → row * w + n ≡ (row + 1) * w
next_row row w n e = omega (arith, add-mul row 1 w, e)

pub leads_next : {E : Type 0} (most : E → E → Bool) (element : ℕ → E) (row w n : ℕ) (f : Lead E) → n ≡ w → Leads most element (row * w + n) f → Leads most element ((row + 1) * w) f
leads_next most element row w n f e l = subst (λ (j : ℕ). Leads most element j f) (next_row row w n e) l

module _ {E : Type 0} (m : Meaning E) (q : Ranges m) (row w : ℕ) (all : row ≡ m.height) (wide : w ≡ m.width) where
  pub first_place : (most : E → E → Bool) (f : Lead E) (r : Found E) → r ≡ record { element = f.element; row = f.index / w; column = f.index % w }
      → Leads most (element_in_order m) (row * w) f → First most m r
  first_place most f r e l =
      let place : ℕ → Found E = λ v. record { element = f.element; row = f.index / v; column = f.index % v } in
      let total : row * w ≡ m.height * m.width = ap (λ (i : ℕ). i * w) all ∙ ap (λ (v : ℕ). m.height * v) wide in
      subst (First most m) (sym (e ∙ ap place wide)) (first_from m q most f (subst (λ (n : ℕ). Leads most (element_in_order m) n f) total l))

  pub last_row : (xs : List E) → RowHolds m (pos (row - 1)) (pos 0) w xs → RowHolds m (pos (m.height - 1)) (pos 0) m.width xs
  last_row xs h k l d = h k (omega (arith, wide, l)) d ∙ ap (λ (i : ℕ). m.element (pos (i - 1)) (pos (0 + k))) all
