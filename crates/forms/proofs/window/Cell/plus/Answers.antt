use Rattle.std.proofs.Common.{◌≡◌, ℕ, ◌≤◌, true, false, ℤ, ◌+ℤ◌, nat_abs, Some, None, Option, MatchOption, is_some, IfSome, sym, ◌∙◌, ap₂, arith, w32, to_z, of_z}
use Rattle.std.proofs.lemmas.Int.{ints}
use Rattle.forms.specs.declared.window.Cell.{Cell}
use Rattle.forms.specs.Window.{row_of, column_of, in_window, stays, added}
use Rattle.forms.proofs.Steps.{placed}
use Rattle.forms.proofs.window.Cell.plus.Goals as goal

sum : (o : Option Cell) (x y : ℤ) (a b : ℕ) → x ≡ row_of a +ℤ row_of b → y ≡ column_of a +ℤ column_of b
    → MatchOption o (in_window x y ≡ false) (λ k. (in_window x y ≡ true) × (row_of k ≡ x) × (column_of k ≡ y))
    → (is_some o ≡ stays a b) × IfSome o (λ k. k ≡ added a b)
unfolding stays added
sum (Some k) x y a b e d h = (sym (ap₂ in_window (sym e) (sym d) ∙ h.0), placed k _ _ (h.1 ∙ e) (h.2 ∙ d))
sum None x y a b e d h = (sym (ap₂ in_window (sym e) (sym d) ∙ h), tt)

-- the machine's sum of small numbers is the plain one
plain : (x y r s : ℤ) → nat_abs x ≤ 4 → nat_abs y ≤ 4 → x ≡ r → y ≡ s → to_z w32 (of_z w32 (to_z w32 (of_z w32 x) +ℤ to_z w32 (of_z w32 y))) ≡ r +ℤ s
plain x y r s l k e d = omega (arith, ints)

pub returns : goal.returns
returns c =
    let s = sum c.new.result _ _ c.args.self c.args.other
    (plain c.row.result c.row-2.result (row_of c.args.self) (row_of c.args.other) c.row.ensures.reach c.row-2.ensures.reach c.row.ensures.value c.row-2.ensures.value)
    (plain c.column.result c.column-2.result (column_of c.args.self) (column_of c.args.other) (omega arith) (omega arith) c.column.ensures.value c.column-2.ensures.value)
    c.new.ensures in
    record { inside = s.0; sum = s.1 }
