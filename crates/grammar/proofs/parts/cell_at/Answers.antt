use Rattle.std.proofs.Common.{◌≡◌, true, is_some, Some, None, Option, refl, arith}
use Rattle.std.proofs.lemmas.Int.{ints}
use Rattle.forms.specs.declared.window.Cell.{Cell}
use Rattle.forms.specs.Window.{row_of, column_of, in_window}
use Rattle.forms.proofs.Steps.{placed}
use Rattle.grammar.proofs.parts.cell_at.Goals as goal

there : (o : Option Cell) → (o ≡ None → ⊥) → is_some o ≡ true
there (Some k) h = refl
there None h = absurd (h refl)

pub unwrap-requires : goal.unwrap-requires
unfolding in_window
unwrap-requires c = there c.new.result (λ e. let h = rw e at c.new.ensures in grind (arith, ints))

pub returns : goal.returns
returns c =
    let h = rw c.unwrap.ensures at c.new.ensures in
    let e : row_of c.unwrap.result ≡ c.args.row = omega (arith, ints, h.1) in
    let d : column_of c.unwrap.result ≡ c.args.column = omega (arith, ints, h.2) in
    placed c.unwrap.result c.args.row c.args.column e d
