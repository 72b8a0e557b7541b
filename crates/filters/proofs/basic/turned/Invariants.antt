use Rattle.std.proofs.Common.{◌≡◌, map}
use Rattle.forms.specs.Sets.{single}
use Rattle.forms.specs.Parts.{terms_of}
use Rattle.joins.specs.Joins.{enter_all}
use Rattle.filters.specs.Basic.{opposite, dilation_of}
use Rattle.filters.proofs.basic.turned.Given as goal

-- with the cells that are left, the form comes to what it has to be
abbrev pub invariant-loop-cell : goal.invariant-loop-cell
invariant-loop-cell l = enter_all (map (λ c. single (opposite c)) l.cell-iterator) (terms_of l.form) ≡ dilation_of l.fn.size.height l.fn.size.width
