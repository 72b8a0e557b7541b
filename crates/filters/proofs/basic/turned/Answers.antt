use Rattle.std.proofs.Common.{ℕ, List, map, ap, ◌∙◌}
use Rattle.forms.specs.Sets.{single}
use Rattle.forms.specs.Parts.{terms_of}
use Rattle.joins.specs.Joins.{enter_all}
use Rattle.filters.specs.Basic.{opposite}
use Rattle.filters.proofs.Truths.{dilation_start}
use Rattle.filters.proofs.basic.turned.Goals as goal

abbrev turn : ℕ → ℕ
turn n = single (opposite n)

pub loop-cell-init : goal.loop-cell-init
loop-cell-init c =
    ap (λ (cs : List ℕ). enter_all (map turn cs) (terms_of c.window-form.result)) (c.into_iter-cell-iterator.ensures.into_iter_gives ∙ c.cells-cell-items.ensures)
    ∙ ap (enter_all _) c.window-form.ensures
    ∙ dilation_start c.args.size.height c.args.size.width c.args.size.sides
