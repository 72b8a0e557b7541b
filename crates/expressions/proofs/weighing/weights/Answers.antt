use Rattle.std.proofs.Common.{[], ◌∷◌, ◌++◌, sym, ap, ◌∙◌}
use Rattle.std.proofs.lemmas.Result.{err_from_is_err_and}
use Rattle.filters.specs.Basic.{Weighed}
use Rattle.grammar.specs.Reading.{Toks, read}
use Rattle.grammar.proofs.LeafFronts.{weighed_fewer}
use Rattle.expressions.proofs.WeightSteps.{start, more, finished, failed}
use Rattle.expressions.proofs.weighing.weights.Goals as goal
use Rattle.expressions.proofs.weighing.weights.Goals.{After-with-all}

pub loop-cell-init : goal.loop-cell-init
loop-cell-init c = ([], c.none.ensures, start c.args.reader.now)

pub returns-in_err-cell : goal.returns-in_err-cell
returns-in_err-cell c n l =
    let p = err_from_is_err_and c.from_residual.result c.from_residual.ensures.1 in
    let (xs, s, b) = c.loop-cell.invariant in
    rw (p.1, p.2) (failed c.args.reader.now c.loop-cell.reader xs _ _ _ b c.in_err-cell.ensures.read n l)

-- the cell that was read
abbrev cell : After-with-all → Weighed
cell c = record { cell = c.in_ok-cell.cell; times = c.in_ok-cell.times }

pub returns-then-closing_bracket : goal.returns-then-closing_bracket
returns-then-closing_bracket c n l =
    let d = (goal.at.returns-then-closing_bracket c).After-with-all in
    let (xs, s, b) = c.loop-cell.invariant in
    let h = c.if-closing_bracket.ensures in (
      xs ++ cell d ∷ [],
      finished c.args.reader.now c.loop-cell.reader c.weighed.new.self xs (cell d) c.in_ok-cell.ensures.read b h.0 n l
          ∙ ap (λ (us : Toks). read (xs ++ cell d ∷ []) us) (sym h.1),
      d.with-all.ensures xs s,
    )

pub loop-cell-smaller : goal.loop-cell-smaller
loop-cell-smaller c =
    let x : Weighed = record { cell = c.in_ok-cell.cell; times = c.in_ok-cell.times } in
    rw (c.if-closing_bracket.ensures.1) (weighed_fewer x c.loop-cell.reader c.weighed.new.self c.in_ok-cell.ensures.read)

pub loop-cell-preserved : goal.loop-cell-preserved
loop-cell-preserved c =
    let d = (goal.at.loop-cell-preserved c).After-with-all in
    let (xs, s, b) = c.loop-cell.invariant in
    let h = c.if-closing_bracket.ensures in (
      xs ++ cell d ∷ [],
      d.with-all.ensures xs s,
      rw (h.1) (more c.args.reader.now c.loop-cell.reader c.weighed.new.self xs (cell d) c.in_ok-cell.ensures.read b h.0),
    )
