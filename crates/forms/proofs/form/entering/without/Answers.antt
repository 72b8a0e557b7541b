use Rattle.std.proofs.Common.{◌≡◌, ℕ, ◌<◌, List, length, get_or, set, sym, subst, ap, ◌∙◌, arith}
use Rattle.std.proofs.lemmas.List.{get_or_read}
use Rattle.std.proofs.lemmas.Bool.{both_ways}
use Rattle.tables.specs.Table.{items_of}
use Rattle.forms.specs.Sets.{Sub}
use Rattle.forms.proofs.Left.{thinning_out, thinning_keep, thinning_all}
use Rattle.forms.proofs.form.entering.without.Goals as goal
use Rattle.forms.proofs.form.entering.without.Goals.{then-not-inside, else-not-inside}

pub loop-index-preserved : goal.loop-index-preserved
loop-index-preserved c =
    let t : ℕ = c.args.term in
    let xs : List ℕ = items_of c.args.table.now in
    let ys : List ℕ = items_of c.loop-index.table in
    let i : ℕ = c.loop-index.index in
    let k : ℕ = c.loop-index.kept in
    let p = c.loop-index.invariant in
    let l : i < length xs = omega (arith, c.loop-index-test.true, ap length c.as_slice-index-end.ensures.items) in
    let there : c.index-as_slice-index.result ≡ get_or ys i 0 =
    get_or_read c.as_slice.result.now i c.index-as_slice-index.result (omega (arith, ap length c.as_slice.ensures.items, p.0, l)) c.index-as_slice-index.is 0
    ∙ ap (λ (zs : List ℕ). get_or zs i 0) c.as_slice.ensures.items in
    elim c.if-not-inside.branch [
      | then-not-inside w ↦
          let e : items_of c.if-not-inside.table ≡ set ys k (get_or ys i 0) =
          ap items_of w.table-is ∙ w.set.ensures.value (omega (arith, p.0, p.1, l)) ∙ ap (set ys k) there in
          rw (e, w.kept-is) (thinning_keep t xs i ys k p l (λ q. both_ways c.inside.result w.if-not-inside.true (c.inside.ensures.value.1 (subst (Sub t) (sym there) q))))
      | else-not-inside w ↦
          rw (w.table-is, w.kept-is) (thinning_out t xs i ys k p l (subst (Sub t) there (c.inside.ensures.value.0 w.if-not-inside.false)))
    ]

pub returns : goal.returns
returns c =
    c.truncate.ensures
    ∙ thinning_all c.args.term (items_of c.args.table.now) c.loop-index.index (items_of c.loop-index.table) c.loop-index.kept c.loop-index.invariant
    (omega (arith, c.loop-index-test.false, ap length c.as_slice-index-end.ensures.items))
