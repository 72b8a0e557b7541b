use Rattle.std.proofs.Common.{◌≡◌, ℕ, ◌+◌, ◌*◌, ◌<◌, length, get_or, pos, ◌≤ℤ◌, arith, w32, to_z}
use Rattle.std.proofs.lemmas.Int.{to_z_pos}
use Rattle.sources.specs.Meaning.{Ranges}
use Rattle.extremes.specs.First.{turned}
use Rattle.extremes.specs.Leads.{element_in_order}
use Rattle.extremes.proofs.Frames.{err_not_some, ok_not_none, margin_known, row_readable, row_elements, row_holds, leads_next, first_place, last_row}
use Rattle.extremes.proofs.find_extremes.Goals as goal

pub returns-in_err-ok : goal.returns-in_err-ok
returns-in_err-ok g c =
    let m = g.S.Source.meaning c.args.source.now in
    let q : Ranges m = g.met.S.Source.ranges c.args.source.now in
    let deep : pos 0 ≤ℤ m.margin = margin_known m q (λ n. err_not_some (c.read.ensures.refused n) c.ok.ensures.value c.in_ok-element.was) in
    let row = c.loop-row.row in
    let w = c.width-width.result in
    let here : row < m.height = omega (arith, c.height-row-end.ensures) in
    let signed : to_z w32 row ≡ pos row = to_z_pos w32 row (omega (arith, here, q.few_rows)) in
    let long : length c.loop-row.scratch ≡ m.width = omega (arith, c.width-width.ensures, c.loop-row.auto.scratch) in
    let readable = row_readable m q (to_z w32 row) row (length c.loop-row.scratch) w signed long c.width-width.ensures deep here in
    absurd (ok_not_none (c.read_row.ensures.shown readable) c.ok-in-loop-row.ensures.value c.in_err-ok.was)

pub loop-row-preserved : goal.loop-row-preserved
loop-row-preserved g c =
    let m = g.S.Source.meaning c.args.source.now in
    let q : Ranges m = g.met.S.Source.ranges c.args.source.now in
    let deep : pos 0 ≤ℤ m.margin = margin_known m q (λ n. err_not_some (c.read.ensures.refused n) c.ok.ensures.value c.in_ok-element.was) in
    let row = c.loop-row.row in
    let w = c.width-width.result in
    let here : row < m.height = omega (arith, c.height-row-end.ensures) in
    let signed : to_z w32 row ≡ pos row = to_z_pos w32 row (omega (arith, here, q.few_rows)) in
    let long : length c.loop-row.scratch ≡ m.width = omega (arith, c.width-width.ensures, c.loop-row.auto.scratch) in
    let readable = row_readable m q (to_z w32 row) row (length c.loop-row.scratch) w signed long c.width-width.ensures deep here in
    let out = c.read_row.new.out in
    let filled = c.read_row.ensures.filled readable in
    let n : length out ≡ length c.loop-row.scratch = c.read_row.auto.out in
    let elements = row_elements m q (to_z w32 row) row (length c.loop-row.scratch) w signed long c.width-width.ensures out filled in
    let at : (k : ℕ) (d : g.row.S-Element.Denot) → k < length out → ◌≡◌ {A = g.row.S-Element.Denot} (get_or out k d) (element_in_order m (row * w + k)) = λ k d l. elements k d (omega (arith, n)) in
    let as_wide : length out ≡ w = omega (arith, n, long, c.width-width.ensures) in (
      (λ _. row_holds m q (to_z w32 row) row (length c.loop-row.scratch) w signed long c.width-width.ensures out filled),
      leads_next g.S.Element.Order.most (element_in_order m) row w (length out) c.scan-leaders.result.low as_wide (c.scan-leaders.ensures.low (element_in_order m) at c.loop-row.invariant.1),
      leads_next (turned g.S.Element.Order.most) (element_in_order m) row w (length out) c.scan-leaders.result.high as_wide (c.scan-leaders.ensures.high (element_in_order m) at c.loop-row.invariant.2),
    )

pub returns : goal.returns
returns g c =
    let m = g.S.Source.meaning c.args.source.now in
    let q : Ranges m = g.met.S.Source.ranges c.args.source.now in
    let deep : pos 0 ≤ℤ m.margin = margin_known m q (λ n. err_not_some (c.read.ensures.refused n) c.ok.ensures.value c.in_ok-element.was) in
    let row = c.loop-row.row in
    let w = c.width-width.result in
    let wide = c.width-width.ensures in
    let all : row ≡ m.height = omega (arith, c.height-row-end.ensures, c.loop-row.auto.row-end) in
    let some : 0 < row = omega (arith, all, q.some_rows) in
    record {
      scratch = last_row m q row w all wide c.loop-row.scratch (c.loop-row.invariant.0 some);
      answer = (
        omega (arith, wide),
        deep,
        record {
          low = first_place m q row w all wide g.S.Element.Order.most c.loop-row.leaders.low c.place_of.result c.place_of.ensures c.loop-row.invariant.1;
          high = first_place m q row w all wide (turned g.S.Element.Order.most) c.loop-row.leaders.high c.place_of-2.result c.place_of-2.ensures c.loop-row.invariant.2;
        },
      );
    }
