use Rattle.std.proofs.Common.{◌≡◌, ℕ, length, vec_items, ap, ◌∙◌, arith}
use Rattle.sources.specs.Edges.{nearest}
use Rattle.sources.proofs.Rows.{placed}
use Rattle.images.specs.Parsed.{events}
use Rattle.images.specs.Records.{event_at}
use Rattle.images.proofs.log.calls.LogSource.read_row.Goals as goal

pub returns-in_err-row-clause-shown : goal.returns-in_err-row-clause-shown
returns-in_err-row-clause-shown c =
    let m = events c.args.self.now in
    let e = c.extent.result in
    let p = placed m c.args.row c.args.first (length c.args.out.now) c.ranges.row c.ranges.first c.place_row.result e.height e.width e.margin c.extent.ensures.height c.extent.ensures.width c.extent.ensures.margin (c.place_row.ensures.shown, c.place_row.ensures.refused) in
    λ r. let a = p.0 r in let w = c.in_err-row.was in cc

pub returns-in_err-row-clause-filled : goal.returns-in_err-row-clause-filled
returns-in_err-row-clause-filled c =
    let m = events c.args.self.now in
    let e = c.extent.result in
    let p = placed m c.args.row c.args.first (length c.args.out.now) c.ranges.row c.ranges.first c.place_row.result e.height e.width e.margin c.extent.ensures.height c.extent.ensures.width c.extent.ensures.margin (c.place_row.ensures.shown, c.place_row.ensures.refused) in
    λ r k l d. let a = p.0 r in let w = c.in_err-row.was in cc

pub returns-clause-refused : goal.returns-clause-refused
returns-clause-refused c =
    let m = events c.args.self.now in
    let e = c.extent.result in
    let p = placed m c.args.row c.args.first (length c.args.out.now) c.ranges.row c.ranges.first c.place_row.result e.height e.width e.margin c.extent.ensures.height c.extent.ensures.width c.extent.ensures.margin (c.place_row.ensures.shown, c.place_row.ensures.refused) in
    λ n. let a = p.1 n in let w = c.in_ok-row.was in let z : ◌≡◌ {A = ℕ} 0 1 = cc in absurd (omega arith)

pub returns-clause-filled : goal.returns-clause-filled
returns-clause-filled c =
    let m = events c.args.self.now in
    let e = c.extent.result in
    let p = placed m c.args.row c.args.first (length c.args.out.now) c.ranges.row c.ranges.first c.place_row.result e.height e.width e.margin c.extent.ensures.height c.extent.ensures.width c.extent.ensures.margin (c.place_row.ensures.shown, c.place_row.ensures.refused) in
    λ r k l d.
    let a = p.0 r in
    let w = c.in_ok-row.was in
    let row : c.in_ok-row.row ≡ nearest m.height c.args.row = cc in
    c.fill_from.ensures.inside k d (omega arith) l ∙ c.at.ensures ∙ ap (event_at (vec_items c.args.self.now.bytes)) row
