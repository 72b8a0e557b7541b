use Rattle.std.proofs.Common.{◌≡◌, ℕ, length, ℤ, pos, ◌+ℤ◌, ap, ◌∙◌, arith, rules, w32}
use Rattle.sources.specs.Edges.{nearest}
use Rattle.sources.proofs.Rows.{placed, row_below}
use Rattle.std.proofs.lemmas.Int.{to_z-of_z}
use Rattle.sources.specs.Meaning.{Ranges}
use Rattle.images.specs.declared.header.Header.{Header}
use Rattle.images.specs.declared.image.Image.{Image}
use Rattle.images.proofs.Places.{shown_same}
use Rattle.images.specs.Parsed.{shown}
use Rattle.images.proofs.image.calls.ImageSource.read_row.Goals as goal

shown_ranges : (i : Image) → Ranges (shown i)
shown_ranges i = search rules

pub returns-in_err-row-clause-shown : goal.returns-in_err-row-clause-shown
returns-in_err-row-clause-shown c =
    let m = shown c.args.self.now in
    let e = c.extent.result in
    let p = placed m c.args.row c.args.first (length c.args.out.now) c.ranges.row c.ranges.first c.place_row.result e.height e.width e.margin c.extent.ensures.height c.extent.ensures.width c.extent.ensures.margin (c.place_row.ensures.shown, c.place_row.ensures.refused) in
    λ r. let a = p.0 r in let w = c.in_err-row.was in cc

pub returns-in_err-row-clause-filled : goal.returns-in_err-row-clause-filled
returns-in_err-row-clause-filled c =
    let m = shown c.args.self.now in
    let e = c.extent.result in
    let p = placed m c.args.row c.args.first (length c.args.out.now) c.ranges.row c.ranges.first c.place_row.result e.height e.width e.margin c.extent.ensures.height c.extent.ensures.width c.extent.ensures.margin (c.place_row.ensures.shown, c.place_row.ensures.refused) in
    λ r k l d. let a = p.0 r in let w = c.in_err-row.was in cc

pub returns-clause-refused : goal.returns-clause-refused
returns-clause-refused c =
    let m = shown c.args.self.now in
    let e = c.extent.result in
    let p = placed m c.args.row c.args.first (length c.args.out.now) c.ranges.row c.ranges.first c.place_row.result e.height e.width e.margin c.extent.ensures.height c.extent.ensures.width c.extent.ensures.margin (c.place_row.ensures.shown, c.place_row.ensures.refused) in
    λ n. let a = p.1 n in let w = c.in_ok-row.was in let z : ◌≡◌ {A = ℕ} 0 1 = cc in absurd (omega arith)

pub returns-clause-filled : goal.returns-clause-filled
returns-clause-filled c =
    let m = shown c.args.self.now in
    let e = c.extent.result in
    let p = placed m c.args.row c.args.first (length c.args.out.now) c.ranges.row c.ranges.first c.place_row.result e.height e.width e.margin c.extent.ensures.height c.extent.ensures.width c.extent.ensures.margin (c.place_row.ensures.shown, c.place_row.ensures.refused) in
    λ r k l d.
    let a = p.0 r in
    let w = c.in_ok-row.was in
    let row : c.in_ok-row.row ≡ nearest m.height c.args.row = cc in
    c.row_into.ensures k d l ∙ shown_same c.raster.ensures.header c.raster.ensures.bytes row (ap (λ (z : ℤ). z +ℤ pos k) (to_z-of_z w32 c.args.first c.ranges.first))

pub row_into-requires : goal.row_into-requires
row_into-requires c =
    let m = shown c.args.self.now in
    let e = c.extent.result in
    let p = placed m c.args.row c.args.first (length c.args.out.now) c.ranges.row c.ranges.first c.place_row.result e.height e.width e.margin c.extent.ensures.height c.extent.ensures.width c.extent.ensures.margin (c.place_row.ensures.shown, c.place_row.ensures.refused) in
    let below = row_below m c.args.row c.args.first (length c.args.out.now) (shown_ranges c.args.self.now) c.place_row.result c.in_ok-row.row p c.in_ok-row.was in
    omega (arith, below, ap (λ (h : Header). h.height) c.raster.ensures.header)
