use Rattle.std.proofs.lemmas.Bool.{both_ways}
use Rattle.sources.proofs.Rows.{through}
use Rattle.sources.proofs.extent.Extent.place_row.Goals as goal

pub returns-then-not-holds_row-clause-shown : goal.returns-then-not-holds_row-clause-shown
returns-then-not-holds_row-clause-shown c =
    let e = c.args.self in
    let d = through c.holds_row.result e.height e.width e.margin c.args.row c.args.first c.args.count c.ranges.row c.ranges.first c.holds_row.ensures in
    λ h. absurd (both_ways c.holds_row.result c.if-not-holds_row.true (d.1 h))

pub returns-clause-refused : goal.returns-clause-refused
returns-clause-refused c =
    let e = c.args.self in
    let d = through c.holds_row.result e.height e.width e.margin c.args.row c.args.first c.args.count c.ranges.row c.ranges.first c.holds_row.ensures in
    λ n. absurd (n (d.0 c.if-not-holds_row.false))
