use Rattle.std.proofs.Common.{ℕ, ltb, List, rules, tests}
use Rattle.std.proofs.lemmas.List.Sorted.{IsPartitionPoint-from_clause}
use Rattle.tables.specs.Table.{items_of}
use Rattle.forms.proofs.Placed.{put_there, parted}
use Rattle.forms.proofs.form.entering.put.Goals as goal

pub returns-clause-ok : goal.returns-clause-ok
returns-clause-ok c =
    let xs : List ℕ = items_of c.args.table.now in
    let ys : List ℕ = c.as_slice.result.now in
    let t : ℕ = c.args.term in
    let i : ℕ = c.partition_point-place.result in
    let a = c.requires.ascending in
    let point = IsPartitionPoint-from_clause (λ u. ltb u t) ys i c.partition_point-place.ensures.partitioned (parted t xs ys c.as_slice.ensures.items a) (λ d r f k. search (rules, tests)) in
    let e = put_there t xs ys i c.as_slice.ensures.items a c.requires.new c.partition_point-place.ensures.bound point in
    rw e c.insert.ensures.ok
