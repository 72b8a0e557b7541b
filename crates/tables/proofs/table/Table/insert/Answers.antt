use Rattle.std.proofs.Common.{[], ◌∷◌, length, ap, arith, length-append, length-take-le}
use Rattle.tables.specs.Table.{items_of}
use Rattle.tables.proofs.Turning.{turn}
use Rattle.tables.proofs.table.Table.insert.Goals as goal

pub returns-clause-ok : goal.returns-clause-ok
returns-clause-ok g c =
    let now = c.push.new.self in
    let xs = items_of c.args.self.now in
    let pushed = c.in_ok-push.ensures.ok in
    turn now.items xs c.args.value c.args.at c.min-from.result now.count pushed
    (omega (arith, ap length pushed, length-append xs (c.args.value ∷ []), length-take-le now.count now.items (omega (arith, now.size, now.room))))
    (omega (arith, now.size, now.room))
    c.min-from.ensures c.rotate_right.new.self c.rotate_right.ensures.after
