use Rattle.comparing.specs.Witness.{frame_of}
use Rattle.comparing.proofs.Rows.{row_answer}
use Rattle.comparing.proofs.witness.source.WitnessSource.read_row.Goals as goal

pub returns : goal.returns
returns g c =
    let e = c.read_row.ensures in
    let (s, f, r) = row_answer (frame_of g.K.Order.most c.args.self.now) c.read_row.result c.args.out.now c.read_row.new.out
    c.args.row c.args.first c.ranges.row c.ranges.first (e.shown, e.filled, e.refused) in
    record { shown = s; filled = f; refused = r }
