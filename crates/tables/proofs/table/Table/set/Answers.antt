use Rattle.std.proofs.Math.Seq.{take-set-lt}
use Rattle.tables.proofs.table.Table.set.Goals as goal

pub returns-then-at-self-clause-value : goal.returns-then-at-self-clause-value
returns-then-at-self-clause-value g c = λ l. take-set-lt c.args.self.now.count c.args.self.now.items c.args.at c.args.value c.if-at-self.true
