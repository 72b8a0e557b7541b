use Rattle.std.proofs.Common.{Ok, rules}
use Rattle.grammar.proofs.Beginnings.{reads_on}
use Rattle.grammar.proofs.readers.Reader.begin.Goals as goal

pub returns-in_ok-start-in-Word-clause-reading : goal.returns-in_ok-start-in-Word-clause-reading
returns-in_ok-start-in-Word-clause-reading c =
    reads_on (Ok c.in_ok-start-in-Word.start) c.next.new.self c.args.self.now c.args.depth (search rules)
