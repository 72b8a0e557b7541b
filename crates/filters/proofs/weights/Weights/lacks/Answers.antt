use Rattle.std.proofs.Common.{not, eqb, rules, tests}
use Rattle.std.proofs.lemmas.Iterator.{YieldsList-from_slice}
use Rattle.std.proofs.lemmas.Iterator.Search.{all_from_yields_List}
use Rattle.filters.specs.Weights.{listed}
use Rattle.filters.proofs.weights.Weights.lacks.Goals as goal

pub returns-clause-value : goal.returns-clause-value
returns-clause-value c =
    all_from_yields_List (λ x. not (eqb c.args.cell x.cell)) _ _ c.all.result c.all.ensures.ran (YieldsList-from_slice (listed c.args.self.now) cc) (λ x b q k. search (rules, tests))
