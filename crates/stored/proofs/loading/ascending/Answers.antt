use Rattle.std.proofs.Common.{ltb, rules, tests}
use Rattle.std.proofs.lemmas.List.Sorted.{answers_always}
use Rattle.stored.proofs.Reading.{ascends_answer}
use Rattle.stored.proofs.loading.ascending.Goals as goal

pub returns : goal.returns
returns c = ascends_answer c.is_sorted_by.result c.args.terms.now c.requires (c.is_sorted_by.ensures.cases ltb (answers_always _ _ _ (λ f a r g h. search (rules, tests))))
