use Rattle.std.proofs.Common.{List, ◌++◌, sym, ap, ◌∙◌}
use Rattle.letters.specs.Tokens.{Placed}
use Rattle.grammar.proofs.Places.{from_there}
use Rattle.grammar.proofs.readers.Reader.place.Goals as goal

pub returns-in-Ok : goal.returns-in-Ok
returns-in-Ok c = λ text at read e.
    let q = sym c.fork.ensures ∙ c.in-Ok.ensures.takes in
    from_there text read at _ _ (e ∙ ap (λ (ts : List Placed). read ++ ts) q) ∙ sym q

pub returns-in-Err : goal.returns-in-Err
returns-in-Err c = λ text at read e.
    let q = sym c.fork.ensures ∙ c.in-Err.ensures.takes in
    from_there text read at _ _ (e ∙ ap (λ (ts : List Placed). read ++ ts) q) ∙ sym q
