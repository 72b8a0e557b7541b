use Rattle.std.proofs.Common.{ℕ, ◌+◌, Some, sym, ap, ◌∙◌, arith, rules}
use Rattle.std.proofs.lemmas.Bool.{cond-false}
use Rattle.images.specs.Header.{white, digit}
use Rattle.images.proofs.Fields.{field_counted, to_pass}
use Rattle.images.proofs.reading.field.Goals as goal

pub returns-clause-value : goal.returns-clause-value
returns-clause-value c =
    let f = field_counted c.args.bytes.now c.args.at c.leading.result c.leading-2.result (c.leading.ensures.count white (λ b r e. e)) (c.leading-2.ensures.count digit (λ b r e. search rules)) in
    let start = c.args.at + c.leading.result in
    let end = start + c.leading-2.result in
    let pass = to_pass c.args.at start end (omega arith) (omega arith) (omega arith) in
    ap (λ (n : ℕ). Some (n, end)) c.decimal.ensures ∙ sym (f ∙ cond-false _ _ _ pass)
