use Rattle.std.proofs.Common.{ℕ, ◌+◌, ◌-◌, List, [], ◌∷◌, length, drop, sym, ap, ◌∙◌, arith}
use Rattle.std.proofs.lemmas.List.{get_or_read, length-drop, length-take}
use Rattle.std.proofs.lemmas.Bool.{both_ways}
use Rattle.forms.specs.Parts.{terms_of}
use Rattle.forms.proofs.Whole.{apart_form}
use Rattle.stored.proofs.Reading.{ascends_to, first_taken, tail_at, turn_refused, turn_more, all_entered, built_accepted}
use Rattle.stored.proofs.loading.formed.Goals as goal

pub loop-term-init : goal.loop-term-init
loop-term-init c =
    let ts : List ℕ = c.args.terms.now in
    c.single-form.ensures ∙ ap (λ (y : ℕ). y ∷ []) (get_or_read ts 0 c.index-terms-0.result c.requires.some c.index-terms-0.is 0) ∙ sym (first_taken ts c.requires.some)

pub returns-then-is_true_on : goal.returns-then-is_true_on
returns-then-is_true_on c =
    let ts : List ℕ = c.args.terms.now in
    let i : ℕ = c.loop-term.term-index in
    let at = tail_at ts i c.term-item.result c.loop-term-test.true c.term-item.is in
    turn_refused ts (terms_of c.loop-term.form) (ascends_to 0 ts c.requires.ascend).1 (i + 1) c.term-item.result c.from.result at.0 c.loop-term.invariant at.1 c.from.ensures.0
    (c.is_true_on.ensures.terms.0 c.if-is_true_on.true)

pub loop-term-preserved : goal.loop-term-preserved
loop-term-preserved c =
    let ts : List ℕ = c.args.terms.now in
    let i : ℕ = c.loop-term.term-index in
    let at = tail_at ts i c.term-item.result c.loop-term-test.true c.term-item.is in
    turn_more ts (terms_of c.loop-term.form) (ascends_to 0 ts c.requires.ascend).1 (i + 1) c.term-item.result c.from.result at.0 c.loop-term.invariant at.1 c.from.ensures.0
    (λ h. both_ways c.is_true_on.result c.if-is_true_on.false (c.is_true_on.ensures.terms.1 h))
    (omega (arith, at.0)) c.enter.result (terms_of c.enter.new.self) c.enter.ensures.exact

pub returns : goal.returns
returns c =
    let ts : List ℕ = c.args.terms.now in
    let f : List ℕ = terms_of c.loop-term.form in
    built_accepted ts f (all_entered ts f (c.loop-term.term-index + 1) c.loop-term.invariant (omega (arith, length-take (length ts - 1) (drop 1 ts), length-drop 1 ts))) (apart_form c.loop-term.form)
