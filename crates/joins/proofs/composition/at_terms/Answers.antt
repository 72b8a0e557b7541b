use Rattle.std.proofs.Common.{◌≡◌, ℕ, List, ◌∷◌, sym, refl, ap, ◌∙◌, subst, inl, inr, arith}
use Rattle.std.proofs.lemmas.List.{get_or_read}
use Rattle.std.proofs.lemmas.Result.{err_from_is_err_and}
use Rattle.forms.specs.Faults.{fault_number}
use Rattle.forms.specs.Terms.{In}
use Rattle.forms.specs.Entering.{made, declined}
use Rattle.forms.specs.Parts.{terms_of, outcome}
use Rattle.forms.proofs.Entered.{in_at_or}
use Rattle.joins.specs.Joins.{after, max_at, any_at}
use Rattle.joins.proofs.Passing.{first_more, first_stop, term_stop, max_more, max_stop, term_end}
use Rattle.joins.proofs.composition.at_terms.Goals as goal

pub at_term-requires : goal.at_term-requires
at_term-requires c = c.requires c.args.first (inl refl)

pub at_term-requires-in-loop-term : goal.at_term-requires-in-loop-term
at_term-requires-in-loop-term c = c.requires c.term-item.result (inr (subst (λ (u : ℕ). In u c.args.others.now) (sym c.term-item.is) (in_at_or c.args.others.now c.loop-term.term-index c.term-item.result c.loop-term-test.true)))

pub returns-in_err-joined : goal.returns-in_err-joined
returns-in_err-joined c =
    let f : List ℕ = terms_of c.args.f.now in
    let p = err_from_is_err_and c.from_residual.result c.from_residual.ensures.1 in
    rw (p.1, p.2)
    (first_stop f (c.args.first ∷ c.args.others.now) c.args.first (omega arith) refl (outcome c.at_term.result) c.at_term.ensures
    (fault_number c.in_err-joined.field-0.0) (ap outcome c.in_err-joined.was))

pub loop-term-init : goal.loop-term-init
loop-term-init c =
    first_more (terms_of c.args.f.now) (c.args.first ∷ c.args.others.now) c.args.first (omega arith) refl (outcome c.at_term.result) c.at_term.ensures
    (terms_of c.in_ok-joined.joined) (ap outcome c.in_ok-joined.was)

pub returns-in_err-at_term : goal.returns-in_err-at_term
returns-in_err-at_term c =
    let f : List ℕ = terms_of c.args.f.now in
    let e : List ℕ = c.args.others.now in
    let p = err_from_is_err_and c.from_residual-in_err-at_term.result c.from_residual-in_err-at_term.ensures.1 in
    let here = get_or_read e c.loop-term.term-index c.term-item.result c.loop-term-test.true c.term-item.is 0 in
    rw (p.1, p.2)
    (term_stop f e (any_at f (c.args.first ∷ e)) c.loop-term.term-index (terms_of c.loop-term.joined) c.loop-term.invariant c.loop-term-test.true
    c.term-item.result here (outcome c.at_term-in-loop-term.result) c.at_term-in-loop-term.ensures
    (fault_number c.in_err-at_term.field-0.0) (ap outcome c.in_err-at_term.was))

pub returns-in_err-joined-2 : goal.returns-in_err-joined-2
returns-in_err-joined-2 c =
    let f : List ℕ = terms_of c.args.f.now in
    let e : List ℕ = c.args.others.now in
    let p = err_from_is_err_and c.from_residual-in_err-joined-2.result c.from_residual-in_err-joined-2.ensures.1 in
    let here = get_or_read e c.loop-term.term-index c.term-item.result c.loop-term-test.true c.term-item.is 0 in
    rw (p.1, p.2)
    (max_stop f e (any_at f (c.args.first ∷ e)) c.loop-term.term-index (terms_of c.loop-term.joined) c.loop-term.invariant c.loop-term-test.true
    c.term-item.result here (outcome c.at_term-in-loop-term.result) c.at_term-in-loop-term.ensures
    (terms_of c.in_ok-at_term.field-0) (ap outcome c.in_ok-at_term.was) (outcome c.max.result) c.max.ensures.exact
    (fault_number c.in_err-joined-2.field-0.0) (ap outcome c.in_err-joined-2.was))

pub loop-term-preserved : goal.loop-term-preserved
loop-term-preserved c =
    let f : List ℕ = terms_of c.args.f.now in
    let e : List ℕ = c.args.others.now in
    let here = get_or_read e c.loop-term.term-index c.term-item.result c.loop-term-test.true c.term-item.is 0 in
    max_more f e (any_at f (c.args.first ∷ e)) c.loop-term.term-index (terms_of c.loop-term.joined) c.loop-term.invariant c.loop-term-test.true
    c.term-item.result here (outcome c.at_term-in-loop-term.result) c.at_term-in-loop-term.ensures
    (terms_of c.in_ok-at_term.field-0) (ap outcome c.in_ok-at_term.was) (outcome c.max.result) c.max.ensures.exact
    (terms_of c.in_ok-joined-2.joined) (ap outcome c.in_ok-joined-2.was)

pub returns : goal.returns
returns c =
    let f : List ℕ = terms_of c.args.f.now in
    let e : List ℕ = c.args.others.now in
    term_end f e (any_at f (c.args.first ∷ e)) c.loop-term.term-index (terms_of c.loop-term.joined) c.loop-term.invariant c.loop-term-test.false
