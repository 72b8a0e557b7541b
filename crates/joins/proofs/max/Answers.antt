use Rattle.std.proofs.Common.{◌≡◌, ℕ, List, Ok, ap}
use Rattle.std.proofs.lemmas.List.{get_or_read}
use Rattle.std.proofs.lemmas.Result.{err_from_is_err_and}
use Rattle.forms.specs.Entering.{made}
use Rattle.forms.specs.Faults.{fault_number}
use Rattle.forms.specs.Parts.{terms_of, told, outcome}
use Rattle.joins.specs.Joins.{enter_all, max_of}
use Rattle.joins.proofs.Turns.{entering_more, entering_stop, entering_all}
use Rattle.joins.proofs.Ensuring.{max_ensured}
use Rattle.joins.proofs.Minimals.{max_minimal}
use Rattle.joins.proofs.max.Goals as goal

pub loop-term-init : goal.loop-term-init
loop-term-init c = ap (λ (y : List ℕ). enter_all y (terms_of c.args.f.now)) c.terms-term-items.ensures.value

pub returns-in_err-enter : goal.returns-in_err-enter
returns-in_err-enter c =
    let f : List ℕ = terms_of c.args.f.now in
    let g : List ℕ = terms_of c.args.g.now in
    let h : List ℕ = terms_of c.enter.new.self in
    let here = get_or_read c.terms-term-items.result.now c.loop-term.term-index c.term-item.result c.loop-term-test.true c.term-item.is 0 in
    let p = err_from_is_err_and c.from_residual.result c.from_residual.ensures.1 in
    let e : outcome c.from_residual.result ≡ max_of f g =
    rw (p.1, p.2)
    (entering_stop (max_of f g) c.terms-term-items.result.now c.loop-term.term-index (terms_of c.loop-term.joined) c.loop-term.invariant c.loop-term-test.true
    c.term-item.result here (told c.enter.result h) c.enter.ensures.exact
    (fault_number c.in_err-enter.field-0.0) (ap (λ r. told r h) c.in_err-enter.was)) in
    record { exact = e; minimal = max_minimal c.from_residual.result c.args.f.now g e; truth = max_ensured c.from_residual.result f g e }

pub loop-term-preserved : goal.loop-term-preserved
loop-term-preserved c =
    let f : List ℕ = terms_of c.args.f.now in
    let g : List ℕ = terms_of c.args.g.now in
    let h : List ℕ = terms_of c.enter.new.self in
    let here = get_or_read c.terms-term-items.result.now c.loop-term.term-index c.term-item.result c.loop-term-test.true c.term-item.is 0 in
    entering_more (max_of f g) c.terms-term-items.result.now c.loop-term.term-index (terms_of c.loop-term.joined) c.loop-term.invariant c.loop-term-test.true
    c.term-item.result here (told c.enter.result h) c.enter.ensures.exact h (ap (λ r. told r h) c.in_ok-enter.was)

pub returns : goal.returns
returns c =
    let f : List ℕ = terms_of c.args.f.now in
    let g : List ℕ = terms_of c.args.g.now in
    let e : made (terms_of c.loop-term.joined) ≡ max_of f g = entering_all (max_of f g) c.terms-term-items.result.now c.loop-term.term-index (terms_of c.loop-term.joined) c.loop-term.invariant c.loop-term-test.false in
    record { exact = e; minimal = max_minimal (Ok c.loop-term.joined) c.args.f.now g e; truth = max_ensured (Ok c.loop-term.joined) f g e }
