use Rattle.std.proofs.Common.{◌≡◌, ℕ, List, get_or, Ok, sym, ap, ◌∙◌, subst}
use lib.Bits.{bit_or}
use Rattle.std.proofs.lemmas.List.{get_or_read}
use Rattle.std.proofs.lemmas.Result.{err_from_is_err_and}
use Rattle.forms.specs.Entering.{made}
use Rattle.forms.specs.Faults.{fault_number}
use Rattle.forms.specs.Parts.{terms_of, told, outcome}
use Rattle.forms.proofs.Whole.{size_some}
use Rattle.joins.specs.Joins.{min_of}
use Rattle.joins.proofs.Turns.{Uniting, uniting_start, uniting_more, uniting_stop, uniting_all}
use Rattle.joins.proofs.Ensuring.{min_ensured}
use Rattle.joins.proofs.Minimals.{min_minimal}
use Rattle.joins.proofs.min.Goals as goal

pub loop-term-init : goal.loop-term-init
loop-term-init c =
    let f : List ℕ = terms_of c.args.f.now in
    let g : List ℕ = terms_of c.args.g.now in
    let t : ℕ = c.union.result in
    let e : t ≡ bit_or (get_or f 0 0) (get_or g 0 0) =
    c.union.ensures.value ∙ ap (λ (y : ℕ). bit_or y c.first-2.result) c.first.ensures ∙ ap (λ (y : ℕ). bit_or (get_or f 0 0) y) c.first-2.ensures in
    rw c.terms-term-items.ensures.value
    (subst (λ (y : List ℕ). Uniting (min_of f g) f g 0 y) (sym c.single-joined.ensures) (uniting_start f g t (size_some c.args.f.now) (size_some c.args.g.now) e))

pub returns-in_err-enter_unions : goal.returns-in_err-enter_unions
returns-in_err-enter_unions c =
    let f : List ℕ = terms_of c.args.f.now in
    let g : List ℕ = terms_of c.args.g.now in
    let h : List ℕ = terms_of c.enter_unions.new.joined in
    let here = get_or_read c.terms-term-items.result.now c.loop-term.term-index c.term-item.result c.loop-term-test.true c.term-item.is 0 in
    let p = err_from_is_err_and c.from_residual.result c.from_residual.ensures.1 in
    let e : outcome c.from_residual.result ≡ min_of f g =
    rw (p.1, p.2)
    (uniting_stop (min_of f g) c.terms-term-items.result.now g c.loop-term.term-index (terms_of c.loop-term.joined) c.loop-term.invariant c.loop-term-test.true
    c.term-item.result here (told c.enter_unions.result h) c.enter_unions.ensures
    (fault_number c.in_err-enter_unions.field-0.0) (ap (λ r. told r h) c.in_err-enter_unions.was)) in
    record { exact = e; minimal = min_minimal c.from_residual.result f g e; truth = min_ensured c.from_residual.result f g e }

pub loop-term-preserved : goal.loop-term-preserved
loop-term-preserved c =
    let f : List ℕ = terms_of c.args.f.now in
    let g : List ℕ = terms_of c.args.g.now in
    let h : List ℕ = terms_of c.enter_unions.new.joined in
    let here = get_or_read c.terms-term-items.result.now c.loop-term.term-index c.term-item.result c.loop-term-test.true c.term-item.is 0 in
    uniting_more (min_of f g) c.terms-term-items.result.now g c.loop-term.term-index (terms_of c.loop-term.joined) c.loop-term.invariant c.loop-term-test.true
    c.term-item.result here (told c.enter_unions.result h) c.enter_unions.ensures h (ap (λ r. told r h) c.in_ok-enter_unions.was)

pub returns : goal.returns
returns c =
    let f : List ℕ = terms_of c.args.f.now in
    let g : List ℕ = terms_of c.args.g.now in
    let e : made (terms_of c.loop-term.joined) ≡ min_of f g = uniting_all (min_of f g) c.terms-term-items.result.now g c.loop-term.term-index (terms_of c.loop-term.joined) c.loop-term.invariant c.loop-term-test.false in
    record { exact = e; minimal = min_minimal (Ok c.loop-term.joined) f g e; truth = min_ensured (Ok c.loop-term.joined) f g e }
