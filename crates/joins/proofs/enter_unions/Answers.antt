use Rattle.std.proofs.Common.{ℕ, List, map, ap, ◌∙◌}
use lib.Bits.{bit_or}
use Rattle.std.proofs.lemmas.List.{get_or_read}
use Rattle.std.proofs.lemmas.Result.{err_from_is_err_and}
use Rattle.forms.specs.Faults.{fault_number}
use Rattle.forms.specs.Parts.{terms_of, told}
use Rattle.joins.specs.Joins.{enter_all}
use Rattle.joins.proofs.Turns.{map_at, map_below, map_above, entering_more, entering_stop, entering_all}
use Rattle.joins.proofs.enter_unions.Goals as goal

pub loop-other-init : goal.loop-other-init
loop-other-init c = ap (λ (y : List ℕ). enter_all (map (bit_or c.args.term) y) (terms_of c.args.joined.now)) c.terms-other-items.ensures.value

pub returns-in_err-enter : goal.returns-in_err-enter
returns-in_err-enter c =
    let g : List ℕ = terms_of c.args.g.now in
    let k : ℕ → ℕ = bit_or c.args.term in
    let o = enter_all (map k g) (terms_of c.args.joined.now) in
    let h : List ℕ = terms_of c.enter.new.self in
    let xs : List ℕ = c.terms-other-items.result.now in
    let here = get_or_read xs c.loop-other.other-index c.other-item.result c.loop-other-test.true c.other-item.is 0 in
    let p = err_from_is_err_and c.from_residual.result c.from_residual.ensures.1 in
    rw (p.1, p.2)
    (entering_stop o (map k c.terms-other-items.result.now) c.loop-other.other-index (terms_of c.loop-other.joined) c.loop-other.invariant (map_below k xs c.loop-other.other-index c.loop-other-test.true)
    c.union.result (c.union.ensures.value ∙ map_at k xs c.loop-other.other-index c.other-item.result c.loop-other-test.true here)
    (told c.enter.result h) c.enter.ensures.exact (fault_number c.in_err-enter.field-0.0) (ap (λ r. told r h) c.in_err-enter.was))

pub loop-other-preserved : goal.loop-other-preserved
loop-other-preserved c =
    let g : List ℕ = terms_of c.args.g.now in
    let k : ℕ → ℕ = bit_or c.args.term in
    let o = enter_all (map k g) (terms_of c.args.joined.now) in
    let h : List ℕ = terms_of c.enter.new.self in
    let xs : List ℕ = c.terms-other-items.result.now in
    let here = get_or_read xs c.loop-other.other-index c.other-item.result c.loop-other-test.true c.other-item.is 0 in
    entering_more o (map k c.terms-other-items.result.now) c.loop-other.other-index (terms_of c.loop-other.joined) c.loop-other.invariant (map_below k xs c.loop-other.other-index c.loop-other-test.true)
    c.union.result (c.union.ensures.value ∙ map_at k xs c.loop-other.other-index c.other-item.result c.loop-other-test.true here)
    (told c.enter.result h) c.enter.ensures.exact h (ap (λ r. told r h) c.in_ok-enter.was)

pub returns : goal.returns
returns c =
    let g : List ℕ = terms_of c.args.g.now in
    let k : ℕ → ℕ = bit_or c.args.term in
    entering_all (enter_all (map k g) (terms_of c.args.joined.now)) (map k c.terms-other-items.result.now) c.loop-other.other-index (terms_of c.loop-other.joined) c.loop-other.invariant
    (map_above k c.terms-other-items.result.now c.loop-other.other-index c.loop-other-test.false)
