use Rattle.std.proofs.Common.{◌≡◌, ℕ, eqb, ltb, List, length, get_or, sym, ap, ◌∙◌, arith, rules, tests}
use Rattle.std.proofs.lemmas.List.Sorted.{IsPartitionPoint-from_clause}
use Rattle.forms.specs.Parts.{terms_of}
use Rattle.forms.proofs.Placed.{parted, held_there, held_nowhere}
use Rattle.forms.proofs.Forms.{sound_ascending}
use Rattle.forms.proofs.Whole.{sound_form}
use Rattle.forms.proofs.form.Form.holds.Goals as goal

pub returns-in-Some : goal.returns-in-Some
returns-in-Some c =
    let xs : List ℕ = terms_of c.args.self.now in
    let ys : List ℕ = c.terms-terms.result.now in
    let t : ℕ = c.args.term in
    let i : ℕ = c.partition_point-place.result in
    let a = sound_ascending xs (sound_form c.args.self.now) in
    let point = IsPartitionPoint-from_clause (λ u. ltb u t) ys i c.partition_point-place.ensures.partitioned (parted t xs ys c.terms-terms.ensures.value a) (λ d r f k. search (rules, tests)) in
    let e : ys ≡ xs = c.terms-terms.ensures.value in
    let found = c.in-Some.ensures.lookup.3 in
    c.eq.ensures ∙ ap (λ (u : ℕ). eqb u t) (found.1 0 ∙ ap (λ (zs : List ℕ). get_or zs i 0) e)
    ∙ sym (held_there t xs ys i e point a (omega (arith, found.0, ap length e)))

pub returns-in-None : goal.returns-in-None
returns-in-None c =
    let xs : List ℕ = terms_of c.args.self.now in
    let ys : List ℕ = c.terms-terms.result.now in
    let t : ℕ = c.args.term in
    let i : ℕ = c.partition_point-place.result in
    let a = sound_ascending xs (sound_form c.args.self.now) in
    let point = IsPartitionPoint-from_clause (λ u. ltb u t) ys i c.partition_point-place.ensures.partitioned (parted t xs ys c.terms-terms.ensures.value a) (λ d r f k. search (rules, tests)) in
    let e : ys ≡ xs = c.terms-terms.ensures.value in
    sym (held_nowhere t xs ys i e point (omega (arith, c.in-None.ensures.lookup.3, ap length e)))
