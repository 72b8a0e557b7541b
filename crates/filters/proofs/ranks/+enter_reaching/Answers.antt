use Rattle.std.proofs.Common.{ℕ, ◌<◌, List, sym, ap, ◌∙◌, subst, arith, rules}
use Rattle.std.proofs.lemmas.Result.{err_from_is_err_and}
use lib.Bits.{or_comm}
use Rattle.forms.specs.Sets.{single}
use Rattle.forms.specs.Entering.{bounded, enter}
use Rattle.forms.specs.Faults.{fault_number}
use Rattle.forms.specs.Parts.{terms_of, told}
use Rattle.forms.proofs.Bits.{or_some, single_some}
use Rattle.filters.proofs.Reached.{reached_zero, first_of, reached_more, reached_stop}
use Rattle.filters.proofs.ranks.+enter_reaching.Goals as goal

pub returns-then-left-eq0 : goal.returns-then-left-eq0
returns-then-left-eq0 t c =
    let f : List ℕ = terms_of c.args.form.now in
    c.enter.ensures.exact ∙ ap (λ (s : ℕ). bounded (enter s f)) c.in-Some.ensures
    ∙ reached_zero c.args.set c.args.weights.now c.args.left f c.if-left-eq0.true

pub returns-in_err-enter_reaching : goal.returns-in_err-enter_reaching
returns-in_err-enter_reaching t c =
    let h : List ℕ = terms_of c.enter_reaching.new.form in
    let p = err_from_is_err_and c.from_residual.result c.from_residual.ensures.1 in
    rw (p.1, p.2)
    (reached_stop c.args.set c.args.weights.now c.weighed-item.result _ (first_of _ _ c.in-len1-up.len_at_least c.weighed-item.is)
    c.args.left (terms_of c.args.form.now) c.if-left-eq0.false (told c.enter_reaching.result h) c.enter_reaching.ensures
    (fault_number c.in_err-enter_reaching.field-0.0) (ap (λ r. told r h) c.in_err-enter_reaching.was))

pub enter_reaching-requires-2 : goal.enter_reaching-requires-2
enter_reaching-requires-2 t c =
    let n : ℕ = c.weighed-item.result.cell in
    (search rules, λ z. subst (λ (s : ℕ). 0 < s) (sym (c.with.ensures.value ∙ or_comm c.args.set (single n))) (or_some (single n) c.args.set (single_some n)))

pub returns : goal.returns
returns t c =
    let h : List ℕ = terms_of c.enter_reaching.new.form in
    reached_more c.args.set c.args.weights.now c.weighed-item.result _ (first_of _ _ c.in-len1-up.len_at_least c.weighed-item.is)
    c.args.left (terms_of c.args.form.now) c.if-left-eq0.false (told c.enter_reaching.result h) c.enter_reaching.ensures
    h (told c.enter_reaching-2.result (terms_of c.enter_reaching-2.new.form)) c.with.result c.saturating_sub-less.result
    (ap (λ r. told r h) c.in_ok-enter_reaching.was) c.with.ensures.value
    (omega (arith, c.saturating_sub-less.ensures, c.from.ensures)) c.enter_reaching-2.ensures
