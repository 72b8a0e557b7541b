use Rattle.std.proofs.Common.{◌≡◌, true, List, Result, sym, ap, ◌∙◌, subst, ℕ}
use Rattle.forms.specs.declared.form.Form.{Form}
use Rattle.forms.specs.declared.faults.Fault.{Fault}
use Rattle.forms.specs.Sets.{cells, every, movable}
use Rattle.forms.specs.Terms.{In, used}
use Rattle.forms.specs.Entering.{made}
use Rattle.forms.specs.Faults.{fault_number}
use Rattle.forms.specs.Parts.{terms_of, outcome}
use Rattle.forms.proofs.Whole.{parted}
use Rattle.joins.specs.Joins.{any_at, stays_all, compose}
use Rattle.joins.specs.Outcomes.{Ensured, After, Outside}
use Rattle.joins.proofs.Passing.{compose_out, compose_in, stays_cells}
use Rattle.joins.proofs.Composed.{compose_ensured, compose_window, stays_leaves}
use Rattle.joins.proofs.composition.compose.Goals as goal

-- the three promises, from the outcome of the joins
record Promised (o : Result Form Fault) (e f : Form) : Type 0 where
  exact : outcome o ≡ compose (terms_of e) (terms_of f)
  truth : Ensured o (After (terms_of e) (terms_of f))
  window : Outside o (terms_of e) (terms_of f)

promised : (o : Result Form Fault) (e f : Form) → true ≡ stays_all (terms_of e) (terms_of f) → outcome o ≡ any_at (terms_of f) (terms_of e) → Promised o e f
promised o e f s q =
    let x : outcome o ≡ compose (terms_of e) (terms_of f) = q ∙ compose_in (terms_of e) (terms_of f) (sym s) in
    record { exact = x; truth = compose_ensured o e f x; window = compose_window o (terms_of e) (terms_of f) (sym s) q }

pub returns-then-not-stays : goal.returns-then-not-stays
returns-then-not-stays c =
    let e = c.args.e.now in
    let f = c.args.f.now in
    let s = c.if-not-stays.ensures in
    let x = compose_out (terms_of e) (terms_of f) (sym s) in
    record { exact = x; truth = tt; window = stays_leaves (terms_of e) (terms_of f) (sym s) }

pub at_terms-requires : goal.at_terms-requires
at_terms-requires c =
    let e : List ℕ = terms_of c.args.e.now in
    let w = parted c.terms.result.now e c.first-item.result c.terms.ensures.value c.terms.ensures.some c.first-item.is in
    λ t m. stays_cells e (terms_of c.args.f.now) (sym c.if-not-stays.ensures) t (subst (λ (ts : List ℕ). In t ts) w m)

pub returns : goal.returns
returns c =
    let e : List ℕ = terms_of c.args.e.now in
    let f : List ℕ = terms_of c.args.f.now in
    let w = parted c.terms.result.now e c.first-item.result c.terms.ensures.value c.terms.ensures.some c.first-item.is in
    let r = promised c.at_terms.result c.args.e.now c.args.f.now c.if-not-stays.ensures (c.at_terms.ensures ∙ ap (any_at f) w) in
    record { exact = r.exact; truth = r.truth; window = r.window }
