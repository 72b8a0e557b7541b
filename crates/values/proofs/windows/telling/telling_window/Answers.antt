use Rattle.std.proofs.Common.{ℕ, List, sym, ap, subst}
use Rattle.elements.specs.Order.{lesser, greater}
use Rattle.forms.specs.Truth.{telling}
use Rattle.forms.specs.Parts.{terms_of}
use Rattle.values.specs.Value.{Ordered, value}
use Rattle.values.specs.Telling.{Marked}
use Rattle.values.proofs.Orders.{ordered}
use Rattle.stored.specs.Outcomes.{bytes_of}
use Rattle.stored.proofs.Answering.{form_same}
use Rattle.values.proofs.Wholes.{whole_form}
use Rattle.values.proofs.Tellings.{first_telling, none_telling, marked_as, apart, told_values, mark_value}
use Rattle.values.proofs.windows.telling.telling_window.Goals as goal

pub returns : goal.returns
returns g c =
    let o : Ordered g.E.Order.most = ordered g.E.Order.most g.met.E.Order.reflexive g.met.E.Order.total g.met.E.Order.antisymmetric g.met.E.Order.transitive in
    let f : List ℕ = terms_of c.args.f.now in
    let h : List ℕ = terms_of c.args.g.now in
    let s : ℕ = c.in_ok-term.term in
    let q = c.in_ok-term.ensures in
    let low = lesser g.E.Order.most c.args.a c.args.b in
    let high = greater g.E.Order.most c.args.a c.args.b in
    let m : Marked c.marked.result low high s =
    marked_as c.marked.result s c.least.result c.greatest.result low high c.least.ensures.value c.greatest.ensures.value c.marked.ensures in
    record {
      exact = subst (λ (t : ℕ). Marked c.marked.result low high t) (sym (first_telling (telling f h) s q.exact)) m;
      terms = apart f h s q.truth;
      bytes = λ e. apart f h s q.truth (form_same c.args.f.now c.args.g.now e);
      values = λ ne d. told_values g.E.Order.most o c.args.a c.args.b ne f h (whole_form c.args.f.now) (whole_form c.args.g.now) s q.truth c.marked.result d m;
      marks = mark_value g.E.Order.most o;
    }

pub returns-in_err-term : goal.returns-in_err-term
returns-in_err-term g c =
    let o : Ordered g.E.Order.most = ordered g.E.Order.most g.met.E.Order.reflexive g.met.E.Order.total g.met.E.Order.antisymmetric g.met.E.Order.transitive in
    let q = c.in_err-term.ensures in
    rw c.from_residual.ensures record {
      exact = none_telling (telling (terms_of c.args.f.now) (terms_of c.args.g.now)) q.exact;
      terms = q.truth;
      bytes = ap bytes_of q.truth;
      values = λ x. ap (value g.E.Order.most x) q.truth;
      marks = mark_value g.E.Order.most o;
    }
