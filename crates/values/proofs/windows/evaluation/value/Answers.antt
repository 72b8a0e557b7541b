use Rattle.std.proofs.Common.{◌≡◌, ℕ, ◌+◌, ◌-◌, List, length, take, drop, fold, sym, ap, ◌∙◌, subst}
use Rattle.std.proofs.lemmas.List.{drop_more, drop_all}
use Rattle.forms.specs.Terms.{Terms}
use Rattle.forms.specs.Parts.{terms_of}
use Rattle.forms.proofs.Whole.{parted}
use Rattle.values.specs.Value.{Ordered, value}
use Rattle.values.specs.Windows.{element_at}
use Rattle.values.specs.Laws.{Whole}
use Rattle.values.proofs.Orders.{ordered}
use Rattle.values.proofs.Levels.{value_to, value_from}
use Rattle.values.proofs.Highs.{higher, whole_value}
use Rattle.values.proofs.Wholes.{whole_form}
use Rattle.values.proofs.JoinedValues.{max_value, min_value, compose_value}
use Rattle.values.proofs.windows.evaluation.value.Goals as goal

pub loop-term-preserved : goal.loop-term-preserved
loop-term-preserved g c = λ d.
    let F = higher g.E.Order.most (element_at c.args.window.now d) in
    let xs : List ℕ = take (length c.terms.result.now - 1) (drop 1 c.terms.result.now) in
    let i : ℕ = c.loop-term.term-index in
    ap (λ (h : _). fold F h (drop (i + 1) xs)) (c.raised-high.ensures d ∙ ap (F c.loop-term.high) c.term-item.is)
    ∙ ap (λ (ts : List ℕ). fold F c.loop-term.high ts) (sym (drop_more xs i c.term-item.result c.loop-term-test.true)) ∙ c.loop-term.invariant d

pub returns : goal.returns
returns g c =
    let o : Ordered g.E.Order.most = ordered g.E.Order.most g.met.E.Order.reflexive g.met.E.Order.total g.met.E.Order.antisymmetric g.met.E.Order.transitive in
    let f : List ℕ = terms_of c.args.form.now in
    let w : Whole f = whole_form c.args.form.now in
    let v : (d : _) → c.loop-term.high ≡ value g.E.Order.most (element_at c.args.window.now d) f =
    λ d. (let x = element_at c.args.window.now d in
    let others : List ℕ = take (length c.terms.result.now - 1) (drop 1 c.terms.result.now) in
    let F = higher g.E.Order.most x in
    let e : c.loop-term.high ≡ fold F c.lowest-high.result others = ap (λ (ts : List ℕ). fold F c.loop-term.high ts) (sym (drop_all c.loop-term.term-index others c.loop-term-test.false)) ∙ c.loop-term.invariant d in
    let p = parted c.terms.result.now f c.first-item.result c.terms.ensures.value c.terms.ensures.some c.first-item.is in
    e ∙ whole_value g.E.Order.most o x c.first-item.result others c.lowest-high.result (subst Terms (sym p) w.sets) (c.lowest-high.ensures d) ∙ ap (value g.E.Order.most x) p) in
    record {
      exact = v;
      levels = λ d u. (
        (λ h. value_to g.E.Order.most o (element_at c.args.window.now d) u f w.some w.sets (sym (ap (g.E.Order.most u) (v d)) ∙ h)),
        (λ h. ap (g.E.Order.most u) (v d) ∙ value_from g.E.Order.most o (element_at c.args.window.now d) u f w.some w.sets h),
      );
      whole = w;
      maxima = λ x a b h e. max_value g.E.Order.most o x (terms_of a) (terms_of b) (terms_of h) (whole_form a) (whole_form b) e;
      minima = λ x a b h e. min_value g.E.Order.most o x (terms_of a) (terms_of b) (terms_of h) (whole_form a) (whole_form b) e;
      composition = λ x r k a b h e. compose_value g.E.Order.most o x r k (terms_of a) (terms_of b) (terms_of h) (whole_form a) (whole_form b) e;
    }
