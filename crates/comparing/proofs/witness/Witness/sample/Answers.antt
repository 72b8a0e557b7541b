use Rattle.std.proofs.Common.{◌∙◌}
use Rattle.std.proofs.lemmas.Bool.{both_ways}
use Rattle.forms.specs.Terms.{True}
use Rattle.forms.specs.Parts.{terms_of}
use Rattle.values.specs.Value.{Ordered}
use Rattle.values.proofs.Orders.{ordered}
use Rattle.comparing.proofs.Frames.{middle_high, middle_low}
use Rattle.comparing.proofs.witness.Witness.sample.Goals as goal

pub returns-then-is_true_on : goal.returns-then-is_true_on
returns-then-is_true_on g c =
    let o : Ordered g.K.Order.most = ordered g.K.Order.most g.met.K.Order.reflexive g.met.K.Order.total g.met.K.Order.antisymmetric g.met.K.Order.transitive in
    let t = c.is_true_on.ensures.terms.0 c.if-is_true_on.true in
    let e = c.ends-low.ensures.high in
    record {
      exact = e ∙ middle_high g.K.Order.most c.args.self.now o c.args.form.now t;
      truth = (λ _. e, λ n. absurd (n t));
    }

pub returns-else-is_true_on : goal.returns-else-is_true_on
returns-else-is_true_on g c =
    let o : Ordered g.K.Order.most = ordered g.K.Order.most g.met.K.Order.reflexive g.met.K.Order.total g.met.K.Order.antisymmetric g.met.K.Order.transitive in
    let n : True (terms_of c.args.form.now) c.args.self.now.marks → ⊥ =
    λ t. both_ways c.is_true_on.result c.if-is_true_on.false (c.is_true_on.ensures.terms.1 t) in
    let e = c.ends-low.ensures.low in
    record {
      exact = e ∙ middle_low g.K.Order.most c.args.self.now o c.args.form.now n;
      truth = (λ t. absurd (n t), λ _. e);
    }
