use Rattle.std.proofs.Common.{◌≡◌}
use Rattle.std.proofs.lemmas.Result.{err_from_is_err_and}
use Rattle.forms.specs.Parts.{terms_of}
use Rattle.values.specs.Value.{Ordered}
use Rattle.values.proofs.Orders.{ordered}
use Rattle.samples.proofs.Openings.{openings, closings}
use Rattle.comparing.specs.declared.comparison.Side.TheVariants.{Left, Right}
use Rattle.comparing.proofs.Verdicts.{compared, one_fault}
use Rattle.comparing.proofs.comparing.compare.Goals as goal

pub returns : goal.returns
returns g c =
    let o : Ordered g.K.Order.most = ordered g.K.Order.most g.met.K.Order.reflexive g.met.K.Order.total g.met.K.Order.antisymmetric g.met.K.Order.transitive in
    record {
      outcome = compared g.K.Order.most o c.args.left.now c.args.right.now c.in_ok-f.f c.in_ok-g.g c.args.low c.args.high
          c.in_ok-f.ensures c.in_ok-g.ensures c.witness.result c.witness.ensures;
      openings = openings g.K.Order.most o;
      closings = closings g.K.Order.most o;
    }

pub returns-in_err-f : goal.returns-in_err-f
returns-in_err-f g c =
    let o : Ordered g.K.Order.most = ordered g.K.Order.most g.met.K.Order.reflexive g.met.K.Order.total g.met.K.Order.antisymmetric g.met.K.Order.transitive in
    let p = err_from_is_err_and {Q = λ e. e ≡ c.in_err-f.field-0.0} c.from_residual.result c.from_residual.ensures.1 in
    let q = c.in_err-f.ensures in
    record {
      outcome = one_fault g.K.Order.most c.args.left.now c.args.right.now c.args.low c.args.high c.from_residual.result
          p.0 c.in_err-f.field-0.0 p.1 p.2 Left q.0 q.1;
      openings = openings g.K.Order.most o;
      closings = closings g.K.Order.most o;
    }

pub returns-in_err-g : goal.returns-in_err-g
returns-in_err-g g c =
    let o : Ordered g.K.Order.most = ordered g.K.Order.most g.met.K.Order.reflexive g.met.K.Order.total g.met.K.Order.antisymmetric g.met.K.Order.transitive in
    let p = err_from_is_err_and {Q = λ e. e ≡ c.in_err-g.field-0.0} c.from_residual-in_err-g.result c.from_residual-in_err-g.ensures.1 in
    let q = c.in_err-g.ensures in
    record {
      outcome = one_fault g.K.Order.most c.args.left.now c.args.right.now c.args.low c.args.high c.from_residual-in_err-g.result
          p.0 c.in_err-g.field-0.0 p.1 p.2 Right q.0 ((terms_of c.in_ok-f.f, c.in_ok-f.ensures), q.1);
      openings = openings g.K.Order.most o;
      closings = closings g.K.Order.most o;
    }
