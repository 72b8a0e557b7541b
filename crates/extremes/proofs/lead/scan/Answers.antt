use Rattle.std.proofs.Common.{◌≡◌, ℕ, length, ◌∙◌, subst, arith, rules}
use Rattle.extremes.specs.Leads.{Scans}
use Rattle.extremes.specs.First.{turned}
use Rattle.extremes.proofs.Steps.{leads_turn}
use Rattle.extremes.proofs.lead.scan.Goals as goal

pub loop-column-preserved : goal.loop-column-preserved
loop-column-preserved g c =
    let most = g.E.Order.most in
    let l = g.met.E.Order in
    let k = c.loop-column.column in
    let x = c.index-row-column.result in (
      (λ element h w.
          leads_turn most l.total l.transitive element c.args.start k c.loop-column.low x c.leading-low.result (c.index-row-column.is ∙ h k x c.loop-column-test.true)
          (c.leading-low.ensures most (λ a b r e. search rules)) (c.loop-column.invariant.0 element h w)),
      (λ element h w.
          leads_turn (turned most) (λ a b. l.total b a) (λ a b d p q. l.transitive d b a q p) element c.args.start k c.loop-column.high x c.leading-high.result (c.index-row-column.is ∙ h k x c.loop-column-test.true)
          (c.leading-high.ensures (turned most) (λ a b r e. search rules)) (c.loop-column.invariant.1 element h w)),
    )

pub returns : goal.returns
returns g c =
    let most = g.E.Order.most in
    let all : c.loop-column.column ≡ length c.args.row.now = omega arith in
    record {
      low = subst (λ (m : ℕ). Scans most c.args.row.now c.args.start m c.args.so_far.low c.loop-column.low) all c.loop-column.invariant.0;
      high = subst (λ (m : ℕ). Scans (turned most) c.args.row.now c.args.start m c.args.so_far.high c.loop-column.high) all c.loop-column.invariant.1;
    }
