use Rattle.std.proofs.Common.{◌≡◌, ℕ, length, pos, ◌+ℤ◌, refl, ap, ◌∙◌, arith, w32, to_z, of_z}
use Rattle.std.proofs.lemmas.Int.{ints, to_z-of_z}
use Rattle.std.proofs.lemmas.Bool.{both_ways}
use Rattle.sources.specs.Meaning.{Ranges}
use Rattle.sources.proofs.Rows.{tells, fits_at, few, at, holds_more, holds_all}
use Rattle.sources.proofs.Source.read_row.Goals as goal

pub returns-then-not-holds_row-clause-shown : goal.returns-then-not-holds_row-clause-shown
returns-then-not-holds_row-clause-shown g c =
    let m = g.Self.Source.meaning c.args.self.now in
    let d = tells m c.args.row c.args.first _ c.ranges.row c.ranges.first c.holds_row.result c.extent.ensures.height c.extent.ensures.width c.extent.ensures.margin c.holds_row.ensures in
    λ h. absurd (both_ways c.holds_row.result c.if-not-holds_row.true (d.1 h))

pub returns-then-not-holds_row-clause-filled : goal.returns-then-not-holds_row-clause-filled
returns-then-not-holds_row-clause-filled g c =
    let m = g.Self.Source.meaning c.args.self.now in
    let d = tells m c.args.row c.args.first _ c.ranges.row c.ranges.first c.holds_row.result c.extent.ensures.height c.extent.ensures.width c.extent.ensures.margin c.holds_row.ensures in
    λ h. absurd (both_ways c.holds_row.result c.if-not-holds_row.true (d.1 h))

pub overflow_cast-i : goal.overflow_cast-i
overflow_cast-i g c =
    let m = g.Self.Source.meaning c.args.self.now in
    let q : Ranges m = g.met.Self.Source.ranges c.args.self.now in
    let d = tells m c.args.row c.args.first _ c.ranges.row c.ranges.first c.holds_row.result c.extent.ensures.height c.extent.ensures.width c.extent.ensures.margin c.holds_row.ensures in
    omega (arith, ints, few m c.args.row c.args.first _ q c.ranges.first (d.0 c.if-not-holds_row.false) c.loop-i.i (omega arith))

pub overflow_add-first : goal.overflow_add-first
overflow_add-first g c =
    let m = g.Self.Source.meaning c.args.self.now in
    let q : Ranges m = g.met.Self.Source.ranges c.args.self.now in
    let d = tells m c.args.row c.args.first _ c.ranges.row c.ranges.first c.holds_row.result c.extent.ensures.height c.extent.ensures.width c.extent.ensures.margin c.holds_row.ensures in
    let h = d.0 c.if-not-holds_row.false in
    let near = few m c.args.row c.args.first _ q c.ranges.first h c.loop-i.i (omega arith) in
    omega (arith, ints, fits_at m c.args.row c.args.first _ q h c.loop-i.i (omega arith))

pub returns-in_err-slot : goal.returns-in_err-slot
returns-in_err-slot g c =
    let m = g.Self.Source.meaning c.args.self.now in
    let q : Ranges m = g.met.Self.Source.ranges c.args.self.now in
    let d = tells m c.args.row c.args.first _ c.ranges.row c.ranges.first c.holds_row.result c.extent.ensures.height c.extent.ensures.width c.extent.ensures.margin c.holds_row.ensures in
    let h = d.0 c.if-not-holds_row.false in
    let near = few m c.args.row c.args.first _ q c.ranges.first h c.loop-i.i (omega arith) in
    let fits = fits_at m c.args.row c.args.first _ q h c.loop-i.i (omega arith) in
    let shown = c.read.ensures.shown (at m c.args.row c.args.first _ h c.loop-i.i (omega arith) _ _ (to_z-of_z w32 c.args.row c.ranges.row) (omega (arith, ints))) in
    let w = c.in_err-slot.was in
    let z : ◌≡◌ {A = ℕ} 0 1 = cc in absurd (omega arith)

pub loop-i-preserved : goal.loop-i-preserved
loop-i-preserved g c =
    let m = g.Self.Source.meaning c.args.self.now in
    let q : Ranges m = g.met.Self.Source.ranges c.args.self.now in
    let d = tells m c.args.row c.args.first _ c.ranges.row c.ranges.first c.holds_row.result c.extent.ensures.height c.extent.ensures.width c.extent.ensures.margin c.holds_row.ensures in
    let h = d.0 c.if-not-holds_row.false in
    let near = few m c.args.row c.args.first _ q c.ranges.first h c.loop-i.i (omega arith) in
    let f1 = c.ranges.row in
    let f2 = c.ranges.first in
    let f3 = fits_at m c.args.row c.args.first _ q h c.loop-i.i (omega arith) in
    let place = to_z w32 (of_z w32 (to_z w32 (of_z w32 c.args.first) +ℤ to_z w32 c.loop-i.i)) in
    let e : place ≡ c.args.first +ℤ pos c.loop-i.i = omega (arith, ints) in
    let t = c.read.ensures.shown (at m c.args.row c.args.first _ h c.loop-i.i (omega arith) _ _ (to_z-of_z w32 c.args.row f1) e) in
    let w = c.in_ok-slot.was in
    let s : c.in_ok-slot.field-0 ≡ m.element (to_z w32 (of_z w32 c.args.row)) place = cc in
    let o : place ≡ to_z w32 (of_z w32 c.args.first) +ℤ pos c.loop-i.i = omega (arith, ints) in
    holds_more m (to_z w32 (of_z w32 c.args.row)) (to_z w32 (of_z w32 c.args.first)) 0 c.loop-i.out c.loop-i.i _ (omega (arith, c.loop-i.auto.out)) (s ∙ ap (m.element (to_z w32 (of_z w32 c.args.row))) o) c.loop-i.invariant

pub returns : goal.returns
returns g c =
    let m = g.Self.Source.meaning c.args.self.now in
    let q : Ranges m = g.met.Self.Source.ranges c.args.self.now in
    let d = tells m c.args.row c.args.first _ c.ranges.row c.ranges.first c.holds_row.result c.extent.ensures.height c.extent.ensures.width c.extent.ensures.margin c.holds_row.ensures in
    let h = d.0 c.if-not-holds_row.false in
    record {
      shown = λ _. refl;
      filled = λ _. holds_all m c.args.row c.args.first (length c.args.out.now) _ _ c.loop-i.i c.loop-i.out (to_z-of_z w32 c.args.row c.ranges.row) (to_z-of_z w32 c.args.first c.ranges.first) c.loop-i-test.false c.loop-i.invariant;
      refused = λ n. absurd (n (λ k l. h k (omega arith)));
    }
