use Rattle.std.proofs.Common.{◌≡◌, ℕ, List, ◌++◌, drop, ap, arith, length-take}
use Rattle.forms.specs.Parts.{terms_of}
use Rattle.stored.specs.Layout.{stored_bit, count_bits, version}
use Rattle.stored.specs.Outcomes.{bytes_of}
use Rattle.stored.proofs.Undoing.{loaded_stored}
use Rattle.stored.proofs.Answering.{byte_more, bytes_all, saved_back, told_by_bytes}
use Rattle.stored.proofs.saving.save.Goals as goal

pub returns-then-out-size-clause-widths : goal.returns-then-out-size-clause-widths
returns-then-out-size-clause-widths c = λ w v l f a b t x y. loaded_stored w v f l a b t x y

pub returns-then-out-size-clause-told : goal.returns-then-out-size-clause-told
returns-then-out-size-clause-told c = told_by_bytes c.args.form.now

pub loop-index-preserved : goal.loop-index-preserved
loop-index-preserved c =
    byte_more (stored_bit count_bits version (terms_of c.args.form.now)) _ c.loop-index.front c.loop-index.index c.spelled.result
    c.loop-index.invariant c.loop-index-test.true c.spelled.ensures.value

pub returns : goal.returns
returns c =
    let f : List ℕ = terms_of c.args.form.now in
    let n : ℕ = c.stored_len-size.result in
    let e : c.loop-index.front ≡ bytes_of f =
    bytes_all f _ c.loop-index.front c.loop-index.index n c.loop-index.invariant c.stored_len-size.ensures.value (omega (arith, length-take n c.args.out.now)) (omega (arith, length-take n c.args.out.now)) in
    let a : c.loop-index.front ++ drop n c.args.out.now ≡ bytes_of f ++ drop n c.args.out.now = ap (λ (y : List ℕ). y ++ drop n c.args.out.now) e in
    record {
      exact = (c.stored_len-size.ensures.value, c.if-out-size.false, a);
      back = saved_back c.args.form.now (drop n c.args.out.now) (c.loop-index.front ++ drop n c.args.out.now) n c.stored_len-size.ensures.value a;
      widths = λ w v l f a b t x y. loaded_stored w v f l a b t x y;
      told = told_by_bytes c.args.form.now;
    }
