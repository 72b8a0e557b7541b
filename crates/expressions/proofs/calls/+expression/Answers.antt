use Rattle.std.proofs.Common.{ℕ, ◌<◌, ◌≤◌, List, length, sym, ap, ◌∙◌, ap₂, arith, rules}
use Rattle.std.proofs.lemmas.Result.{err_from_is_err_and}
use Rattle.letters.specs.declared.tokens.Sign.TheVariants.{Comma}
use Rattle.grammar.specs.Expr.{after}
use Rattle.grammar.specs.Reading.{Out, bind, Toks, read, expr_of}
use Rattle.grammar.proofs.LeafFronts.{sign_fewer}
use Rattle.grammar.proofs.Spelling.{expr_fewer}
use Rattle.joins.specs.Joins.{compose}
use Rattle.expressions.specs.Working.{placed, form_of}
use Rattle.expressions.specs.Outcomes.{held}
use Rattle.expressions.proofs.ArgumentSteps.{more, finished, stopped, failed, joined_bad, joined_ok}
use Rattle.expressions.proofs.calls.+expression.Goals as goal
use Rattle.expressions.proofs.calls.+expression.Goals.{joined-In_ok-made, joined-In_ok-next}

pub composed-returns : goal.composed-returns
unfolding form_of
composed-returns t c =
    let (e, p, q) = c.in_ok-outer.ensures in
    let (f, r, s) = c.in_ok-inner.ensures in
    (after c.args.place e f, search rules, c.compose_at.ensures ∙ ap₂ (λ (v w : Out (List ℕ)). bind v (λ g. bind w (λ h. placed c.args.place (compose g h)))) q s)

-- the tokens behind the first argument are no more than those behind the bracket
few : (t : ℕ) (c : joined-In_ok-made t) → length c.expr.new.reader ≤ length c.sign.new.self
few t c =
    let (e, p, q) = c.in_ok-made.ensures in
    omega (arith, expr_fewer c.args.depth c.sign.new.self e c.expr.new.reader p)

-- a turn leaves fewer tokens
fewer : (t : ℕ) (c : joined-In_ok-next t) → length c.expr-in-loop-reader.new.reader < length c.loop-reader.reader
fewer t c =
    let (e, p, q) = c.in_ok-next.ensures in
    omega (arith, expr_fewer c.args.depth c.sign-in-loop-reader.new.self e c.expr-in-loop-reader.new.reader p, sign_fewer Comma c.loop-reader.reader c.sign-in-loop-reader.new.self c.in_ok-sign-2.ensures.passes)

pub joined-returns-in_err-sign-2 : goal.joined-returns-in_err-sign-2
joined-returns-in_err-sign-2 t c =
    let (e, p, q) = c.in_ok-made.ensures in
    let r = err_from_is_err_and c.from_residual-in_err-sign-2.result c.from_residual-in_err-sign-2.ensures.1 in
    rw (r.1, r.2) (joined_bad (expr_of c.args.depth) c.args.joint c.args.place e (held c.in_ok-made.made) c.args.reader.now c.sign.new.self c.expr.new.reader c.in_ok-sign.ensures.passes p q _ _ _
    (stopped (expr_of c.args.depth) c.args.joint c.args.place c.expr.new.reader (held c.in_ok-made.made) c.loop-reader.reader (held c.loop-reader.made) c.loop-reader.invariant _ _ _ (length c.sign.new.self) (few t (goal.at.joined-returns-in_err-sign-2 t c).In_ok-made) c.in_err-sign-2.ensures.passes))

pub joined-returns-in_err-next : goal.joined-returns-in_err-next
joined-returns-in_err-next t c =
    let (e, p, q) = c.in_ok-made.ensures in
    let r = err_from_is_err_and c.from_residual-in_err-next.result c.from_residual-in_err-next.ensures.1 in
    rw (r.1, r.2) (joined_bad (expr_of c.args.depth) c.args.joint c.args.place e (held c.in_ok-made.made) c.args.reader.now c.sign.new.self c.expr.new.reader c.in_ok-sign.ensures.passes p q _ _ _
    (failed (expr_of c.args.depth) c.args.joint c.args.place c.expr.new.reader (held c.in_ok-made.made) c.loop-reader.reader (held c.loop-reader.made) c.loop-reader.invariant _ _ _ (length c.sign.new.self) (few t (goal.at.joined-returns-in_err-next t c).In_ok-made) c.sign-in-loop-reader.new.self c.in_ok-sign-2.ensures.passes c.in_err-next.ensures))

pub joined-returns-then-closing_bracket : goal.joined-returns-then-closing_bracket
joined-returns-then-closing_bracket t c =
    let (e, p, q) = c.in_ok-made.ensures in
    let (f, r, s) = c.in_ok-next.ensures in
    let h = c.if-closing_bracket.ensures in
    joined_ok (expr_of c.args.depth) c.args.joint c.args.place e (held c.in_ok-made.made) c.args.reader.now c.sign.new.self c.expr.new.reader c.in_ok-sign.ensures.passes p q (held c.join-made.result) c.closing_bracket.new.self
    (finished (expr_of c.args.depth) c.args.joint c.args.place c.expr.new.reader (held c.in_ok-made.made) c.loop-reader.reader (held c.loop-reader.made) c.loop-reader.invariant c.sign-in-loop-reader.new.self c.expr-in-loop-reader.new.reader f (held c.in_ok-next.next) (held c.join-made.result) c.in_ok-sign-2.ensures.passes r h.0 s c.join-made.ensures (length c.sign.new.self) (few t (goal.at.joined-returns-then-closing_bracket t c).In_ok-made)
    ∙ ap (λ (us : Toks). read (held c.join-made.result) us) (sym h.1))

pub joined-loop-reader-smaller : goal.joined-loop-reader-smaller
joined-loop-reader-smaller t c = rw (c.if-closing_bracket.ensures.1) (fewer t (goal.at.joined-loop-reader-smaller t c).In_ok-next)

pub joined-loop-reader-preserved : goal.joined-loop-reader-preserved
joined-loop-reader-preserved t c =
    let (f, r, s) = c.in_ok-next.ensures in
    let h = c.if-closing_bracket.ensures in
    rw (h.1) (more (expr_of c.args.depth) c.args.joint c.args.place c.expr.new.reader (held c.in_ok-made.made) c.loop-reader.reader (held c.loop-reader.made) c.loop-reader.invariant c.sign-in-loop-reader.new.self c.expr-in-loop-reader.new.reader f (held c.in_ok-next.next) (held c.join-made.result) c.in_ok-sign-2.ensures.passes r (fewer t (goal.at.joined-loop-reader-preserved t c).In_ok-next) h.0 s c.join-made.ensures)
