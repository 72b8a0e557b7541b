use Rattle.std.proofs.Common.{◌≡◌, ℕ, ◌-◌, ◌*◌, ◌/◌, ◌%◌, ◌^◌, ◌<◌, ◌≤◌, true, sym, ◌∙◌, arith}
use Rattle.forms.specs.Sets.{movable, moved}
use Rattle.forms.specs.Terms.{Inside}
use Rattle.forms.proofs.Steps.{Stays}
use Rattle.forms.proofs.Moving.{slid, slid_left, slid_right, slid_small, slid_some, stays_whole, moved_slid, movable_stays}
use Rattle.forms.proofs.form.moving.slid.Goals as goal
use Rattle.forms.proofs.form.moving.slid.Goals.{then-place-lt31, else-place-lt31}

-- the bits to the left, and to the right
left : (k t : ℕ) → k < 63 → t < 2 ^ 63 → movable k t ≡ true → k < 31 → t * 2 ^ (31 - k) % 2 ^ 64 ≡ moved k t
left k t a b m l =
    let s : Inside t (λ d. Stays k d) = movable_stays k t m in
    let e : slid k t < 2 ^ 63 = slid_small k t a b (stays_whole k t a b s) in
    omega (arith, slid_left k t (omega arith), e, moved_slid k t a b s)

right : (k t : ℕ) → k < 63 → t < 2 ^ 63 → movable k t ≡ true → 31 ≤ k → t / 2 ^ (k - 31) ≡ moved k t
right k t a b m l = sym (moved_slid k t a b (movable_stays k t m) ∙ slid_right k t l)

some : (k t : ℕ) → k < 63 → 0 < t → t < 2 ^ 63 → movable k t ≡ true → (0 < moved k t) × (moved k t < 2 ^ 63)
some k t a p b m =
    let s : Inside t (λ d. Stays k d) = movable_stays k t m in
    let w = stays_whole k t a b s in
    rw (moved_slid k t a b s) (slid_some k t a b w p, slid_small k t a b w)

pub returns : goal.returns
returns c =
    let t : ℕ = c.args.term in
    let fits : t < 2 ^ 63 = rw c.term.view_is at c.term.invariant.1 in
    elim c.if-place-lt31.branch [
      | then-place-lt31 w ↦ rw (w.bits-is, c.term.view_is) (left c.args.place t c.requires.cell fits c.requires.stays w.if-place-lt31.true)
      | else-place-lt31 w ↦ rw (w.bits-is, c.term.view_is) (right c.args.place t c.requires.cell fits c.requires.stays w.if-place-lt31.false)
    ]

pub invariant_of-result : goal.invariant_of-result
invariant_of-result c =
    let t : ℕ = c.args.term in
    let k : ℕ = c.args.place in
    let fits : t < 2 ^ 63 = rw c.term.view_is at c.term.invariant.1 in
    let more : 0 < t = rw c.term.view_is at c.term.invariant.0 in
    elim c.if-place-lt31.branch [
      | then-place-lt31 w ↦ rw (w.bits-is, c.term.view_is, left k t c.requires.cell fits c.requires.stays w.if-place-lt31.true) (some k t c.requires.cell more fits c.requires.stays)
      | else-place-lt31 w ↦ rw (w.bits-is, c.term.view_is, right k t c.requires.cell fits c.requires.stays w.if-place-lt31.false) (some k t c.requires.cell more fits c.requires.stays)
    ]
