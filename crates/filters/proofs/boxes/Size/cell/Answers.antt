use Rattle.std.proofs.Common.{◌≡◌, ℕ, ◌*◌, ◌<◌, ◌≤◌, Some, None, Option, MatchOption, slice_get, sym, ap, ◌∙◌, arith}
use Rattle.std.proofs.lemmas.Option.{slice_get-get_or, slice_get_past}
use Rattle.filters.specs.Boxes.{Sides, box}
use Rattle.filters.proofs.Spans.{box_number, cell_number, number_below, box_at}
use Rattle.filters.proofs.Truths.{box_length}
use Rattle.filters.proofs.boxes.Size.cell.Goals as goal

pub returns-then-index-count : goal.returns-then-index-count
returns-then-index-count c = sym (slice_get_past (box c.args.self.height c.args.self.width) c.args.index (omega (arith, box_length c.args.self.height c.args.self.width)))

boxed : (h w : ℕ) → Sides h w → (i : ℕ) → i < h * w → (o : Option ℕ) → MatchOption o (63 ≤ box_number h w i) (λ k. k ≡ box_number h w i)
    → o ≡ slice_get (box h w) i
boxed h w s i l (Some k) e =
    ap Some (e ∙ sym (cell_number h w s i) ∙ sym (box_at h w i l)) ∙ sym (slice_get-get_or (box h w) i 0 (omega (arith, box_length h w)))
boxed h w s i l None e = absurd (omega (arith, number_below h w s i l))

pub returns : goal.returns
returns c = boxed c.args.self.height c.args.self.width c.args.self.sides c.args.index (omega arith) c.numbered.result c.numbered.ensures
