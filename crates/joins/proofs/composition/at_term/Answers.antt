use Rattle.std.proofs.Common.{◌≡◌, ℕ, Bool, true, List, ◌∷◌, sym, ap, ◌∙◌}
use Rattle.std.proofs.lemmas.Bool.{and_parts}
use Rattle.std.proofs.lemmas.Result.{err_from_is_err_and}
use Rattle.forms.specs.Faults.{fault_number}
use Rattle.forms.specs.Sets.{cells, every, movable}
use Rattle.forms.specs.Terms.{used}
use Rattle.forms.specs.Parts.{terms_of, outcome}
use Rattle.joins.specs.Joins.{min_at, all_at}
use Rattle.joins.proofs.Passing.{cell_more, cell_stop}
use Rattle.joins.proofs.composition.at_term.Goals as goal

pub unreachable-requires : goal.unreachable-requires
unreachable-requires c = c.cells-cells.ensures.some (sym c.cells-cells.ensures.value ∙ c.in_default.ensures.steps.0)

-- of a list whose every cell passes, the first does, and so do the others
first_passes : (p : ℕ → Bool) (cs ds : List ℕ) (k : ℕ) → cs ≡ k ∷ ds → every p cs ≡ true → (p k ≡ true) × (every p ds ≡ true)
first_passes p cs ds k e h = and_parts (p k) (every p ds) (ap (every p) (sym e) ∙ h)

pub moved_to-joined-requires : goal.moved_to-joined-requires
moved_to-joined-requires c =
    (first_passes (λ k. movable k (used (terms_of c.args.f.now))) _ _ c.in-Some.first (sym c.cells-cells.ensures.value ∙ c.in-Some.ensures.steps) c.requires).0

pub moved_to-requires : goal.moved_to-requires
moved_to-requires c =
    (first_passes (λ k. movable k (used (terms_of c.args.f.now))) _ _ c.in-Some-cell.cell c.in-Some-cell.ensures.steps c.loop-cell.invariant.1).0

pub loop-cell-init : goal.loop-cell-init
loop-cell-init c =
    let f : List ℕ = terms_of c.args.f.now in
    let p : ℕ → Bool = λ k. movable k (used f) in
    let s = sym c.cells-cells.ensures.value ∙ c.in-Some.ensures.steps in
    rw c.into_iter-cell-iterator.ensures.into_iter_gives (
      ap (min_at f c.next.new.self) c.moved_to-joined.ensures ∙ sym (ap (all_at f) s),
      (first_passes p _ _ c.in-Some.first s c.requires).1,
    )

pub returns-in_err-joined : goal.returns-in_err-joined
returns-in_err-joined c =
    let q = err_from_is_err_and c.from_residual.result c.from_residual.ensures.1 in
    rw (q.1, q.2)
    (cell_stop (terms_of c.args.f.now) _ c.in-Some-cell.cell c.next-in-loop-cell.new.self (terms_of c.loop-cell.joined)
    (ap (λ (cs : List ℕ). min_at (terms_of c.args.f.now) cs (terms_of c.loop-cell.joined)) (sym c.in-Some-cell.ensures.steps) ∙ c.loop-cell.invariant.0)
    (terms_of c.moved_to.result) c.moved_to.ensures (outcome c.min.result) c.min.ensures.exact (fault_number c.in_err-joined.field-0.0) (ap outcome c.in_err-joined.was))

pub loop-cell-preserved : goal.loop-cell-preserved
loop-cell-preserved c =
    let f : List ℕ = terms_of c.args.f.now in (
      cell_more f _ c.in-Some-cell.cell c.next-in-loop-cell.new.self (terms_of c.loop-cell.joined)
          (ap (λ (cs : List ℕ). min_at f cs (terms_of c.loop-cell.joined)) (sym c.in-Some-cell.ensures.steps) ∙ c.loop-cell.invariant.0)
          (terms_of c.moved_to.result) c.moved_to.ensures (outcome c.min.result) c.min.ensures.exact (terms_of c.in_ok-joined.joined) (ap outcome c.in_ok-joined.was),
      (first_passes (λ k. movable k (used f)) _ _ c.in-Some-cell.cell c.in-Some-cell.ensures.steps c.loop-cell.invariant.1).1,
    )

pub returns : goal.returns
returns c = ap (λ (cs : List ℕ). min_at (terms_of c.args.f.now) cs (terms_of c.loop-cell.joined)) (sym c.in-None.ensures.steps.0) ∙ c.loop-cell.invariant.0
