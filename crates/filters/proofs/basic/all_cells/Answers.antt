use Rattle.std.proofs.Common.{◌≡◌, ℕ, List, sym, refl, ap, ◌∙◌, inl, arith, rules}
use lib.Bits.{bit_or}
use Rattle.std.specs.Iterator.{YieldsFirstBy}
use Rattle.std.proofs.lemmas.Fn.{fold_over}
use Rattle.std.proofs.lemmas.Iterator.Consumers.{YieldsList-from_first}
use Rattle.forms.specs.Sets.{single, set_of}
use Rattle.filters.specs.Boxes.{box}
use Rattle.filters.proofs.Truths.{erosion_sets}
use Rattle.filters.proofs.Unions.{set_of_push}
use Rattle.filters.proofs.basic.all_cells.Goals as goal
use Rattle.filters.proofs.basic.all_cells.Goals.{After-new}

gathered : (c : After-new) → c.fold-set.result ≡ set_of (box c.args.size.height c.args.size.width)
gathered c =
    fold_over (YieldsFirstBy (λ x. x) (λ s. s)) (λ x. x) _ (λ ys a. a ≡ set_of ys) _
    (λ ys a x r q h k. let w : r ≡ bit_or a (single x) = search rules in (w ∙ ap (λ (s : ℕ). bit_or s (single x)) h ∙ sym (set_of_push ys x), refl))
    c.cells.result _ _ _ (YieldsList-from_first (λ x. x) (λ s. s) _ c.cells.ensures).runs c.empty.ensures c.fold-set.ensures.ran

pub unreachable-requires : goal.unreachable-requires
unreachable-requires c =
    let b : List ℕ = box c.args.size.height c.args.size.width in
    omega (arith, gathered c.before, c.in_default.ensures, (erosion_sets c.args.size.height c.args.size.width c.args.size.sides (set_of b) (inl refl)).0)

pub returns : goal.returns
returns c = c.in-Some.ensures ∙ gathered c.before
