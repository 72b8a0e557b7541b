use Rattle.std.proofs.Common.{◌≡◌, ℕ, ◌+◌, ◌<◌, Bool, ◌||◌, List, ◌∷◌, length, get_or, drop, sym, ap, ◌∙◌}
use Rattle.std.proofs.lemmas.List.{drop_more, drop_all}
use Rattle.forms.specs.Sets.{sub}
use Rattle.forms.specs.Entering.{covers}
use Rattle.forms.proofs.Listed.{decided}
use Rattle.forms.proofs.form.Form.covers.Goals as goal

-- the terms from a place on, when the term there is inside the set or is not
asked : (xs : List ℕ) (i u s : ℕ) (b : Bool) → i < length xs → u ≡ get_or xs i u → b ≡ sub u s → covers (drop i xs) s ≡ (b || covers (drop (i + 1) xs) s)
asked xs i u s b l e t =
    ap (λ (y : List ℕ). covers y s) (drop_more xs i u l ∙ ap (λ (v : ℕ). v ∷ drop (i + 1) xs) (sym e))
    ∙ ap (λ (v : Bool). v || covers (drop (i + 1) xs) s) (sym t)

pub returns-then-within : goal.returns-then-within
returns-then-within c =
    let xs : List ℕ = c.terms-term-items.result.now in
    let i : ℕ = c.loop-term.term-index in
    let s : ℕ = c.args.set in
    let test = decided c.within.result _ _ c.within.ensures.value in
    sym (
    ap (λ (y : List ℕ). covers y s) (sym c.terms-term-items.ensures.value) ∙ c.loop-term.invariant
    ∙ asked xs i c.term-item.result s c.within.result c.loop-term-test.true c.term-item.is test
    ∙ ap (λ (v : Bool). v || covers (drop (i + 1) xs) s) c.if-within.true
    )

pub loop-term-preserved : goal.loop-term-preserved
loop-term-preserved c =
    let xs : List ℕ = c.terms-term-items.result.now in
    let i : ℕ = c.loop-term.term-index in
    let s : ℕ = c.args.set in
    let test = decided c.within.result _ _ c.within.ensures.value in
    c.loop-term.invariant
    ∙ asked xs i c.term-item.result s c.within.result c.loop-term-test.true c.term-item.is test
    ∙ ap (λ (v : Bool). v || covers (drop (i + 1) xs) s) c.if-within.false

pub returns : goal.returns
returns c =
    let xs : List ℕ = c.terms-term-items.result.now in
    let s : ℕ = c.args.set in
    sym (
    ap (λ (y : List ℕ). covers y s) (sym c.terms-term-items.ensures.value) ∙ c.loop-term.invariant
    ∙ ap (λ (y : List ℕ). covers y s) (drop_all c.loop-term.term-index xs c.loop-term-test.false)
    )
