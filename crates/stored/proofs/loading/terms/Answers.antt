use Rattle.std.proofs.Common.{◌≡◌, ℕ, ◌+◌, ◌<◌, ◌++◌, ◌∷◌, [], false, List, length, get_or, ap, ◌∙◌, add-one, arith, rules}
use Rattle.tables.specs.Table.{items_of}
use Rattle.forms.specs.Terms.{most_terms}
use Rattle.stored.specs.Layout.{term_in, terms_in, ascends, count_bits}
use Rattle.stored.proofs.Undoing.{terms_length, terms_at}
use Rattle.stored.proofs.Reading.{empty_falls, pushed}
use Rattle.stored.proofs.loading.terms.Goals as goal

-- terms of which one is empty
empty_at : (bytes : List ℕ) (n i : ℕ) → i < n → term_in count_bits bytes i ≡ 0 → ascends 0 (terms_in count_bits bytes n) ≡ false
empty_at bytes n i l z = empty_falls (terms_in count_bits bytes n) i (omega (arith, terms_length count_bits bytes n)) (terms_at count_bits bytes n i l ∙ z)

pub returns-in_err-term-clause-none : goal.returns-in_err-term-clause-none
returns-in_err-term-clause-none c = let e = empty_at c.args.bytes.now c.args.count 0 c.requires.some c.in_err-term.ensures in search rules

pub returns-in_err-term-2-clause-none : goal.returns-in_err-term-2-clause-none
returns-in_err-term-2-clause-none c = let e = empty_at c.args.bytes.now c.args.count c.loop-index.index c.loop-index-test.true c.in_err-term-2.ensures in search rules

pub loop-index-preserved : goal.loop-index-preserved
loop-index-preserved c =
    let bytes : List ℕ = c.args.bytes.now in
    let i : ℕ = c.loop-index.index in
    let l : length (items_of c.loop-index.terms) < most_terms = omega (arith, ap length c.loop-index.invariant, terms_length count_bits bytes i) in
    let p = pushed c.push.result (length (items_of c.loop-index.terms)) c.push.ensures.ok c.push.ensures.full l in
    let e : terms_in count_bits bytes (i + 1) ≡ terms_in count_bits bytes i ++ term_in count_bits bytes i ∷ [] = rw add-one in
    cc (c.in_ok-term-2.ensures.0)

pub returns-clause-first : goal.returns-clause-first
returns-clause-first c =
    omega (arith, ap (λ (ts : List ℕ). get_or ts 0 0) c.loop-index.invariant, terms_at count_bits c.args.bytes.now c.loop-index.index 0 (omega arith), c.in_ok-term.ensures)
