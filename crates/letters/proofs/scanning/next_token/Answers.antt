use Rattle.std.proofs.Common.{◌≡◌, ℕ, ◌-◌, List, length, take, drop, Option, ◌∙◌, ap, subst, rules, tests}
use Rattle.std.specs.List.{prefix_len}
use Rattle.std.specs.Result.{result_ok}
use Rattle.std.specs.Slice.Iter.{iter_rest}
use Rattle.std.proofs.lemmas.Iterator.{YieldsList-from_slice}
use Rattle.std.proofs.lemmas.Iterator.Consumers.{count_from_yields_List}
use Rattle.std.proofs.lemmas.Iterator.Search.{YieldsList-from_take_while}
use Rattle.std.proofs.lemmas.List.Folds.{length-prefix_len}
use Rattle.letters.specs.Bytes.{blank}
use Rattle.letters.specs.declared.tokens.Token.{Token}
use Rattle.letters.specs.Scanning.{Cuts, cut_of}
use Rattle.letters.proofs.Onward.{to_end, cut_found, cut_declined, cut_fits}
use Rattle.letters.proofs.scanning.next_token.Goals as goal
use Rattle.letters.proofs.scanning.next_token.Goals.{After-count-blanks}

-- the bytes from the place on
abbrev rest : After-count-blanks → List ℕ
rest c = take (length c.args.text.now - c.min.result) (drop c.min.result c.args.text.now)

blanks_are : (c : After-count-blanks) → c.count-blanks.result ≡ prefix_len blank (rest c)
blanks_are c =
    count_from_yields_List c.take_while.result _ c.count-blanks.ensures.ran (YieldsList-from_take_while _ blank (YieldsList-from_slice (rest c) (ap iter_rest c.take_while.ensures.source ∙ c.iter.ensures.rest)) c.take_while.ensures.closure c.take_while.ensures.done (λ x b q k. search (rules, tests)))
    ∙ length-prefix_len blank (rest c)

pub returns-in_err-token-clause-next : goal.returns-in_err-token-clause-next
returns-in_err-token-clause-next c =
    let d = (goal.at.returns-in_err-token-clause-next c).After-count-blanks in
    let e = subst (λ (o : Option (Token × ℕ)). Cuts o (cut_of (take (length (rest d) - c.count-blanks.result) (drop c.count-blanks.result (rest d))))) (c.ok_or.ensures.ok_part ∙ ap result_ok c.in_err-token.was) c.cut.ensures in
    let n = cut_declined c.args.text.now c.args.at c.min.result c.count-blanks.result c.min.ensures _ _ (to_end c.min.result c.args.text.now) (to_end c.count-blanks.result (rest d)) (blanks_are d) e in
    search rules

pub overflow_add-result : goal.overflow_add-result
overflow_add-result c =
    let d = (goal.at.overflow_add-result c).After-count-blanks in
    let e = subst (λ (o : Option (Token × ℕ)). Cuts o (cut_of (take (length (rest d) - c.count-blanks.result) (drop c.count-blanks.result (rest d))))) (c.ok_or.ensures.ok_part ∙ ap result_ok c.in_ok-token.was) c.cut.ensures in
    let w = cut_fits c.args.text.now c.args.at c.min.result c.count-blanks.result c.min.ensures _ _ (to_end c.min.result c.args.text.now) (to_end c.count-blanks.result (rest d)) (blanks_are d) c.in_ok-token.token c.in_ok-token.size e in
    search rules

pub returns-clause-next : goal.returns-clause-next
returns-clause-next c =
    let d = (goal.at.returns-clause-next c).After-count-blanks in
    let e = subst (λ (o : Option (Token × ℕ)). Cuts o (cut_of (take (length (rest d) - c.count-blanks.result) (drop c.count-blanks.result (rest d))))) (c.ok_or.ensures.ok_part ∙ ap result_ok c.in_ok-token.was) c.cut.ensures in
    cut_found c.args.text.now c.args.at c.min.result c.count-blanks.result c.min.ensures _ _ (to_end c.min.result c.args.text.now) (to_end c.count-blanks.result (rest d)) (blanks_are d) c.in_ok-token.token c.in_ok-token.size e
