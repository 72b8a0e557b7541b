use Rattle.std.proofs.Common.{◌≡◌, ℕ, take, pos, neg_ℤ, true, false, ap, ◌∙◌, ◌-ℤ◌, to_z, of_z, w16, arith, rules, tests}
use Rattle.std.specs.List.{prefix_len}
use Rattle.std.proofs.lemmas.Int.{ints}
use Rattle.std.proofs.lemmas.Iterator.{YieldsList-from_slice}
use Rattle.std.proofs.lemmas.Iterator.Consumers.{count_from_yields_List}
use Rattle.std.proofs.lemmas.Iterator.Search.{YieldsList-from_take_while}
use Rattle.std.proofs.lemmas.List.Folds.{length-prefix_len}
use Rattle.letters.specs.Bytes.{digit}
use Rattle.letters.specs.Tokens.{number}
use Rattle.letters.proofs.Digits.{signed_said, none_said}
use Rattle.letters.proofs.scanning.number_at.Goals as goal
use Rattle.letters.proofs.scanning.number_at.Goals.{After-count-size}

-- the digits are the run at the front
size_is : (c : After-count-size) → c.count-size.result ≡ prefix_len digit c.args.bytes.now
size_is c =
    count_from_yields_List c.take_while.result _ c.count-size.ensures.ran (YieldsList-from_take_while _ digit (YieldsList-from_slice c.args.bytes.now cc) c.take_while.ensures.closure c.take_while.ensures.done (λ x b q k. search (rules, tests)))
    ∙ length-prefix_len digit c.args.bytes.now

pub returns-in_err-value : goal.returns-in_err-value
returns-in_err-value c =
    let e = size_is (goal.at.returns-in_err-value c).After-count-size in
    let h = none_said c.args.negative (take (prefix_len digit c.args.bytes.now) c.args.bytes.now) (rw e at c.in_err-value.ensures.is) in
    search rules

pub returns-then-negative : goal.returns-then-negative
returns-then-negative c =
    let e = size_is (goal.at.returns-then-negative c).After-count-size in
    let n : ℕ = c.in_ok-value.field-0 in
    let h = signed_said c.args.negative true (take (prefix_len digit c.args.bytes.now) c.args.bytes.now) n c.if-negative.true (rw e at c.in_ok-value.ensures.is) in
    let z : to_z w16 (of_z w16 (pos 0 -ℤ to_z w16 n)) ≡ neg_ℤ (pos n) = grind (arith, ints) in
    (ap number z ∙ h, omega arith)

pub returns-else-negative : goal.returns-else-negative
returns-else-negative c =
    let e = size_is (goal.at.returns-else-negative c).After-count-size in
    let n : ℕ = c.in_ok-value.field-0 in
    let h = signed_said c.args.negative false (take (prefix_len digit c.args.bytes.now) c.args.bytes.now) n c.if-negative.false (rw e at c.in_ok-value.ensures.is) in
    let z : to_z w16 n ≡ pos n = search rules in
    (ap number z ∙ h, omega arith)
