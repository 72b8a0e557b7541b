use Rattle.std.proofs.Common.{◌≡◌, true, false, sym, ap, ◌∙◌, Err, arith, rules}
use Rattle.std.proofs.lemmas.Bool.Decides.{nat_tests}
use Rattle.std.proofs.lemmas.Bool.{cond-true, cond-false}
use Rattle.images.specs.Reading.{surveyed, has_magic, of_header}
use Rattle.images.proofs.Checks.{no_header, found_header}
use Rattle.images.proofs.reading.survey.Goals as goal

pub returns-in_default-clause-value : goal.returns-in_default-clause-value
unfolding surveyed
returns-in_default-clause-value c =
    let no : has_magic c.args.bytes.now ≡ false = grind (arith, nat_tests) in
    sym (cond-false _ _ _ no)

pub returns-in_default-2-clause-value : goal.returns-in_default-2-clause-value
unfolding surveyed
returns-in_default-2-clause-value c =
    let no : has_magic c.args.bytes.now ≡ false = grind (arith, nat_tests) in
    sym (cond-false _ _ _ no)

pub returns-in_default-3-clause-value : goal.returns-in_default-3-clause-value
unfolding surveyed
returns-in_default-3-clause-value c =
    let no : has_magic c.args.bytes.now ≡ false = grind (arith, nat_tests) in
    sym (cond-false _ _ _ no)

pub returns-in_err-layout-clause-value : goal.returns-in_err-layout-clause-value
unfolding surveyed
returns-in_err-layout-clause-value c =
    let yes : has_magic c.args.bytes.now ≡ true = grind (arith, nat_tests) in
    let none = no_header c.args.bytes.now c.header.result c.in_err-layout.field-0.0 (sym c.ok_or.ensures.value ∙ c.in_err-layout.was) in
    let same : c.from_residual.result ≡ Err c.in_err-layout.field-0.0 = search rules in
    same ∙ sym none ∙ ap (of_header c.args.bytes.now) c.header.ensures.value ∙ sym (cond-true _ _ _ yes)

pub returns-clause-value : goal.returns-clause-value
unfolding surveyed
returns-clause-value c =
    let yes : has_magic c.args.bytes.now ≡ true = grind (arith, nat_tests) in
    let some = found_header c.args.bytes.now c.header.result c.in_ok-layout.layout (sym c.ok_or.ensures.value ∙ c.in_ok-layout.was) in
    c.checked.ensures.value ∙ sym some ∙ ap (of_header c.args.bytes.now) c.header.ensures.value ∙ sym (cond-true _ _ _ yes)
