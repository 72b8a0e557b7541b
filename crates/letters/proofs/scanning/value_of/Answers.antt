use Rattle.std.proofs.Common.{arith, ltb-false, ltb-true}
use Rattle.letters.proofs.Digits.{two_said, three_said}
use Rattle.letters.proofs.scanning.value_of.Goals as goal

pub returns-in-len2 : goal.returns-in-len2
returns-in-len2 c = record {
  is = two_said c.args.negative c.args.digits.now (omega (arith, ltb-true, ltb-false)) (λ e. omega arith);
  small = omega (arith, c.requires 0 (omega (arith, ltb-true, ltb-false)), c.requires 1 (omega (arith, ltb-true, ltb-false)));
}

pub returns-in-len3 : goal.returns-in-len3
returns-in-len3 c = record {
  is = three_said c.args.negative c.args.digits.now (omega (arith, ltb-true, ltb-false)) (λ e. omega arith);
  small = omega (arith, c.requires 0 (omega (arith, ltb-true, ltb-false)), c.requires 1 (omega (arith, ltb-true, ltb-false)), c.requires 2 (omega (arith, ltb-true, ltb-false)));
}
