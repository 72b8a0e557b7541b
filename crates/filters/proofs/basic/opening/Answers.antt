use Rattle.std.proofs.Common.{◌≡◌, rules}
use Rattle.forms.specs.Parts.{outcome}
use Rattle.filters.specs.Basic.{opening_of}
use Rattle.filters.proofs.Laws.{opening_under, opening_again}
use Rattle.filters.proofs.basic.opening.Goals as goal

pub returns : goal.returns
returns c =
    let e : outcome c.compose.result ≡ opening_of c.args.size.height c.args.size.width = search rules in
    record {
      exact = e;
      under = opening_under c.args.size.height c.args.size.width c.args.size.sides c.compose.result e;
      again = opening_again c.args.size.height c.args.size.width c.args.size.sides c.compose.result e;
    }
