use Rattle.std.proofs.Common.{◌≡◌, rules}
use Rattle.forms.specs.Parts.{outcome}
use Rattle.filters.specs.Basic.{closing_of}
use Rattle.filters.proofs.Laws.{closing_over, closing_again}
use Rattle.filters.proofs.basic.closing.Goals as goal

pub returns : goal.returns
returns c =
    let e : outcome c.compose.result ≡ closing_of c.args.size.height c.args.size.width = search rules in
    record {
      exact = e;
      over = closing_over c.args.size.height c.args.size.width c.args.size.sides c.compose.result e;
      again = closing_again c.args.size.height c.args.size.width c.args.size.sides c.compose.result e;
    }
