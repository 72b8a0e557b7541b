use Rattle.std.proofs.Common.{◌≡◌, ◌<◌, length, arith}
use Rattle.values.proofs.Cells.{changed}
use Rattle.values.proofs.windows.Window.set.Goals as goal

pub returns : goal.returns
returns g c = λ d k l.
    let e : c.from-number.result ≡ c.args.cell = cc in
    let h : c.args.cell < length c.args.self.now.all = omega (arith, c.args.self.now.size, c.number.ensures.value, c.number.ensures.bound) in
    changed c.args.self.now.all c.from-number.result c.args.cell c.args.element e h d k
