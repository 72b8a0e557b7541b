use Rattle.std.proofs.Common.{◌≡◌, arith}
use Rattle.std.proofs.lemmas.Grind.{common_steps}
use Rattle.stored.specs.Layout.{loaded}
use Rattle.stored.specs.Outcomes.{content_of, outcome}
use Rattle.stored.proofs.Answering.{loaded_back}
use Rattle.stored.proofs.loading.load.Goals as goal

pub returns-clause-back : goal.returns-clause-back
unfolding loaded
returns-clause-back c =
    let e : outcome c.formed.result ≡ content_of c.args.bytes.now = grind (arith, common_steps) in
    loaded_back c.formed.result c.args.bytes.now c.type_inv.bytes e
