use Rattle.std.proofs.lemmas.List.{get_or-replicate}
use Rattle.values.proofs.windows.Window.filled.Goals as goal

pub returns : goal.returns
returns g c = λ d k l. get_or-replicate 63 k c.args.element d l
