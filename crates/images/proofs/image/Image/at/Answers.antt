use Rattle.std.proofs.Common.{arith}
use Rattle.std.proofs.lemmas.Nat.{mul-add-lt}
use Rattle.images.proofs.image.Image.at.Goals as goal

pub sample-requires : goal.sample-requires
sample-requires c =
    let h = c.args.self.now.layout.header in
    let inside = mul-add-lt c.args.row h.width c.args.column h.height c.requires.row c.requires.column in
    rw c.raster.ensures.header (omega (arith, inside))
