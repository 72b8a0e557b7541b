use Rattle.std.proofs.Common.{◌≡◌, ◌+◌, ◌*◌, ◌^◌, ◌≤◌, take}
use Rattle.images.specs.Header.{decimal}
use Rattle.images.proofs.reading.decimal.Given as goal

abbrev pub invariant-loop-d : goal.invariant-loop-d
invariant-loop-d l = (l.sum ≡ decimal (take l.d-index l.digits)) × (l.sum + 23 ≤ 23 * 10 ^ l.d-index)
