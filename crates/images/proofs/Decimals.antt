-- Steps of the reading.
use Rattle.std.proofs.Common.{◌≡◌, ℕ, ◌+◌, ◌-◌, ◌*◌, ◌^◌, ◌<◌, ◌≤◌, List, map, length, get_or, take, ap, ◌∙◌, pow-suc, add-one, arith}
use Rattle.std.specs.Int.Digits.{number_from_digits}
use Rattle.std.proofs.lemmas.List.{map_more}
use Rattle.std.proofs.lemmas.Int.Digits.{number_push}
use Rattle.images.specs.Header.{decimal}

pub decimal_more : (ds : List ℕ) (k : ℕ) → k < length ds → decimal (take (k + 1) ds) ≡ decimal (take k ds) * 10 + (get_or ds k 0 - 48)
decimal_more ds k l =
    ap (number_from_digits 10) (map_more (λ (d : ℕ). d - 48) ds k 0 l) ∙ number_push 10 (map (λ (d : ℕ). d - 48) (take k ds)) (get_or ds k 0 - 48)

-- a byte adds at most 207, so five digits stay below 23 * 10 ^ 5
pub decimal_small : (k sum x d : ℕ) → sum + 23 ≤ 23 * 10 ^ k → x < 256 → d ≡ x - 48 → sum * 10 + d + 23 ≤ 23 * 10 ^ (k + 1)
decimal_small k sum x d h b e = rw (add-one, pow-suc) (omega arith)
