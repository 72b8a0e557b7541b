-- Numbers written most significant byte first.
use Rattle.std.proofs.Common.{◌≡◌, ℕ, ◌+◌, ◌≤◌, List, length, take, drop, ap, ◌∙◌, arith, w32, w64}
use Rattle.std.specs.Int.{from_be_bytes}
use Rattle.std.specs.Int.Digits.{number_from_digits}
use Rattle.std.proofs.lemmas.List.{take_all, length-take-le, length-drop}
use Rattle.images.specs.Records.{big_endian}
use Rattle.std.proofs.lemmas.Int.Digits.{number_more}

four_bytes : (xs : List ℕ) → length xs ≡ 4 → from_be_bytes w32 xs ≡ number_from_digits 256 (take 4 xs)
four_bytes xs l =
    let a = number_more 256 xs 0 (omega arith) in
    let b = number_more 256 xs 1 (omega arith) in
    let c = number_more 256 xs 2 (omega arith) in
    let d = number_more 256 xs 3 (omega arith) in
    omega arith

eight_bytes : (xs : List ℕ) → length xs ≡ 8 → from_be_bytes w64 xs ≡ number_from_digits 256 (take 8 xs)
eight_bytes xs l =
    let a = number_more 256 xs 0 (omega arith) in
    let b = number_more 256 xs 1 (omega arith) in
    let c = number_more 256 xs 2 (omega arith) in
    let d = number_more 256 xs 3 (omega arith) in
    let e = number_more 256 xs 4 (omega arith) in
    let f = number_more 256 xs 5 (omega arith) in
    let g = number_more 256 xs 6 (omega arith) in
    let h = number_more 256 xs 7 (omega arith) in
    omega arith

pub four_at : (bs xs : List ℕ) (at : ℕ) → at + 4 ≤ length bs → xs ≡ take 4 (drop at bs) → from_be_bytes w32 xs ≡ big_endian bs at 4
four_at bs xs at l e =
    let n : length xs ≡ 4 = ap length e ∙ length-take-le 4 (drop at bs) (omega (arith, length-drop at bs)) in
    four_bytes xs n ∙ ap (number_from_digits 256) (take_all 4 xs (omega arith) ∙ e)

pub eight_at : (bs xs : List ℕ) (at : ℕ) → at + 8 ≤ length bs → xs ≡ take 8 (drop at bs) → from_be_bytes w64 xs ≡ big_endian bs at 8
eight_at bs xs at l e =
    let n : length xs ≡ 8 = ap length e ∙ length-take-le 8 (drop at bs) (omega (arith, length-drop at bs)) in
    eight_bytes xs n ∙ ap (number_from_digits 256) (take_all 8 xs (omega arith) ∙ e)
