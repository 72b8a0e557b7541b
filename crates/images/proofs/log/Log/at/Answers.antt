use Rattle.std.proofs.Common.{◌≡◌, ℕ, ◌+◌, ◌-◌, ◌*◌, List, length, ◌≤◌, take, drop, vec_items, ap, ◌∙◌, arith}
use Rattle.std.proofs.lemmas.List.{take_rest, drop-drop}
use Rattle.images.specs.Records.{big_endian, record_bytes}
use Rattle.images.proofs.Endian.{four_at, eight_at}
use Rattle.images.proofs.log.Log.at.Goals as goal

pub returns : goal.returns
returns c =
    let log = c.args.self.now in
    let bs : List ℕ = vec_items log.bytes in
    let start = record_bytes * c.args.row in
    let inside : start + record_bytes + 0 ≤ length bs = omega (arith, log.whole) in
    let entry : List ℕ = take (length c.as_slice.result.now - start) (drop start c.as_slice.result.now) in
    let record_from : entry ≡ drop start bs =
    take_rest c.as_slice.result.now start ∙ ap (drop start) c.as_slice.ensures.value in
    let first = rw c.unwrap.ensures at c.split_first_chunk.ensures.cases in
    let second = rw c.unwrap-2.ensures at c.split_first_chunk-2.ensures.cases in
    let key : c.from_be_bytes.result ≡ big_endian bs start 8 =
    c.from_be_bytes.ensures ∙ eight_at bs c.unwrap.result.0.now start (omega arith) (first.0 ∙ ap (take 8) record_from) in
    let stamp : c.from_be_bytes-2.result ≡ big_endian bs (start + 8) 4 =
    c.from_be_bytes-2.ensures
    ∙ four_at bs c.unwrap-2.result.0.now (start + 8) (omega arith) (second.0 ∙ ap (take 4) (take_rest entry 8 ∙ ap (drop 8) record_from ∙ drop-drop 8 start bs)) in
    cc
