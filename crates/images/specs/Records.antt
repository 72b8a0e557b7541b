-- The records of a log, and what a log shows.
use Rattle.std.specs.Prelude.{◌≡◌, ℕ, ◌+◌, ◌*◌, ◌/◌, ◌≤◌, List, length, take, drop}
use Rattle.std.specs.Int.Digits.{number_from_digits}
use Rattle.elements.specs.declared.event.Event.{Event}
use Rattle.sources.specs.Meaning.{Meaning, longest}
use Rattle.sources.specs.Edges.{repeated}

-- the number that n bytes from a place on write, most significant first
abbrev pub big_endian : List ℕ → ℕ → ℕ → ℕ
big_endian bs at n = number_from_digits 256 (take n (drop at bs))

abbrev pub record_bytes : ℕ
record_bytes = 12

-- how many whole records there are
abbrev pub record_count : List ℕ → ℕ
record_count bs = length bs / record_bytes

-- record k: eight bytes of key, four of stamp
abbrev pub event_at : List ℕ → ℕ → Event
event_at bs k = record { key = big_endian bs (record_bytes * k) 8; stamp = big_endian bs (record_bytes * k + 8) 4 }

-- bs is n records, from 1 to the longest side
abbrev pub Records : List ℕ → ℕ → Type 0
Records bs n = (length bs ≡ record_bytes * n) × (1 ≤ n) × (n ≤ longest)

-- n records one below the other
abbrev pub log_meaning : List ℕ → ℕ → Meaning Event
log_meaning bs n = repeated n 1 (λ row column. event_at bs row)
