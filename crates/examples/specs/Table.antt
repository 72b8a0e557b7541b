-- Worked examples of expressions, as one table.
use Rattle.std.specs.Prelude.{◌≡◌, List, [], ◌∷◌, map, ℕ, suc, codes, nat_le, ℤ, pos, length, slice_index}
use Prim.Native.String.{String}
use Rattle.sources.specs.Edges.{nearest}
use Rattle.forms.specs.Sets.{set_of}
use Rattle.stored.specs.Outcomes.{bytes_of}
use Rattle.grammar.specs.declared.faults.Part.{Part}
use Rattle.grammar.specs.declared.faults.Part.TheVariants.{Grammar, Forms}
use Rattle.grammar.specs.Reading.{Out, ok, bad, bind, parse}
use Rattle.expressions.specs.Working.{compile}
use Rattle.values.specs.Laws.{value_at}
use Rattle.samples.specs.Samples.{sample}

-- what an example says of its text
pub data Says : Type 0 where
  stores : List ℕ → Says
  has_terms : List (List ℕ) → Says
  has_count : ℕ → Says
  is_refused : Part → ℕ → ℕ → Says
  samples : List ℕ → List ℕ → Says
  filters : List ℕ → List ℕ → Says

pub record Example : Type 0 where
  pub text : String
  pub says : Says

abbrev pub table : List Example
table =
    record { text = "[0,0]"; says = stores (0x10 ∷ 0 ∷ 0 ∷ 0 ∷ 0 ∷ 0x10 ∷ 0 ∷ 0 ∷ 0 ∷ 0 ∷ []) }
    ∷ record { text = "min([0,0],max([0,0],[1,0]))"; says = stores (0x10 ∷ 0 ∷ 0 ∷ 0 ∷ 0 ∷ 0x10 ∷ 0 ∷ 0 ∷ 0 ∷ 0 ∷ []) }
    ∷ record {
      text = "max([0,0],[1,0])";
      says = stores (0x10 ∷ 0x10 ∷ 0 ∷ 0 ∷ 0 ∷ 0 ∷ 0x20 ∷ 0 ∷ 0 ∷ 0 ∷ 0 ∷ 0 ∷ 0 ∷ 0x20 ∷ 0 ∷ 0 ∷ 0 ∷ 0 ∷ []);
    }
    ∷ record { text = "weight(3,[-1,0]*1,[0,0]*3,[1,0]*1)"; says = has_terms ((31 ∷ []) ∷ []) }
    ∷ record { text = "after([-1,0],[1,0])"; says = has_terms ((31 ∷ []) ∷ []) }
    ∷ record { text = "open(2,1)"; says = has_terms ((31 ∷ 38 ∷ []) ∷ (24 ∷ 31 ∷ []) ∷ []) }
    ∷ record { text = "open(2,1)"; says = samples (3 ∷ 9 ∷ 4 ∷ 4 ∷ 1 ∷ []) (3 ∷ 4 ∷ 4 ∷ 4 ∷ 1 ∷ []) }
    ∷ record { text = "open(2,1)"; says = filters (3 ∷ 9 ∷ 4 ∷ 4 ∷ 1 ∷ []) (3 ∷ 4 ∷ 4 ∷ 4 ∷ 1 ∷ []) }
    ∷ record { text = "open(5,4)"; says = has_count 20 }
    ∷ record { text = "open(6,1)"; says = is_refused Forms 9 0 }
    ∷ record { text = "med(3,5)"; says = is_refused Grammar 7 0 }
    ∷ record { text = "erode(10,1)"; says = is_refused Grammar 5 6 }
    ∷ []

-- a column of numbers as a plane whose edges are repeated
abbrev pub column : List ℕ → ℤ → ℤ → ℕ
column xs r c = slice_index xs (nearest (length xs) r)

abbrev pub rows_of : ℕ → List ℕ → List ℕ
rows_of n [] = []
rows_of n (x ∷ xs) = n ∷ rows_of (suc n) xs

-- in the rows of a column: the samples that a text asks for, and the values of its form
abbrev pub samples_of : String → List ℕ → Out (List ℕ)
samples_of text xs = bind (parse (codes text)) (λ e. ok (map (λ n. sample nat_le e (column xs) (pos n) (pos 0)) (rows_of 0 xs)))

abbrev pub values_of : String → List ℕ → Out (List ℕ)
values_of text xs = bind (compile (codes text)) (λ f. ok (map (λ n. value_at nat_le (column xs) f (pos n) (pos 0)) (rows_of 0 xs)))

-- what the text's compiling, or its samples, give, and what they should
abbrev pub given : String → Says → Out (List ℕ)
given text (stores bytes) = bind (compile (codes text)) (λ f. ok (bytes_of f))
given text (has_terms ts) = compile (codes text)
given text (has_count n) = bind (compile (codes text)) (λ f. ok (length f ∷ []))
given text (is_refused p n at) = compile (codes text)
given text (samples xs ys) = samples_of text xs
given text (filters xs ys) = values_of text xs

abbrev pub expected : Says → Out (List ℕ)
expected (stores bytes) = ok bytes
expected (has_terms ts) = ok (map set_of ts)
expected (has_count n) = ok (n ∷ [])
expected (is_refused p n at) = bad p n at
expected (samples xs ys) = ok ys
expected (filters xs ys) = ok ys

-- every example of the table holds
abbrev pub Hold : Type 0
Hold = map (λ x. given x.text x.says) table ≡ map (λ x. expected x.says) table
