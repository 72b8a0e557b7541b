-- Sources that repeat their edges: every place shows the nearest place of the frame.
use Rattle.std.specs.Prelude.{ℕ, ◌-◌, min, ℤ, pos, negsuc}
use Rattle.sources.specs.Meaning.{Meaning}

-- the place along a side that is nearest to a whole number: 0 before it, the last past its end
abbrev pub nearest : ℕ → ℤ → ℕ
nearest side (pos n) = min n (side - 1)
nearest side (negsuc n) = 0

-- how far outside the frame an image or a log can be read
abbrev pub edge_margin : ℕ
edge_margin = 32

-- the meaning of a frame of elements whose edges are repeated
abbrev pub repeated : {E : Type 0} → ℕ → ℕ → (ℕ → ℕ → E) → Meaning E
repeated height width frame = record {
  height = height;
  width = width;
  margin = pos edge_margin;
  element = λ row column. frame (nearest height row) (nearest width column);
}
