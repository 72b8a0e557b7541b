-- The letters of each word.
use Rattle.std.specs.Prelude.{ℕ, Bool, true, false, cond, ◌&&◌, List, [], ◌∷◌, Some, None, codes, Option, ◌==◌}
use Rattle.grammar.specs.declared.words.Joint.TheVariants.{Max, Min}
use Rattle.grammar.specs.declared.words.Shape.TheVariants.{Erode, Dilate, Open, Close, Med}
use Rattle.grammar.specs.declared.words.Word.{Word}
use Rattle.grammar.specs.declared.words.Word.TheVariants.{Join, After, Over, Rank, Weight}

abbrev pub letters_of : Word → List ℕ
letters_of (Join Max) = codes "max"
letters_of (Join Min) = codes "min"
letters_of After = codes "after"
letters_of (Over Erode) = codes "erode"
letters_of (Over Dilate) = codes "dilate"
letters_of (Over Open) = codes "open"
letters_of (Over Close) = codes "close"
letters_of (Over Med) = codes "med"
letters_of Rank = codes "rank"
letters_of Weight = codes "weight"

abbrev pub same : List ℕ → List ℕ → Bool
same [] [] = true
same [] (y ∷ ys) = false
same (x ∷ xs) [] = false
same (x ∷ xs) (y ∷ ys) = x == y && same xs ys

-- the word that has these letters
unfoldable pub word_of : List ℕ → Option Word
word_of w =
    cond (same w (codes "max")) (Some (Join Max)) (cond (same w (codes "min")) (Some (Join Min))
    (cond (same w (codes "after")) (Some After)
    (cond (same w (codes "erode")) (Some (Over Erode)) (cond (same w (codes "dilate")) (Some (Over Dilate))
    (cond (same w (codes "open")) (Some (Over Open)) (cond (same w (codes "close")) (Some (Over Close))
    (cond (same w (codes "med")) (Some (Over Med)) (cond (same w (codes "rank")) (Some Rank)
    (cond (same w (codes "weight")) (Some Weight) None)))))))))
