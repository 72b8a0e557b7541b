-- A word is known by its letters.
use Rattle.std.proofs.Common.{◌≡◌, ℕ, ◌⊎◌, Bool, true, false, cond, List, length, get_or, Some, None, Option, inl, inr, sym, refl, subst}
use Rattle.grammar.specs.declared.words.Joint.TheVariants.{Max, Min}
use Rattle.grammar.specs.declared.words.Shape.TheVariants.{Erode, Dilate, Open, Close, Med}
use Rattle.grammar.specs.declared.words.Word.{Word}
use Rattle.grammar.specs.declared.words.Word.TheVariants.{Join, After, Over, Rank, Weight}
use Rattle.grammar.specs.Words.{letters_of, same, word_of}
use Rattle.grammar.proofs.Letters.{same_true}

pub word_letters : (w : Word) → word_of (letters_of w) ≡ Some w
unfolding word_of
word_letters (Join Max) = refl
word_letters (Join Min) = refl
word_letters After = refl
word_letters (Over Erode) = refl
word_letters (Over Dilate) = refl
word_letters (Over Open) = refl
word_letters (Over Close) = refl
word_letters (Over Med) = refl
word_letters Rank = refl
word_letters Weight = refl

-- the word found, if one is, has these letters
abbrev Named : List ℕ → Option Word → Type 0
Named w (Some v) = w ≡ letters_of v
Named w None = Unit {0}

or_else : (w : List ℕ) (v : Word) (o : Option Word) → Named w o → Named w (cond (same w (letters_of v)) (Some v) o)
or_else w v o n = go (same w (letters_of v)) refl
  where
    go : (b : Bool) → same w (letters_of v) ≡ b → Named w (cond b (Some v) o)
    go true e = same_true w (letters_of v) e
    go false e = n

named : (w : List ℕ) → Named w (word_of w)
unfolding word_of
named w =
    or_else w (Join Max) _ (or_else w (Join Min) _ (or_else w After _ (or_else w (Over Erode) _ (or_else w (Over Dilate) _
    (or_else w (Over Open) _ (or_else w (Over Close) _ (or_else w (Over Med) _ (or_else w Rank _ (or_else w Weight None tt)))))))))

pub letters_word : (w : List ℕ) (v : Word) → word_of w ≡ Some v → w ≡ letters_of v
letters_word w v e = subst (Named w) e (named w)

-- how the words begin, by how many letters they have
abbrev pub Fronted : List ℕ → Type 0
Fronted w =
    ((length w ≡ 3) × (get_or w 0 0 ≡ 109))
    ⊎ ((length w ≡ 4) × ((get_or w 0 0 ≡ 111) ⊎ (get_or w 0 0 ≡ 114)))
    ⊎ ((length w ≡ 5) × ((get_or w 0 0 ≡ 97) ⊎ (get_or w 0 0 ≡ 99) ⊎ (get_or w 0 0 ≡ 101)))
    ⊎ ((length w ≡ 6) × ((get_or w 0 0 ≡ 100) ⊎ ((get_or w 0 0 ≡ 119) × (get_or w 5 0 ≡ 116))))

fronted : (v : Word) → Fronted (letters_of v)
fronted (Join Max) = inl (refl, refl)
fronted (Join Min) = inl (refl, refl)
fronted After = inr (inr (inl (refl, inl refl)))
fronted (Over Erode) = inr (inr (inl (refl, inr (inr refl))))
fronted (Over Dilate) = inr (inr (inr (refl, inl refl)))
fronted (Over Open) = inr (inl (refl, inl refl))
fronted (Over Close) = inr (inr (inl (refl, inr (inl refl))))
fronted (Over Med) = inl (refl, refl)
fronted Rank = inr (inl (refl, inr refl))
fronted Weight = inr (inr (inr (refl, inr (refl, refl))))

-- letters that begin otherwise are no word's
pub unspelled : (w : List ℕ) → (Fronted w → ⊥) → None ≡ word_of w
unspelled w n = go (word_of w) refl
  where
    go : (o : Option Word) → word_of w ≡ o → None ≡ word_of w
    go None e = sym e
    go (Some v) e = absurd (n (subst Fronted (sym (letters_word w v e)) (fronted v)))
