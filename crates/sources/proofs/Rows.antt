-- Rows of a source.
use Rattle.std.proofs.Common.{◌≡◌, ℕ, ◌+◌, ◌<◌, ◌≤◌, Bool, List, length, get_or, set, ℤ, pos, ◌+ℤ◌, Ok, Err, Result, Decides, sym, ◌∙◌, subst, inl, inr, arith, w32, SFits, to_z, of_z}
use Rattle.std.proofs.lemmas.List.{get_or-set_same, get_or-set_other}
use Rattle.std.proofs.lemmas.Int.{ints, to_z-of_z}
use Rattle.std.proofs.lemmas.Bool.{cases_order, cases_lt}
use Rattle.sources.specs.declared.refusal.ReadRefusal.{ReadRefusal}
use Rattle.sources.specs.declared.refusal.ReadRefusal.TheVariants.{NotReadable}
use Rattle.sources.specs.Edges.{nearest}
use Rattle.sources.proofs.Repeats.{nearest_below}
use Rattle.sources.specs.Meaning.{Meaning, Ranges, Readable, RowWithin, RowReadable, RowHolds}

-- what the test of a row says, once the row and its first column went through 32 bits
pub through : (b : Bool) (h w : ℕ) (g row first : ℤ) (n : ℕ) → SFits w32 row → SFits w32 first
    → Decides b (RowWithin h w g (to_z w32 (of_z w32 row)) (to_z w32 (of_z w32 first)) n) → Decides b (RowWithin h w g row first n)
through b h w g row first n s t d = rw (← to_z-of_z w32 row s, ← to_z-of_z w32 first t) d

module _ {E : Type 0} (m : Meaning E) (row first : ℤ) (n : ℕ) where
  -- what the test of a row says of a source with these sides and this margin
  pub tells : {h w : ℕ} {g : ℤ} → SFits w32 row → SFits w32 first → (b : Bool) → h ≡ m.height → w ≡ m.width → g ≡ m.margin
      → Decides b (RowWithin h w g (to_z w32 (of_z w32 row)) (to_z w32 (of_z w32 first)) n) → Decides b (RowReadable m row first n)
  tells {h} {w} {g} s t b e1 e2 e3 d = rw (← e1, ← e2, ← e3) (through b h w g row first n s t d)

  -- what the frame's row is said to be, at a row of a source or at numbers
  abbrev pub RowPlaced : Result ℕ ReadRefusal → ℕ → ℕ → ℤ → ℤ → ℤ → Type 0
  RowPlaced a h w g r f = (RowWithin h w g r f n → a ≡ Ok (nearest h r)) × ((RowWithin h w g r f n → ⊥) → a ≡ Err NotReadable)

  pub placed : SFits w32 row → SFits w32 first → (a : Result ℕ ReadRefusal) (h w : ℕ) (g : ℤ) → h ≡ m.height → w ≡ m.width → g ≡ m.margin
      → RowPlaced a h w g (to_z w32 (of_z w32 row)) (to_z w32 (of_z w32 first)) → RowPlaced a m.height m.width m.margin row first
  placed s t a h w g e1 e2 e3 d = rw (← e1, ← e2, ← e3, ← to_z-of_z w32 row s, ← to_z-of_z w32 first t) d

  -- a row of the frame that is found is one of the frame's
  pub row_below : Ranges m → (a : Result ℕ ReadRefusal) (x : ℕ) → RowPlaced a m.height m.width m.margin row first → a ≡ Ok x → x < m.height
  row_below q a x p e = elim (cases_lt x m.height) [
    | inl l ↦ l
    | inr o ↦ let refused = p.1 (λ r. let shown = p.0 r in let same : x ≡ nearest m.height row = cc in omega (arith, nearest_below m.height row q.some_rows)) in cc
  ]

  pub fits_at : Ranges m → RowReadable m row first n → (k : ℕ) → k < n → SFits w32 (first +ℤ pos k)
  fits_at q h k l = let w = (h k l).1 in let a = q.deepest in let b = q.widest in let s = q.few_columns in omega (arith, ints, w.0, w.1)

  pub few : Ranges m → SFits w32 first → RowReadable m row first n → (k : ℕ) → k < n → k ≤ 49152
  few q f h k l = let w = (h k l).1 in let v = (h 0 (omega arith)).1 in let a = q.deepest in let b = q.widest in let s = q.few_columns in omega (arith, ints, w.0, w.1, v.0)

  pub at : RowReadable m row first n → (k : ℕ) → k < n → (r c : ℤ) → r ≡ row → c ≡ first +ℤ pos k → Readable m r c
  at h k l r c e q = rw (e, q) (h k l)

  pub holds_more : (out : List E) (i : ℕ) (e : E) → i < length out → e ≡ m.element row (first +ℤ pos i) → RowHolds m row first i out → RowHolds m row first (i + 1) (set out i e)
  holds_more out i e l q h k a d = elim (cases_order k i) [
    | inl s ↦ subst (λ (j : ℕ). get_or (set out i e) j d ≡ m.element row (first +ℤ pos j)) (sym s) (get_or-set_same out i e d l ∙ q)
    | inr o ↦ get_or-set_other out i k e d (elim o [ inl b ↦ omega arith | inr b ↦ omega arith ]) ∙ h k (elim o [ inl b ↦ b | inr b ↦ omega arith ]) d
  ]

  pub holds_all : (r f : ℤ) (i : ℕ) (out : List E) → r ≡ row → f ≡ first → n ≤ i → RowHolds m r f i out → RowHolds m row first n out
  holds_all r f i out e q l h k a d = h k (omega arith) d ∙ rw (e, q)
