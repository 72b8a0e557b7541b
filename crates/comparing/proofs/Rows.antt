-- What the answer to a row says, once the row and its first column went through 32 bits.
use Rattle.std.proofs.Common.{◌≡◌, List, length, ℤ, Ok, Err, Result, subst, w32, SFits, to_z, of_z}
use Rattle.std.proofs.lemmas.Int.{to_z-of_z}
use Rattle.sources.specs.declared.refusal.ReadRefusal.{ReadRefusal}
use Rattle.sources.specs.declared.refusal.ReadRefusal.TheVariants.{NotReadable}
use Rattle.sources.specs.Meaning.{Meaning, RowReadable, RowHolds}

module _ {E : Type 0} (m : Meaning E) (answer : Result (Unit {0}) ReadRefusal) (before after : List E) where
  abbrev pub RowAnswer : ℤ → ℤ → Type 0
  RowAnswer row first =
      (RowReadable m row first (length before) → answer ≡ Ok (record {}))
      × (RowReadable m row first (length before) → RowHolds m row first (length before) after)
      × ((RowReadable m row first (length before) → ⊥) → (answer ≡ Err NotReadable) × (after ≡ before))

  pub row_answer : (row first : ℤ) → SFits w32 row → SFits w32 first
      → RowAnswer (to_z w32 (of_z w32 row)) (to_z w32 (of_z w32 first)) → RowAnswer row first
  row_answer row first s t a =
      subst (λ (n : ℤ). RowAnswer row n) (to_z-of_z w32 first t) (subst (λ (n : ℤ). RowAnswer n (to_z w32 (of_z w32 first))) (to_z-of_z w32 row s) a)
