-- A value that was put behind others and then turned to its place.
use Rattle.std.proofs.Common.{◌≡◌, ℕ, ◌+◌, ◌-◌, ◌≤◌, min, ◌⊎◌, List, [], ◌∷◌, ◌++◌, length, take, drop, sym, refl, ap, ◌∙◌, ap₂, inl, inr, arith, length-append, length-drop}
use Rattle.std.proofs.lemmas.List.{take-append-le, drop-append-le, take_at, drop_at, take_all, drop_all, take-take}
use Rattle.std.proofs.lemmas.Slice.{between_is, take-put_mid}
use Rattle.std.proofs.lemmas.Bool.{cases_lt}
use borrow.Rule.Slice.PartMut.{put_mid}

module _ {X : Type 0} (ys xs : List X) (v : X) (at k e : ℕ) (pushed : take e ys ≡ xs ++ v ∷ []) (size : e ≡ length xs + 1) (fits : e ≤ length ys) (place : k ≡ min at (e - 1)) where
  abbrev pub mid : List X
  mid = take (e - k) (drop k ys)

  low : k ≤ length xs
  low = omega arith

  mid_is : mid ≡ drop k xs ++ v ∷ []
  mid_is = between_is ys k e ∙ ap (drop k) pushed ∙ drop-append-le k xs (v ∷ []) low

  front : take k ys ≡ take k xs
  front = sym (take-take k e ys (omega arith)) ∙ ap (take k) pushed ∙ take-append-le k xs (v ∷ []) low

  last : length mid - 1 ≡ length (drop k xs)
  last = omega (arith, ap length mid_is, length-append (drop k xs) (v ∷ []))

  turned : drop (length mid - 1) mid ++ take (length mid - 1) mid ≡ v ∷ drop k xs
  turned =
      ap₂ (λ (a b : List X). a ++ b)
      (ap₂ (λ (n : ℕ) (l : List X). drop n l) last mid_is ∙ drop_at (drop k xs) (v ∷ []) _ refl)
      (ap₂ (λ (n : ℕ) (l : List X). take n l) last mid_is ∙ take_at (drop k xs) (v ∷ []) _ refl)

  same_place : (k ≡ at) ⊎ ((k ≡ length xs) × (length xs ≤ at)) → take k xs ++ v ∷ drop k xs ≡ take at xs ++ v ∷ drop at xs
  same_place (inl q) = ap (λ (n : ℕ). take n xs ++ v ∷ drop n xs) q
  same_place (inr q) =
      ap₂ (λ (a b : List X). a ++ v ∷ b)
      (take_all k xs (omega arith) ∙ sym (take_all at xs q.1))
      (drop_all k xs (omega arith) ∙ sym (drop_all at xs q.1))

  place_cases : (k ≡ at) ⊎ ((k ≡ length xs) × (length xs ≤ at))
  place_cases = elim (cases_lt at (length xs)) [ inl q ↦ inl (omega arith) | inr q ↦ inr (omega arith, q) ]

  pub turn : (z : List X) → z ≡ drop (length mid - 1) mid ++ take (length mid - 1) mid
      → take e (put_mid k (e - k) ys z) ≡ take at xs ++ v ∷ drop at xs
  turn z q =
      take-put_mid k (e - k) ys z e (omega (arith, ap length q, ap length turned, length-drop k xs)) (omega arith)
      ∙ ap₂ (λ (a b : List X). a ++ b) front (q ∙ turned)
      ∙ same_place place_cases
