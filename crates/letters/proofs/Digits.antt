-- Runs of digits, and what two and three of them say.
use Rattle.std.proofs.Common.{◌≡◌, ℕ, ◌+◌, ◌-◌, ◌*◌, ◌≤◌, Bool, true, false, cond, leb, List, [], ◌∷◌, length, get_or, Some, None, pos, neg_ℤ, refl, sym, ap, ◌∙◌, zero-add, arith}
use Rattle.std.proofs.lemmas.Option.{none-some}
use Rattle.std.proofs.lemmas.Bool.{leb-true, ne_eqb, and_parts}
use Rattle.letters.specs.Bytes.{digit}
use Rattle.letters.specs.Tokens.{number, wrong}
use Rattle.letters.specs.Scanning.{is_numeral, value_of, number_of}

pub digit_is : (b : ℕ) → digit b ≡ true → (48 ≤ b) × (b ≤ 57)
digit_is b e = let h = and_parts (leb 48 b) (leb b 57) e in (leb-true 48 b h.0, leb-true b 57 h.1)

-- the number that digits say, where they are taken
abbrev pub Said : Bool → List ℕ → ℕ → Type 0
Said negative s n = Some n ≡ cond (is_numeral negative s) (Some (value_of 0 s)) None

-- what is said is the number, after a minus or not
number_said : (negative : Bool) (s : List ℕ) (n : ℕ) → Said negative s n → number (cond negative (neg_ℤ (pos n)) (pos n)) ≡ number_of negative s
number_said negative s n e = go (is_numeral negative s) e
  where
    go : (b : Bool) → Some n ≡ cond b (Some (value_of 0 s)) None → number (cond negative (neg_ℤ (pos n)) (pos n)) ≡ cond b (number (cond negative (neg_ℤ (pos (value_of 0 s))) (pos (value_of 0 s)))) wrong
    go true e = let v : n ≡ value_of 0 s = cc in ap (λ (m : ℕ). number (cond negative (neg_ℤ (pos m)) (pos m))) v
    go false e = absurd (none-some n (sym e))

pub signed_said : (negative t : Bool) (s : List ℕ) (n : ℕ) → negative ≡ t → Said negative s n → number (cond t (neg_ℤ (pos n)) (pos n)) ≡ number_of negative s
signed_said negative t s n q e = ap (λ (b : Bool). number (cond b (neg_ℤ (pos n)) (pos n))) (sym q) ∙ number_said negative s n e

pub none_said : (negative : Bool) (s : List ℕ) → None ≡ cond (is_numeral negative s) (Some (value_of 0 s)) None → wrong ≡ number_of negative s
none_said negative s e = go (is_numeral negative s) e
  where
    go : (b : Bool) → None ≡ cond b (Some (value_of 0 s)) None → wrong ≡ cond b (number (cond negative (neg_ℤ (pos (value_of 0 s))) (pos (value_of 0 s)))) wrong
    go true e = absurd (none-some (value_of 0 s) e)
    go false e = refl

pub two_said : (negative : Bool) (s : List ℕ) → length s ≡ 2 → (get_or s 0 0 ≡ 48 → ⊥) → Said negative s ((get_or s 0 0 - 48) * 10 + (get_or s 1 0 - 48))
two_said negative [] l n = absurd (omega arith)
two_said negative (d ∷ []) l n = absurd (omega arith)
two_said negative (d ∷ e ∷ []) l n = simp (ne_eqb d 48 n, zero-add)
two_said negative (d ∷ e ∷ f ∷ fs) l n = absurd (omega arith)

pub three_said : (negative : Bool) (s : List ℕ) → length s ≡ 3 → (get_or s 0 0 ≡ 48 → ⊥) → Said negative s ((get_or s 0 0 - 48) * 100 + (get_or s 1 0 - 48) * 10 + (get_or s 2 0 - 48))
three_said negative [] l n = absurd (omega arith)
three_said negative (d ∷ []) l n = absurd (omega arith)
three_said negative (d ∷ e ∷ []) l n = absurd (omega arith)
three_said negative (d ∷ e ∷ f ∷ []) l n =
    let same : (d - 48) * 100 + (e - 48) * 10 + (f - 48) ≡ ((0 + (d - 48)) * 10 + (e - 48)) * 10 + (f - 48) = omega arith in
    simp (ne_eqb d 48 n) (ap Some same)
three_said negative (d ∷ e ∷ f ∷ g ∷ gs) l n = absurd (omega arith)
