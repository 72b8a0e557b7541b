-- Longest runs: what stands in one, and what behind it.
use Rattle.std.proofs.Common.{◌≡◌, ℕ, zero, suc, Bool, true, false, List, [], ◌∷◌, ◌++◌, length, take, drop, sym, refl, ap, ◌∙◌, subst, one-add}
use Rattle.std.specs.List.{prefix_len}
use Rattle.std.proofs.lemmas.Bool.{eqb-true}
use Rattle.letters.specs.Bytes.{blank}
use Rattle.letters.specs.Tokens.{AllOf, BeginsNot, blanks}

module _ (p : ℕ → Bool) where
  leading_yes : (b : ℕ) (bs : List ℕ) → p b ≡ true → prefix_len p (b ∷ bs) ≡ suc (prefix_len p bs)
  leading_yes b bs e = simp (e, one-add)

  leading_no : (b : ℕ) (bs : List ℕ) → p b ≡ false → prefix_len p (b ∷ bs) ≡ 0
  leading_no b bs e = simp e

  -- bytes of a class up to one that is not are the run
  pub leading_run : (xs rest : List ℕ) → AllOf p xs → BeginsNot p rest → prefix_len p (xs ++ rest) ≡ length xs
  leading_run [] [] a n = refl
  leading_run [] (b ∷ bs) a n = leading_no b bs n
  leading_run (x ∷ xs) rest a n = leading_yes x (xs ++ rest) a.0 ∙ ap suc (leading_run xs rest a.1 n)

  pub run_all : (s : List ℕ) → AllOf p (take (prefix_len p s) s)
  run_all [] = tt
  run_all (b ∷ bs) = go (p b) refl (run_all bs)
    where
      go : (t : Bool) → p b ≡ t → AllOf p (take (prefix_len p bs) bs) → AllOf p (take (prefix_len p (b ∷ bs)) (b ∷ bs))
      go true e r = subst (λ (k : ℕ). AllOf p (take k (b ∷ bs))) (sym (leading_yes b bs e)) (e, r)
      go false e r = subst (λ (k : ℕ). AllOf p (take k (b ∷ bs))) (sym (leading_no b bs e)) tt

  pub run_ends : (s : List ℕ) → BeginsNot p (drop (prefix_len p s) s)
  run_ends [] = tt
  run_ends (b ∷ bs) = go (p b) refl (run_ends bs)
    where
      go : (t : Bool) → p b ≡ t → BeginsNot p (drop (prefix_len p bs) bs) → BeginsNot p (drop (prefix_len p (b ∷ bs)) (b ∷ bs))
      go true e r = subst (λ (k : ℕ). BeginsNot p (drop k (b ∷ bs))) (sym (leading_yes b bs e)) r
      go false e r = subst (λ (k : ℕ). BeginsNot p (drop k (b ∷ bs))) (sym (leading_no b bs e)) e

pub blanks_all : (n : ℕ) → AllOf blank (blanks n)
blanks_all zero = tt
blanks_all (suc n) = (refl, blanks_all n)

pub all_blanks : (xs : List ℕ) → AllOf blank xs → xs ≡ blanks (length xs)
all_blanks [] a = refl
all_blanks (x ∷ xs) a = let e : x ≡ 32 = eqb-true x 32 a.0 in ap (λ (y : ℕ). y ∷ xs) e ∙ ap (λ (ys : List ℕ). 32 ∷ ys) (all_blanks xs a.1)
