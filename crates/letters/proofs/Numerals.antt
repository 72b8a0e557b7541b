-- Numbers below 1,000: their digits, and what digits say.
use Rattle.std.proofs.Common.{◌≡◌, ℕ, ◌+◌, ◌-◌, ◌*◌, ◌/◌, ◌%◌, ◌<◌, ◌≤◌, Bool, true, false, not, ◌&&◌, eqb, ltb, leb, List, [], ◌∷◌, length, refl, ap, ◌∙◌, arith}
use Rattle.std.proofs.lemmas.Bool.{ltb-true, ltb-false, leb-true, lt-ltb, le-ltb, le-leb, eqb-false, ne_eqb, and_parts, and_from, not-true, false≢true}
use Rattle.letters.specs.Bytes.{digit}
use Rattle.letters.specs.Tokens.{AllOf, decimal}
use Rattle.letters.specs.Scanning.{is_numeral, value_of}
use Rattle.letters.proofs.Digits.{digit_is}

digit_of : (b : ℕ) → 48 ≤ b → b ≤ 57 → digit b ≡ true
digit_of b l h = and_from (leb 48 b) (leb b 57) (le-leb 48 b l) (le-leb b 57 h)

-- digits that say a number, as the language takes them
pub record Says (n : ℕ) (ds : List ℕ) : Type 0 where
  pub digits : AllOf digit ds
  pub some : 0 < length ds
  pub value : value_of 0 ds ≡ n
  pub taken : (negative : Bool) → (negative ≡ true → 0 < n) → is_numeral negative ds ≡ true

one_says : (n : ℕ) → n < 10 → Says n ((48 + n) ∷ [])
one_says n h = record {
  digits = (digit_of (48 + n) (omega arith) (omega arith), tt);
  some = omega arith;
  value = omega arith;
  taken = λ negative g. single negative g;
}
  where
    single : (negative : Bool) → (negative ≡ true → 0 < n) → is_numeral negative ((48 + n) ∷ []) ≡ true
    single true g = let k : 0 < n = g refl in ap not (ne_eqb (48 + n) 48 (λ e. omega arith))
    single false g = refl

two_says : (n : ℕ) → 10 ≤ n → n < 100 → Says n ((48 + n / 10) ∷ (48 + n % 10) ∷ [])
two_says n l h = record {
  digits = (digit_of (48 + n / 10) (omega arith) (omega arith), (digit_of (48 + n % 10) (omega arith) (omega arith), tt));
  some = omega arith;
  value = omega arith;
  taken = λ negative g. and_from (not (eqb (48 + n / 10) 48)) true (ap not (ne_eqb (48 + n / 10) 48 (λ e. omega arith))) refl;
}

three_says : (n : ℕ) → 100 ≤ n → n < 1000 → Says n ((48 + n / 100) ∷ (48 + n / 10 % 10) ∷ (48 + n % 10) ∷ [])
three_says n l h = record {
  digits = (digit_of (48 + n / 100) (omega arith) (omega arith), (digit_of (48 + n / 10 % 10) (omega arith) (omega arith), (digit_of (48 + n % 10) (omega arith) (omega arith), tt)));
  some = omega arith;
  value = omega arith;
  taken = λ negative g. and_from (not (eqb (48 + n / 100) 48)) true (ap not (ne_eqb (48 + n / 100) 48 (λ e. omega arith))) refl;
}

pub decimal_says : (n : ℕ) → n < 1000 → Says n (decimal n)
decimal_says n h = by_ten (ltb n 10) refl
  where
    by_hundred : 10 ≤ n → (t : Bool) → ltb n 100 ≡ t → Says n (decimal n)
    by_hundred l true e = rw (le-ltb n 10 l, e) (two_says n l (ltb-true n 100 e))
    by_hundred l false e = rw (le-ltb n 10 l, e) (three_says n (ltb-false n 100 e) h)

    by_ten : (t : Bool) → ltb n 10 ≡ t → Says n (decimal n)
    by_ten true e = rw e (one_says n (ltb-true n 10 e))
    by_ten false e = by_hundred (ltb-false n 10 e) (ltb n 100) refl

-- what digits say is spelled by them alone
pub record Spells (negative : Bool) (ds : List ℕ) : Type 0 where
  pub same : decimal (value_of 0 ds) ≡ ds
  pub small : value_of 0 ds < 1000
  pub above : negative ≡ true → 0 < value_of 0 ds

decimal_one : (v d : ℕ) → v < 10 → 48 + v ≡ d → decimal v ≡ d ∷ []
decimal_one v d h e = rw (lt-ltb v 10 h) (ap (λ (x : ℕ). x ∷ []) e)

decimal_two : (v d e : ℕ) → 10 ≤ v → v < 100 → 48 + v / 10 ≡ d → 48 + v % 10 ≡ e → decimal v ≡ d ∷ e ∷ []
decimal_two v d e l h i j = rw (le-ltb v 10 l, lt-ltb v 100 h) (ap (λ (x : ℕ). x ∷ (48 + v % 10) ∷ []) i ∙ ap (λ (x : ℕ). d ∷ x ∷ []) j)

decimal_three : (v d e f : ℕ) → 100 ≤ v → 48 + v / 100 ≡ d → 48 + v / 10 % 10 ≡ e → 48 + v % 10 ≡ f → decimal v ≡ d ∷ e ∷ f ∷ []
decimal_three v d e f l i j k =
    rw (le-ltb v 10 (omega arith), le-ltb v 100 l)
    (ap (λ (x : ℕ). x ∷ (48 + v / 10 % 10) ∷ (48 + v % 10) ∷ []) i ∙ ap (λ (x : ℕ). d ∷ x ∷ (48 + v % 10) ∷ []) j ∙ ap (λ (x : ℕ). d ∷ e ∷ x ∷ []) k)

-- a first digit that is not 0 is above it
first_above : (d : ℕ) (t : Bool) → 48 ≤ d → (not (eqb d 48) && t) ≡ true → 48 < d
first_above d t l e = let h = eqb-false d 48 (not-true (eqb d 48) (and_parts (not (eqb d 48)) t e).0) in omega arith

pub value_spells : (negative : Bool) (ds : List ℕ) → AllOf digit ds → is_numeral negative ds ≡ true → Spells negative ds
value_spells negative [] a t = absurd (false≢true t)
value_spells negative (d ∷ []) a t =
    let h = digit_is d a.0 in
    record { same = decimal_one (0 + (d - 48)) d (omega arith) (omega arith); small = omega arith; above = λ n. alone negative n t }
  where
    alone : (negative : Bool) → negative ≡ true → not (negative && eqb d 48) ≡ true → 0 < 0 + (d - 48)
    alone true n t = let h = digit_is d a.0 in let k = eqb-false d 48 (not-true (eqb d 48) t) in omega arith
    alone false n t = absurd (false≢true n)
value_spells negative (d ∷ e ∷ []) a t =
    let h = digit_is d a.0 in
    let i = digit_is e a.1.0 in
    let k = first_above d true h.0 t in
    record { same = decimal_two ((0 + (d - 48)) * 10 + (e - 48)) d e (omega arith) (omega arith) (omega arith) (omega arith); small = omega arith; above = λ n. omega arith }
value_spells negative (d ∷ e ∷ f ∷ []) a t =
    let h = digit_is d a.0 in
    let i = digit_is e a.1.0 in
    let j = digit_is f a.1.1.0 in
    let k = first_above d true h.0 t in
    record { same = decimal_three (((0 + (d - 48)) * 10 + (e - 48)) * 10 + (f - 48)) d e f (omega arith) (omega arith) (omega arith) (omega arith); small = omega arith; above = λ n. omega arith }
value_spells negative (d ∷ e ∷ f ∷ g ∷ ds) a t =
    let h = and_parts (not (eqb d 48)) (leb (length (f ∷ g ∷ ds)) 1) t in
    let k : length (f ∷ g ∷ ds) ≤ 1 = leb-true (length (f ∷ g ∷ ds)) 1 h.1 in
    absurd (omega arith)
