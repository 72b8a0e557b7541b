-- A field of the header, as it is read and as it is spelled.
use Rattle.std.proofs.Common.{◌≡◌, ℕ, suc, ◌+◌, ◌-◌, ◌<◌, ◌≤◌, Bool, true, false, cond, ◌||◌, eqb, ltb, List, [], ◌∷◌, ◌++◌, length, take, drop, Some, None, sym, refl, ap, ◌∙◌, subst, inl, inr, one-add, arith}
use Rattle.std.specs.List.{prefix_len, AllByRecursion}
use Rattle.std.proofs.lemmas.List.{take_rest, take-append-drop, drop-drop, drop_at, take_at, length-take-le, length-drop}
use Rattle.std.proofs.lemmas.List.Sums.{prefix_len-le-length}
use Rattle.std.proofs.lemmas.Bool.{cond-true, cond-false, cases_Bool}
use Rattle.std.proofs.lemmas.Bool.Decides.{nat_tests}
use Rattle.images.specs.Header.{white, digit, decimal, Field}
use Rattle.images.specs.Reading.{Class, White, Digit, belongs, run_end, field_between, field_from, field_at}

-- t does not begin with a byte that passes p
abbrev pub Stops : (ℕ → Bool) → List ℕ → Type 0
Stops p [] = Unit {0}
Stops p (b ∷ bs) = p b ≡ false

module _ (p : ℕ → Bool) where
  pub leading_all : (s : List ℕ) → AllByRecursion (λ b. p b ≡ true) (take (prefix_len p s) s)
  leading_all [] = tt
  leading_all (b ∷ bs) =
      let P : ℕ → Type 0 = λ n. AllByRecursion (λ b. p b ≡ true) (take n (b ∷ bs)) in
      elim (cases_Bool (p b)) [
        | inl e ↦ subst P (sym (cond-true _ _ _ e ∙ one-add (prefix_len p bs))) (e, leading_all bs)
        | inr e ↦ subst P (sym (cond-false (p b) (1 + prefix_len p bs) 0 e)) tt
      ]

  pub leading_stops : (t : List ℕ) → Stops p t → prefix_len p t ≡ 0
  leading_stops [] h = refl
  leading_stops (b ∷ bs) h = cond-false _ _ _ h

  pub leading_run : (s t : List ℕ) → AllByRecursion (λ b. p b ≡ true) s → Stops p t → prefix_len p (s ++ t) ≡ length s
  leading_run [] t a h = leading_stops t h
  leading_run (b ∷ bs) t (e, a) h = cond-true _ _ _ e ∙ one-add (prefix_len p (bs ++ t)) ∙ ap suc (leading_run bs t a h)

digit_not_white : (b : ℕ) → digit b ≡ true → white b ≡ false
digit_not_white b e = grind (arith, nat_tests)

white_not_digit : (b : ℕ) → white b ≡ true → digit b ≡ false
white_not_digit b e = grind (arith, nat_tests)

pub digits_stop : (ds t : List ℕ) → 1 ≤ length ds → AllByRecursion (λ b. digit b ≡ true) ds → Stops (belongs White) (ds ++ t)
digits_stop [] t l a = absurd (omega arith)
digits_stop (d ∷ ds) t l (e, a) = digit_not_white d e

pub white_stops : (b : ℕ) (t : List ℕ) → white b ≡ true → Stops (belongs Digit) (b ∷ t)
white_stops b t e = white_not_digit b e

-- a field begins with white space
pub field_stops : (s : List ℕ) (n : ℕ) (t : List ℕ) → Field s n t → Stops (belongs Digit) s
field_stops s n t f = subst (Stops (belongs Digit)) (sym f.spelling) (go f.gap f.some_gap f.all_white)
  where
    go : (g : List ℕ) → 1 ≤ length g → AllByRecursion (λ b. white b ≡ true) g → Stops (belongs Digit) (g ++ (f.digits ++ t))
    go [] l a = absurd (omega arith)
    go (b ∷ g) l (e, a) = white_not_digit b e

module _ (bs : List ℕ) (at : ℕ) where
  run_within : (class : Class) → at ≤ length bs → run_end class bs at ≤ length bs
  run_within class l = omega (arith, prefix_len-le-length (belongs class) (drop at bs), length-drop at bs)

  run_split : (class : Class) → drop at bs ≡ take (prefix_len (belongs class) (drop at bs)) (drop at bs) ++ drop (run_end class bs at) bs
  run_split class =
      let n = prefix_len (belongs class) (drop at bs) in
      sym (take-append-drop n (drop at bs)) ∙ ap (λ (t : List ℕ). take n (drop at bs) ++ t) (drop-drop n at bs)

  run_long : (class : Class) → length (take (prefix_len (belongs class) (drop at bs)) (drop at bs)) ≡ prefix_len (belongs class) (drop at bs)
  run_long class = length-take-le _ (drop at bs) (prefix_len-le-length (belongs class) (drop at bs))

found : (b : Bool) (x y : ℕ × ℕ) → cond b None (Some x) ≡ Some y → (b ≡ false) × (x ≡ y)
found true x y e = let z : ◌≡◌ {A = ℕ} 0 1 = cc in absurd (omega arith)
found false x y e = (refl, cc)

passes : (at start end : ℕ) → (eqb start at || (eqb end start || ltb 5 (end - start))) ≡ false → (start ≡ at → ⊥) × (end ≡ start → ⊥) × (end - start ≤ 5)
passes at start end e = (grind (arith, nat_tests), grind (arith, nat_tests), grind (arith, nat_tests))

pub to_pass : (at start end : ℕ) → at < start → start < end → end ≤ start + 5 → (eqb start at || (eqb end start || ltb 5 (end - start))) ≡ false
to_pass at start end a b c = grind (arith, nat_tests)

-- what is read as a field is spelled as one
pub field_from_lem : (bs : List ℕ) (at n e : ℕ) → at ≤ length bs → field_at bs at ≡ Some (n, e) → Field (drop at bs) n (drop e bs) × (e ≤ length bs)
field_from_lem bs at n e l h =
    let start = run_end White bs at in
    let end = run_end Digit bs start in
    let f = found (eqb start at || (eqb end start || ltb 5 (end - start))) (decimal (take (end - start) (drop start bs)), end) (n, e) h in
    let t = passes at start end f.0 in
    let q : end ≡ e = ap (λ (x : ℕ × ℕ). x.1) f.1 in
    let v : decimal (take (end - start) (drop start bs)) ≡ n = ap (λ (x : ℕ × ℕ). x.0) f.1 in
    let g = prefix_len (belongs White) (drop at bs) in
    let d = prefix_len (belongs Digit) (drop start bs) in
    let k : end - start ≡ d = omega arith in
    let w : start ≤ length bs = run_within bs at White l in
    let some_gap : 1 ≤ g = omega (arith, t.0) in
    let some_digits : 1 ≤ d = omega (arith, t.1) in
    let few : d ≤ 5 = omega (arith, t.2) in (
      record {
        gap = take g (drop at bs);
        digits = take d (drop start bs);
        spelling = run_split bs at White ∙ ap (λ (s : List ℕ). take g (drop at bs) ++ s) (run_split bs start Digit ∙ ap (λ (i : ℕ). take d (drop start bs) ++ drop i bs) q);
        some_gap = subst (λ (i : ℕ). 1 ≤ i) (sym (run_long bs at White)) some_gap;
        all_white = leading_all (belongs White) (drop at bs);
        some_digits = subst (λ (i : ℕ). 1 ≤ i) (sym (run_long bs start Digit)) some_digits;
        few_digits = subst (λ (i : ℕ). i ≤ 5) (sym (run_long bs start Digit)) few;
        all_digits = leading_all (belongs Digit) (drop start bs);
        value = ap (λ (i : ℕ). decimal (take i (drop start bs))) (sym k) ∙ v;
      },
      omega (arith, q, run_within bs start Digit w),
    )

-- what is spelled as a field is read as one
module _ (bs : List ℕ) (at : ℕ) (s : List ℕ) (n : ℕ) (t : List ℕ) (here : drop at bs ≡ s) (f : Field s n t) (stops : Stops (belongs Digit) t) where
  pub field_end : ℕ
  field_end = at + length f.gap + length f.digits

  run_white : run_end White bs at ≡ at + length f.gap
  run_white = ap (λ (i : ℕ). at + i) (ap (prefix_len (belongs White)) (here ∙ f.spelling) ∙ leading_run (belongs White) f.gap (f.digits ++ t) f.all_white (digits_stop f.digits t f.some_digits f.all_digits))

  drop_gap : drop (at + length f.gap) bs ≡ f.digits ++ t
  drop_gap = sym (drop-drop (length f.gap) at bs) ∙ ap (drop (length f.gap)) (here ∙ f.spelling) ∙ drop_at f.gap (f.digits ++ t) (length f.gap) refl

  run_digits : run_end Digit bs (at + length f.gap) ≡ field_end
  unfolding field_end
  run_digits = ap (λ (i : ℕ). at + length f.gap + i) (ap (prefix_len (belongs Digit)) drop_gap ∙ leading_run (belongs Digit) f.digits t f.all_digits stops)

  pub drop_field : drop field_end bs ≡ t
  unfolding field_end
  drop_field = sym (drop-drop (length f.digits) (at + length f.gap) bs) ∙ ap (drop (length f.digits)) drop_gap ∙ drop_at f.digits t (length f.digits) refl

  pub field_to : field_at bs at ≡ Some (n, field_end)
  unfolding field_end
  field_to =
      let start = at + length f.gap in
      let end = start + length f.digits in
      let p = to_pass at start end (omega (arith, f.some_gap)) (omega (arith, f.some_digits)) (omega (arith, f.few_digits)) in
      let k : end - start ≡ length f.digits = omega arith in
      ap (field_from bs at) run_white
      ∙ ap (field_between bs at start) run_digits
      ∙ cond-false _ _ _ p
      ∙ ap (λ (i : ℕ). Some (i, end)) (ap (λ (i : ℕ). decimal (take i (drop start bs))) k ∙ ap (λ (x : List ℕ). decimal (take (length f.digits) x)) drop_gap ∙ ap decimal (take_at f.digits t (length f.digits) refl) ∙ f.value)

-- a field by the counts of its white space and of its digits, in parts of the bytes
pub field_counted : (bs : List ℕ) (at w n : ℕ) → w ≡ prefix_len white (take (length bs - at) (drop at bs)) → n ≡ prefix_len digit (take (length bs - (at + w)) (drop (at + w) bs))
    → field_at bs at ≡ field_between bs at (at + w) (at + w + n)
field_counted bs at w n e f =
    let start : run_end White bs at ≡ at + w = ap (λ (xs : List ℕ). at + prefix_len white xs) (sym (take_rest bs at)) ∙ ap (λ (k : ℕ). at + k) (sym e) in
    let end : run_end Digit bs (at + w) ≡ at + w + n = ap (λ (xs : List ℕ). at + w + prefix_len digit xs) (sym (take_rest bs (at + w))) ∙ ap (λ (k : ℕ). at + w + k) (sym f) in
    ap (field_from bs at) start ∙ ap (field_between bs at (at + w)) end
