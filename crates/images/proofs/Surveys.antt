-- The survey of an image says which bytes are one, and which test declines others.
use Rattle.std.proofs.Common.{◌≡◌, ℕ, zero, suc, ◌-◌, ◌*◌, ◌<◌, ◌≤◌, Bool, true, false, eqb, leb, List, length, drop, Some, None, Ok, Err, Option, Result, sym, refl, ap, ◌∙◌, subst, inl, inr, arith}
use Rattle.std.proofs.lemmas.List.{length-drop}
use Rattle.std.proofs.lemmas.Bool.{cond-true, cond-false, cases_Bool, cases_order, cases_lt, eqb-true, eqb-false, eq-eqb, ne_eqb, leb-true, leb-false, both_ways, cond_both}
use Rattle.images.specs.declared.header.Header.{Header}
use Rattle.images.specs.declared.header.Layout.{Layout}
use Rattle.images.specs.declared.refusal.ImageRefusal.{ImageRefusal}
use Rattle.images.specs.declared.refusal.ImageRefusal.TheVariants.{NotPgm, MalformedHeader, OutOfRange, WrongLength, AboveMaximum}
use Rattle.images.specs.Header.{Headed}
use Rattle.images.specs.Samples.{wide, sample_at}
use Rattle.images.specs.Fits.{InRange, raster_length}
use Rattle.images.specs.Pgm.{sample_of, Pgm, Declines}
use Rattle.images.specs.Reading.{in_range, highest, highest_of, checked, of_header, header_of, has_magic, surveyed}
use Rattle.images.proofs.Headers.{magic_from, magic_to, header_from, header_to}
use Rattle.images.proofs.Checks.{numbers_in_range, to_in_range}

module _ (w : Bool) (raster : List ℕ) (m : ℕ) where
  pub highest_under : (n : ℕ) → highest w raster n ≤ m → (k : ℕ) → k < n → sample_at w raster k ≤ m
  highest_under zero h k l = absurd (omega arith)
  highest_under (suc n) h k l = elim (cases_order k n) [
    | inl e ↦ subst (λ (i : ℕ). sample_at w raster i ≤ m) (sym e) (omega arith)
    | inr o ↦ highest_under n (omega arith) k (elim o [ inl a ↦ a | inr b ↦ absurd (omega arith) ])
  ]

  pub highest_over : (n : ℕ) → m < highest w raster n → (k : ℕ) × (k < n) × (m < sample_at w raster k)
  highest_over zero h = absurd (omega arith)
  highest_over (suc n) h = elim (cases_lt m (highest w raster n)) [
    | inl a ↦ let r = highest_over n a in (r.0, omega (arith, r.1), r.2)
    | inr b ↦ (n, omega arith, omega arith)
  ]

-- what the survey says of the bytes
Outcome : List ℕ → Result Layout ImageRefusal → Type 0
Outcome bs (Ok l) = Pgm bs l.header (drop l.start bs)
Outcome bs (Err e) = Declines e bs

checked_outcome : (bs : List ℕ) (l : Layout) → Headed bs l.header (drop l.start bs) → Outcome bs (checked bs l)
unfolding Outcome
checked_outcome bs l d =
    let h = l.header in
    let raster = drop l.start bs in
    let n = length-drop l.start bs in
    cond_both (in_range h) _ _ (Outcome bs)
    (λ r. cond_both (eqb (length bs - l.start) (raster_length h)) _ _ (Outcome bs)
    (λ e. cond_both (leb (highest_of bs l) h.maximum) _ _ (Outcome bs)
    (λ u. record {
      headed = d;
      numbers_in_range = numbers_in_range h r;
      long = n ∙ eqb-true _ _ e;
      under = highest_under (wide h) raster h.maximum (h.height * h.width) (leb-true _ _ u);
    })
    (λ o. (h, raster, d, numbers_in_range h r, n ∙ eqb-true _ _ e, highest_over (wide h) raster h.maximum (h.height * h.width) (leb-false _ _ o))))
    (λ x. (h, raster, d, numbers_in_range h r, λ y. eqb-false _ _ x (sym n ∙ y))))
    (λ x. (h, raster, d, λ y. both_ways (in_range h) x (to_in_range h y)))

header_outcome : (bs : List ℕ) (o : Option Layout) → has_magic bs ≡ true → header_of bs ≡ o → Outcome bs (of_header bs o)
unfolding Outcome
header_outcome bs None g e =
    ((drop 2 bs, magic_from bs g), λ h raster d. let t = header_to bs h raster d in let u = t.1 in let z : ◌≡◌ {A = ℕ} 0 1 = cc in omega arith)
header_outcome bs (Some l) g e = checked_outcome bs l (header_from bs l g e)

survey_outcome : (bs : List ℕ) → Outcome bs (surveyed bs)
unfolding Outcome surveyed
survey_outcome bs =
    cond_both (has_magic bs) _ _ (Outcome bs)
    (λ g. header_outcome bs (header_of bs) g refl)
    (λ n. λ s m. both_ways (has_magic bs) n (magic_to bs s m))

pub survey_ok : (bs : List ℕ) (l : Layout) → surveyed bs ≡ Ok l → Pgm bs l.header (drop l.start bs)
unfolding Outcome
survey_ok bs l e = subst (Outcome bs) e (survey_outcome bs)

pub survey_err : (bs : List ℕ) (r : ImageRefusal) → surveyed bs ≡ Err r → Declines r bs
unfolding Outcome
survey_err bs r e = subst (Outcome bs) e (survey_outcome bs)

-- bytes with a header come to the tests that follow it
survey_headed : (bs : List ℕ) (h : Header) (raster : List ℕ) → Headed bs h raster
    → (start : ℕ) × (surveyed bs ≡ checked bs (record { header = h; start = start })) × (drop start bs ≡ raster)
unfolding surveyed
survey_headed bs h raster d =
    let t = header_to bs h raster d in
    (t.0, (cond-true _ _ _ (magic_to bs d.at_width d.magic) ∙ ap (of_header bs) t.1), t.2)

no_headed : (bs : List ℕ) (o : Option Layout) → has_magic bs ≡ true → header_of bs ≡ o → ((h : Header) (raster : List ℕ) → Headed bs h raster → ⊥) → o ≡ None
no_headed bs None g e n = refl
no_headed bs (Some l) g e n = absurd (n l.header (drop l.start bs) (header_from bs l g e))

range_false : (h : Header) → (InRange h → ⊥) → in_range h ≡ false
range_false h n = elim (cases_Bool (in_range h)) [ inl t ↦ absurd (n (numbers_in_range h t)) | inr f ↦ f ]

module _ (bs : List ℕ) (h : Header) (start : ℕ) (raster : List ℕ) (here : drop start bs ≡ raster) where
  rest_long : length bs - start ≡ length raster
  rest_long = sym (length-drop start bs) ∙ ap length here

  under_true : ((k : ℕ) → k < h.height * h.width → sample_of h raster k ≤ h.maximum) → leb (highest (wide h) (drop start bs) (h.height * h.width)) h.maximum ≡ true
  under_true u =
      let top = highest (wide h) (drop start bs) (h.height * h.width) in
      elim (cases_Bool (leb top h.maximum)) [
        | inl t ↦ t
        | inr f ↦
            let r = highest_over (wide h) (drop start bs) h.maximum (h.height * h.width) (leb-false top h.maximum f) in
            let v = subst (λ (x : List ℕ). sample_of h x r.0 ≤ h.maximum) (sym here) (u r.0 r.1) in
            absurd (omega (arith, v, r.2))
      ]

  over_false : (k : ℕ) → k < h.height * h.width → h.maximum < sample_of h raster k → leb (highest (wide h) (drop start bs) (h.height * h.width)) h.maximum ≡ false
  over_false k l o =
      let top = highest (wide h) (drop start bs) (h.height * h.width) in
      elim (cases_Bool (leb top h.maximum)) [
        | inr f ↦ f
        | inl t ↦
            let v = highest_under (wide h) (drop start bs) h.maximum (h.height * h.width) (leb-true top h.maximum t) k l in
            let x = subst (λ (x : List ℕ). h.maximum < sample_of h x k) (sym here) o in
            absurd (omega (arith, v, x))
      ]

-- what is an image is taken, with its header and its raster
pub pgm_survey : (bs : List ℕ) (h : Header) (raster : List ℕ) → Pgm bs h raster
    → (start : ℕ) × (surveyed bs ≡ Ok (record { header = h; start = start })) × (drop start bs ≡ raster)
pgm_survey bs h raster p =
    let t = survey_headed bs h raster p.headed in (
      t.0,
      (t.1 ∙ cond-true _ _ _ (to_in_range h p.numbers_in_range) ∙ cond-true _ _ _ (eq-eqb _ _ (rest_long bs h t.0 raster t.2 ∙ p.long)) ∙ cond-true _ _ _ (under_true bs h t.0 raster t.2 p.under)),
      t.2,
    )

-- what fails a test is declined by it
pub declines_survey : (bs : List ℕ) (r : ImageRefusal) → Declines r bs → surveyed bs ≡ Err r
unfolding surveyed
declines_survey bs NotPgm d =
    elim (cases_Bool (has_magic bs)) [ inl t ↦ absurd (d (drop 2 bs) (magic_from bs t)) | inr f ↦ cond-false _ _ _ f ]
declines_survey bs MalformedHeader (m, n) =
    let g = magic_to bs m.0 m.1 in
    cond-true _ _ _ g ∙ ap (of_header bs) (no_headed bs (header_of bs) g refl n)
declines_survey bs OutOfRange (h, raster, d, n) =
    let t = survey_headed bs h raster d in
    t.1 ∙ cond-false _ _ _ (range_false h n)
declines_survey bs WrongLength (h, raster, d, r, n) =
    let t = survey_headed bs h raster d in
    t.1 ∙ cond-true _ _ _ (to_in_range h r) ∙ cond-false _ _ _ (ne_eqb _ _ (λ e. n (sym (rest_long bs h t.0 raster t.2) ∙ e)))
declines_survey bs AboveMaximum (h, raster, d, r, l, o) =
    let t = survey_headed bs h raster d in
    t.1 ∙ cond-true _ _ _ (to_in_range h r) ∙ cond-true _ _ _ (eq-eqb _ _ (rest_long bs h t.0 raster t.2 ∙ l)) ∙ cond-false _ _ _ (over_false bs h t.0 raster t.2 o.0 o.1 o.2)

ok_same : (l m : Layout) (o : Result Layout ImageRefusal) → o ≡ Ok l → o ≡ Ok m → l ≡ m
ok_same l m o p q = cc

err_same : (r s : ImageRefusal) (o : Result Layout ImageRefusal) → o ≡ Err r → o ≡ Err s → r ≡ s
err_same r s o p q = cc

ok_err : (l : Layout) (r : ImageRefusal) (o : Result Layout ImageRefusal) → o ≡ Ok l → o ≡ Err r → ⊥
ok_err l r o p q = let z : ◌≡◌ {A = ℕ} 0 1 = cc in omega arith

-- the whole outcome, of bytes that are taken and of bytes that are declined
pub taken : (bs : List ℕ) (l : Layout) → surveyed bs ≡ Ok l
    → Pgm bs l.header (drop l.start bs)
    × ((h : Header) (r : List ℕ) → Pgm bs h r → (h ≡ l.header) × (r ≡ drop l.start bs))
    × ((e : ImageRefusal) → Declines e bs → ⊥)
taken bs l e = (
  survey_ok bs l e,
  (λ h r p.
      let t = pgm_survey bs h r p in
      let same = ok_same (record { header = h; start = t.0 }) l (surveyed bs) t.1 e in
      (ap (λ (m : Layout). m.header) same, sym t.2 ∙ ap (λ (m : Layout). drop m.start bs) same)),
  (λ r d. ok_err l r (surveyed bs) e (declines_survey bs r d)),
)

pub declined : (bs : List ℕ) (r : ImageRefusal) → surveyed bs ≡ Err r
    → Declines r bs × ((e : ImageRefusal) → Declines e bs → e ≡ r) × ((h : Header) (s : List ℕ) → Pgm bs h s → ⊥)
declined bs r e = (
  survey_err bs r e,
  (λ s d. err_same s r (surveyed bs) (declines_survey bs s d) e),
  (λ h s p. let t = pgm_survey bs h s p in ok_err (record { header = h; start = t.0 }) r (surveyed bs) t.1 e),
)
