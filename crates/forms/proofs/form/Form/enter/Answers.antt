use Rattle.std.proofs.Common.{◌≡◌, ℕ, ◌<◌, ◌≤◌, true, false, List, ◌∷◌, length, Ok, Err, Result, IsErrAnd, rules, sym, ap, ◌∙◌, subst, arith}
use Rattle.std.proofs.lemmas.Bool.{cond-true}
use Rattle.tables.specs.Table.{items_of}
use Rattle.forms.specs.declared.faults.Fault.{Fault}
use Rattle.forms.specs.declared.faults.Fault.TheVariants.{TooManyTerms}
use Rattle.forms.specs.Faults.{fault_number}
use Rattle.forms.specs.Terms.{most_terms, Terms, Ascending, Apart}
use Rattle.forms.specs.Entering.{covers, without, put, enter, bounded, declined, Minimal}
use Rattle.forms.specs.Parts.{terms_of, told, Entered}
use Rattle.forms.proofs.Forms.{Sound, apart, sound_ascending}
use Rattle.forms.proofs.Entered.{enters, enter_terms, entered, bounded_made, bounded_full, length_enter, enter_minimal, in_without, without_form}
use Rattle.forms.proofs.Bits.{sub_refl}
use Rattle.forms.proofs.Holding.{holds_covers}
use Rattle.forms.proofs.Whole.{size_most, sets_form, sound_form}
use Rattle.forms.proofs.form.Form.enter.Goals as goal
use Rattle.forms.proofs.form.Form.enter.Goals.{then-holds-via-then-holds, then-holds-via-else-holds+then-covers}

pub put-requires : goal.put-requires
put-requires c =
    let f : List ℕ = terms_of c.args.self.now in
    let t : ℕ = c.args.term in
    rw c.without.ensures record {
      ascending = sound_ascending (without t f) (without_form t f (sound_form c.args.self.now));
      new = λ m. (in_without t f t m).1 (sub_refl t);
    }

pub returns-then-holds : goal.returns-then-holds
returns-then-holds c =
    let f : List ℕ = terms_of c.args.self.now in
    let t : ℕ = c.args.term in
    let b : covers f t ≡ true = elim c.then-holds.branch [
      | then-holds-via-then-holds w ↦ holds_covers f t (sym c.holds.ensures ∙ w.if-holds.true)
      | then-holds-via-else-holds+then-covers w ↦ ap (covers f) (sym w.from.ensures.0) ∙ sym w.covers.ensures ∙ w.if-covers.true
    ] in
    let e : enter t f ≡ f = cond-true (covers f t) f (put t (without t f)) b in
    record {
      exact = sym (ap bounded e ∙ bounded_made f (size_most c.args.self.now));
      minimal = subst (λ (y : List ℕ). Minimal (t ∷ f) y) e (enter_minimal t f (sound_form c.args.self.now));
      kept = tt;
    }

-- a full table declines the term with the number 8
refused : (r : Result (Unit {0}) Fault) (t : ℕ) (f : List ℕ) → IsErrAnd r (λ e. e ≡ TooManyTerms) → Minimal (t ∷ f) (enter t f) → most_terms < length (enter t f)
    → (told r f ≡ declined 8) × Entered r t f f
refused (Ok _) t f e m l = absurd e
refused (Err x) t f e m l = (ap (λ (y : Fault). declined (fault_number y)) e, (enter t f, m, l))

pub returns-in_err-put : goal.returns-in_err-put
returns-in_err-put c =
    let f : List ℕ = terms_of c.args.self.now in
    let t : ℕ = c.args.term in
    let b : covers f t ≡ false = ap (covers f) (sym c.from.ensures.0) ∙ sym c.covers.ensures ∙ c.if-covers.false in
    let l : most_terms < length (enter t f) = omega (arith, length_enter t f _ b c.without.ensures, c.in_err-put.ensures.full) in
    let q = refused c.from_residual.result t f c.from_residual.ensures.1 (enter_minimal t f (sound_form c.args.self.now)) l in
    record { exact = q.0 ∙ sym (bounded_full (enter t f) l); minimal = q.1; kept = search rules }

-- the terms that the table has then
pub new_terms : (f g h : List ℕ) (t : ℕ) → covers f t ≡ false → g ≡ without t f → h ≡ put t g → enter t f ≡ h
new_terms f g h t b e p = entered t f g h (sym b) e p

pub invariant_of-self : goal.invariant_of-self
invariant_of-self c =
    let f : List ℕ = terms_of c.args.self.now in
    let t : ℕ = c.args.term in
    let b : covers f t ≡ false = ap (covers f) (sym c.from.ensures.0) ∙ sym c.covers.ensures ∙ c.if-covers.false in
    let e = new_terms f _ (items_of c.put.new.table) t b c.without.ensures c.in_ok-put.ensures.ok in
    let w : Sound f = sound_form c.args.self.now in record {
      sets = ∣ subst Terms e (enter_terms t f (omega (arith, c.from.ensures.0, c.from.ensures.1)) (omega (arith, c.from.ensures.0, c.from.ensures.2)) (sets_form c.args.self.now)) ∣₁;
      some = omega (arith, ap length e, length_enter t f _ b c.without.ensures);
      ascending = ∣ subst Ascending e (sound_ascending (enter t f) (enters t f w)) ∣₁;
      apart = ∣ subst Apart e (apart (enter t f) (enters t f w)) ∣₁;
    }

pub returns : goal.returns
returns c =
    let f : List ℕ = terms_of c.args.self.now in
    let t : ℕ = c.args.term in
    let h : List ℕ = items_of c.put.new.table in
    let b : covers f t ≡ false = ap (covers f) (sym c.from.ensures.0) ∙ sym c.covers.ensures ∙ c.if-covers.false in
    let e : enter t f ≡ h = new_terms f _ h t b c.without.ensures c.in_ok-put.ensures.ok in
    let l : length h ≤ most_terms = omega (arith, ap length e, length_enter t f _ b c.without.ensures, c.in_ok-put.ensures.room) in
    record {
      exact = sym (ap bounded e ∙ bounded_made h l);
      minimal = subst (λ (y : List ℕ). Minimal (t ∷ f) y) e (enter_minimal t f (sound_form c.args.self.now));
      kept = tt;
    }
