use Rattle.std.proofs.Common.{◌≡◌, ℕ, ◌+◌, ◌<◌, ◌≤◌, List, [], ◌∷◌, ◌++◌, map, length, take, ◌+ℤ◌, sym, ap, ◌∙◌, subst, arith}
use Rattle.std.proofs.lemmas.List.{length-map, take_all, take_more, length-take-le, map-append}
use Rattle.tables.specs.Table.{items_of}
use Rattle.tables.proofs.Pushing.{pushed}
use Rattle.forms.specs.Window.{row_of, column_of}
use Rattle.forms.specs.Sets.{moved}
use Rattle.forms.specs.Terms.{In, Terms, Ascending, Apart}
use Rattle.forms.specs.Places.{Picks, TrueAt}
use Rattle.forms.specs.Parts.{terms_of}
use Rattle.forms.proofs.Forms.{Sound, apart, sound_ascending}
use Rattle.forms.proofs.Moving.{fits_movable, movable_fits, moved_terms, moved_sound, moved_to, moved_from}
use Rattle.forms.proofs.Entered.{in_at_or}
use Rattle.forms.proofs.Whole.{sets_form, sound_form}
use Rattle.forms.proofs.form.Form.moved.Goals as goal

pub slid-requires : goal.slid-requires
slid-requires c =
    let f : List ℕ = terms_of c.args.self.now in
    let xs : List ℕ = c.terms-term-items.result.now in
    let here : In c.term-item.result xs = subst (λ (u : ℕ). In u xs) (sym c.term-item.is) (in_at_or xs c.loop-term.term-index c.term-item.result c.loop-term-test.true) in
    let stays = fits_movable c.args.to f (sym c.if-not-stays_at.ensures.exact) c.term-item.result (rw c.terms-term-items.ensures.value at here) in
    rw c.number-place.ensures.value record { cell = omega (arith, c.number-place.ensures.value, c.number-place.ensures.bound); stays = stays }

pub loop-term-preserved : goal.loop-term-preserved
loop-term-preserved c =
    let xs : List ℕ = c.terms-term-items.result.now in
    let i : ℕ = c.loop-term.term-index in
    let k : ℕ = c.args.to in
    let u : ℕ = c.term-item.result in
    let done : List ℕ = items_of c.loop-term.table in
    let room : length done < 256 = omega (arith, ap length c.loop-term.invariant, length-map (take i xs) (moved k), length-take-le i xs (omega arith), ap length c.terms-term-items.ensures.value, c.terms-term-items.ensures.room, c.loop-term-test.true) in
    let next : take (i + 1) xs ≡ take i xs ++ u ∷ [] = take_more xs i u c.loop-term-test.true ∙ ap (λ (v : ℕ). take i xs ++ v ∷ []) (sym c.term-item.is) in
    pushed 256 c.push.result done (items_of c.push.new.self) c.slid.result c.push.ensures.ok c.push.ensures.full room
    ∙ ap (λ (v : ℕ). done ++ v ∷ []) (c.slid.ensures ∙ ap (λ (p : ℕ). moved p u) c.number-place.ensures.value) ∙ ap (λ (y : List ℕ). y ++ moved k u ∷ []) c.loop-term.invariant
    ∙ sym (ap (map (moved k)) next ∙ map-append (moved k) (take i xs) (u ∷ []))

-- the loop's list, with no term left
end : (k : ℕ) (f xs ys : List ℕ) (i : ℕ) → length xs ≤ i → xs ≡ f → ys ≡ map (moved k) (take i xs) → map (moved k) f ≡ ys
end k f xs ys i l e p = sym (p ∙ ap (map (moved k)) (take_all i xs l ∙ e))

pub invariant_of-result : goal.invariant_of-result
invariant_of-result c =
    let f : List ℕ = terms_of c.args.self.now in
    let n : ℕ = c.args.to in
    let low : n < 63 = omega (arith, c.number-place.ensures.value, c.number-place.ensures.bound) in
    let e = end n f c.terms-term-items.result.now (items_of c.loop-term.table) c.loop-term.term-index c.loop-term-test.false c.terms-term-items.ensures.value c.loop-term.invariant in
    let s = movable_fits n f (sym c.if-not-stays_at.ensures.exact) in
    let w : Sound (map (moved n) f) = moved_sound n f low (sets_form c.args.self.now) s (sound_form c.args.self.now) in record {
      sets = ∣ subst Terms e (moved_terms n f low (sets_form c.args.self.now) s) ∣₁;
      some = omega (arith, ap length e, length-map f (moved n), c.terms-term-items.ensures.some);
      ascending = ∣ subst Ascending e (sound_ascending (map (moved n) f) w) ∣₁;
      apart = ∣ subst Apart e (apart (map (moved n) f) w) ∣₁;
    }

pub returns : goal.returns
returns c =
    let f : List ℕ = terms_of c.args.self.now in
    let n : ℕ = c.args.to in
    let low : n < 63 = omega (arith, c.number-place.ensures.value, c.number-place.ensures.bound) in
    let e = end n f c.terms-term-items.result.now (items_of c.loop-term.table) c.loop-term.term-index c.loop-term-test.false c.terms-term-items.ensures.value c.loop-term.invariant in
    let q = sym c.if-not-stays_at.ensures.exact in
    let s = movable_fits n f q in
    record {
      exact = (q, sym e);
      truth = λ p x y.
          subst (λ (g : List ℕ). (TrueAt g (Picks p) x y → TrueAt f (Picks p) (x +ℤ row_of n) (y +ℤ column_of n)) × (TrueAt f (Picks p) (x +ℤ row_of n) (y +ℤ column_of n) → TrueAt g (Picks p) x y)) e (
            moved_to n f low (sets_form c.args.self.now) s (Picks p) x y,
            moved_from n f low (sets_form c.args.self.now) s (Picks p) x y,
          );
    }
