-- What is entered in order leaves the minimal sets of all that was entered.
use Rattle.std.proofs.Common.{◌≡◌, ℕ, ◌⊎◌, List, [], ◌∷◌, ◌++◌, Ok, Err, Result, sym, subst, inl, inr, append_assoc, append-nil}
use Rattle.forms.specs.declared.form.Form.{Form}
use Rattle.forms.specs.declared.faults.Fault.{Fault}
use Rattle.forms.specs.Sets.{Sub}
use Rattle.forms.specs.Terms.{In, True}
use Rattle.forms.specs.Entering.{made, bounded, enter, Minimal}
use Rattle.forms.specs.Parts.{terms_of, outcome}
use Rattle.forms.proofs.Bits.{sub_refl, sub_trans, sub_anti}
use Rattle.forms.proofs.Forms.{Sound, sound_ascending, apart}
use Rattle.forms.proofs.Entered.{enters, in_enter, enter_inside}
use Rattle.forms.proofs.Whole.{sound_form}
use Rattle.joins.specs.Joins.{enter_all, unions, max_of, min_of}
use Rattle.joins.specs.Outcomes.{Ensured}
use Rattle.joins.proofs.Entries.{between, bounded_is, in_append, append_in}

-- f has only sets of ts, and one inside each of them
record Kept (ts f : List ℕ) : Type 0 where
  among : (t : ℕ) → In t f → In t ts
  inside : (t : ℕ) → In t ts → True f t
  sound : Sound f

kept_minimal : (ts f : List ℕ) → Kept ts f → Minimal ts f
kept_minimal ts f k = record {
  among = k.among;
  least = least;
  whole = whole;
  ascending = sound_ascending f k.sound;
}
  where
    least : (t u : ℕ) → In t f → In u ts → Sub u t → u ≡ t
    least t u m n s =
        let (v, i, r) = k.inside u n in
        let e : v ≡ t = apart f k.sound v t i m (sub_trans v u t r s) in
        sub_anti u t s (subst (λ (y : ℕ). Sub y u) e r)

    whole : (t : ℕ) → In t ts → ((u : ℕ) → In u ts → Sub u t → u ≡ t) → In t f
    whole t m h = let (v, i, r) = k.inside t m in subst (λ (y : ℕ). In y f) (h v (k.among v i) r) i

kept_enter : (ts f : List ℕ) (t : ℕ) → Kept ts f → Kept (ts ++ t ∷ []) (enter t f)
kept_enter ts f t k = record {
  among = λ u m. among u (in_enter t f u m);
  inside = λ u m. inside u (in_append ts (t ∷ []) u m);
  sound = enters t f k.sound;
}
  where
    among : (u : ℕ) → (u ≡ t) ⊎ In u f → In u (ts ++ t ∷ [])
    among u (inl e) = append_in ts (t ∷ []) u (inr (inl e))
    among u (inr m) = append_in ts (t ∷ []) u (inl (k.among u m))

    inside : (u : ℕ) → In u ts ⊎ In u (t ∷ []) → True (enter t f) u
    inside u (inl m) =
        let (v, i, r) = k.inside u m in
        let (x, j, s) = enter_inside t f v (inr i) in
        (x, j, sub_trans x v u s r)
    inside u (inr (inl e)) = enter_inside t f u (inl e)
    inside u (inr (inr m)) = absurd m

kept_all : (ts us f h : List ℕ) → Kept us f → enter_all ts f ≡ made h → Kept (us ++ ts) h
kept_all [] us f h k e = subst (λ (y : List ℕ). Kept y h) (sym (append-nil us)) (subst (Kept us) (let q : f ≡ h = cc in q) k)
kept_all (t ∷ ts) us f h k e =
    let (g, m, r) = between (bounded (enter t f)) (λ y. enter_all ts y) h e in
    let p = kept_all ts (us ++ t ∷ []) g h (subst (Kept (us ++ t ∷ [])) (bounded_is (enter t f) g m) (kept_enter us f t k)) r in
    subst (λ (y : List ℕ). Kept y h) (append_assoc us (t ∷ []) ts) p

pub max_minimal : (o : Result Form Fault) (f : Form) (g : List ℕ) → outcome o ≡ max_of (terms_of f) g → Ensured o (Minimal (terms_of f ++ g))
max_minimal (Ok h) f g e = kept_minimal (terms_of f ++ g) (terms_of h) (kept_all g (terms_of f) (terms_of f) (terms_of h) (record { among = λ t m. m; inside = λ t m. (t, m, sub_refl t); sound = sound_form f }) (sym e))
max_minimal (Err x) f g e = tt

pub min_minimal : (o : Result Form Fault) (f g : List ℕ) → outcome o ≡ min_of f g → Ensured o (Minimal (unions f g))
min_minimal (Ok h) f g e = kept_minimal (unions f g) (terms_of h) (kept_all (unions f g) [] [] (terms_of h) (record { among = λ t m. m; inside = λ t m. absurd m; sound = tt }) (sym e))
min_minimal (Err x) f g e = tt
