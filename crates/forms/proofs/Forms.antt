-- Ascending terms none of which is inside another: the same truth makes them the same.
use Rattle.std.proofs.Common.{◌≡◌, ℕ, ◌<◌, List, [], ◌∷◌, sym, refl, ◌∙◌, subst, ap₂, inl, inr, arith}
use Rattle.forms.specs.Sets.{Sub}
use Rattle.forms.specs.Terms.{In, True, Ascending, Apart, Terms}
use Rattle.forms.specs.Truth.{SameTruth}
use Rattle.forms.proofs.Bits.{sub_refl, sub_trans, sub_anti, sub_le}

-- strictly ascending, and no term inside a later one (a later term, being greater, is never inside an earlier one)
abbrev pub Sound : List ℕ → Type 0
Sound [] = Unit {0}
Sound (t ∷ ts) = ((u : ℕ) → In u ts → (t < u) × (Sub t u → ⊥)) × Sound ts

pub sound : (f : List ℕ) → Ascending f → Apart f → Sound f
sound [] a p = tt
sound (t ∷ f) a p = (
  (λ u m. (a.0 u m, λ s. omega (arith, a.0 u m, p t u (inl refl) (inr m) s))),
  sound f a.1 (λ u v m n. p u v (inr m) (inr n)),
)

pub sound_ascending : (f : List ℕ) → Sound f → Ascending f
sound_ascending [] w = tt
sound_ascending (t ∷ f) w = ((λ u m. (w.0 u m).0), sound_ascending f w.1)

-- of two terms of a form, neither is inside the other
pub apart : (f : List ℕ) → Sound f → Apart f
apart [] w t u m n s = absurd m
apart (x ∷ f) w t u (inl p) (inl q) s = p ∙ sym q
apart (x ∷ f) w t u (inl p) (inr n) s = absurd ((w.0 u n).1 (subst (λ (y : ℕ). Sub y u) p s))
apart (x ∷ f) w t u (inr m) (inl q) s = absurd (omega (arith, (w.0 t m).0, sub_le t u s))
apart (x ∷ f) w t u (inr m) (inr n) s = apart f w.1 t u m n s

-- ascending lists with the same members are the same
pub same : (f g : List ℕ) → Ascending f → Ascending g → ((t : ℕ) → In t f → In t g) → ((t : ℕ) → In t g → In t f) → f ≡ g
same [] [] w v p q = refl
same [] (u ∷ g) w v p q = absurd (q u (inl refl))
same (t ∷ f) [] w v p q = absurd (p t (inl refl))
same (t ∷ f) (u ∷ g) w v p q = ap₂ (λ (x : ℕ) (l : List ℕ). x ∷ l) e (same f g w.1 v.1 forth back)
  where
    e : t ≡ u
    e = elim (p t (inl refl)) [ inl a ↦ a | inr m ↦ elim (q u (inl refl)) [ inl b ↦ sym b | inr n ↦ omega (arith, v.0 t m, w.0 u n) ] ]

    forth : (x : ℕ) → In x f → In x g
    forth x m = elim (p x (inr m)) [ inl a ↦ absurd (omega (arith, w.0 x m, e)) | inr n ↦ n ]

    back : (x : ℕ) → In x g → In x f
    back x m = elim (q x (inr m)) [ inl a ↦ absurd (omega (arith, v.0 x m, e)) | inr n ↦ n ]

-- each term of the one is found in the other
found : (f g : List ℕ) → Sound f → ((t : ℕ) → In t f → True g t) → ((t : ℕ) → In t g → True f t) → (t : ℕ) → In t f → In t g
found f g w p q t m =
    let (u, n, s) = p t m in
    let (v, k, r) = q u n in
    let e : v ≡ t = apart f w v t k m (sub_trans v u t r s) in
    subst (λ (y : ℕ). In y g) (sub_anti u t s (subst (λ (y : ℕ). Sub y u) e r)) n

pub agree : (f g : List ℕ) → Sound f → Sound g → ((t : ℕ) → In t f → True g t) → ((t : ℕ) → In t g → True f t) → f ≡ g
agree f g w v p q = same f g (sound_ascending f w) (sound_ascending g v) (found f g w p q) (found g f v q p)

pub self_true : (f : List ℕ) (t : ℕ) → In t f → True f t
self_true f t m = (t, m, sub_refl t)

pub unique : (f g : List ℕ) → Sound f → Sound g → Terms f → Terms g → SameTruth f g → f ≡ g
unique f g w v a b h =
    agree f g w v (λ t m. (h t (a t m).1).0 (self_true f t m)) (λ t m. (h t (b t m).1).1 (self_true g t m))
