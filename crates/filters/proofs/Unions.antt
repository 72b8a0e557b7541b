-- Unions of sets, and entering into the form of the whole window.
use Rattle.std.proofs.Common.{◌≡◌, ℕ, ◌+◌, ◌-◌, ◌^◌, ◌<◌, ◌≤◌, Bool, true, false, cond, ◌||◌, List, [], ◌∷◌, ◌++◌, sym, refl, ap, ◌∙◌, inl, mod-eq_of_lt, arith, pow_mono}
use lib.Bits.{bit_and, bit_or, or_lt, or_zero_r}
use Rattle.std.proofs.lemmas.Nat.{and_mask}
use Rattle.std.proofs.lemmas.Bool.{eqb-true, eq-eqb}
use Rattle.forms.specs.Sets.{bit, Sub, sub, single, set_of}
use Rattle.forms.specs.Terms.{In}
use Rattle.forms.specs.Entering.{made, declined, bounded, put, enter}
use Rattle.forms.proofs.Bits.{ext, bit_of_or, lt_two_pow, sub_anti}
use Rattle.joins.specs.Joins.{after, enter_all}

pub or_assoc : (a b c : ℕ) → bit_or (bit_or a b) c ≡ bit_or a (bit_or b c)
or_assoc a b c = ext n (bit_or (bit_or a b) c) (bit_or a (bit_or b c)) (or_lt n (bit_or a b) c (or_lt n a b p q) r) (or_lt n a (bit_or b c) p (or_lt n b c q r)) (λ k l. each k)
  where
    n : ℕ
    n = a + b + c

    p : a < 2 ^ (a + b + c)
    p = let m : 2 ^ a ≤ 2 ^ (a + b + c) = pow_mono (let z : a ≤ a + b + c = omega arith in z) in omega (arith, lt_two_pow a)

    q : b < 2 ^ (a + b + c)
    q = let m : 2 ^ b ≤ 2 ^ (a + b + c) = pow_mono (let z : b ≤ a + b + c = omega arith in z) in omega (arith, lt_two_pow b)

    r : c < 2 ^ (a + b + c)
    r = let m : 2 ^ c ≤ 2 ^ (a + b + c) = pow_mono (let z : c ≤ a + b + c = omega arith in z) in omega (arith, lt_two_pow c)

    each : (k : ℕ) → bit (bit_or (bit_or a b) c) k ≡ bit (bit_or a (bit_or b c)) k
    each k = omega (arith, bit_of_or (bit_or a b) c k, bit_of_or a b k, bit_of_or a (bit_or b c) k, bit_of_or b c k)

-- one more cell
pub set_of_push : (cs : List ℕ) (c : ℕ) → set_of (cs ++ c ∷ []) ≡ bit_or (set_of cs) (single c)
set_of_push [] c = or_zero_r (single c)
set_of_push (d ∷ cs) c = ap (bit_or (single d)) (set_of_push cs c) ∙ sym (or_assoc (single d) (set_of cs) (single c))

-- what is entered first into the form of the whole window takes its place
abbrev pub window : ℕ
window = 2 ^ 63 - 1

enter_under : (t a : ℕ) → Sub t a → enter t (a ∷ []) ≡ t ∷ []
enter_under t a s = go (sub a t) refl
  where
    go : (b : Bool) → sub a t ≡ b → cond (b || false) (a ∷ []) (put t (cond (sub t a) [] (a ∷ []))) ≡ t ∷ []
    go true e = ap (λ (y : ℕ). y ∷ []) (sub_anti a t (eqb-true (bit_and a t) a e) s)
    go false e = ap (λ (b : Bool). put t (cond b [] (a ∷ []))) (eq-eqb (bit_and t a) t s)

pub from_window : (ts : List ℕ) → (ts ≡ [] → ⊥) → ((t : ℕ) → In t ts → t < 2 ^ 63) → enter_all ts (window ∷ []) ≡ enter_all ts []
from_window [] n w = absurd (n refl)
from_window (t ∷ ts) n w =
    ap (λ (y : List ℕ). after (bounded y) (λ h. enter_all ts h)) (enter_under t window (and_mask t 63 ∙ mod-eq_of_lt (w t (inl refl))))

pub never_declined : (n : ℕ) (f : List ℕ) → declined n ≡ made f → ⊥
never_declined n f e = let z : ◌≡◌ {A = ℕ} 0 1 = cc in omega arith
