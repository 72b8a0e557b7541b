-- The turns of the loops that enter terms and unions.
use Rattle.std.proofs.Common.{◌≡◌, ℕ, ◌+◌, ◌<◌, ◌≤◌, List, [], ◌∷◌, ◌++◌, map, length, get_or, drop, sym, refl, ap, ◌∙◌, inl, arith}
use lib.Bits.{bit_or}
use Rattle.std.proofs.lemmas.List.{drop_more, drop_all, length-map, get_or-map}
use Rattle.std.proofs.lemmas.Bool.{cond-true}
use Rattle.forms.specs.Entering.{Made, made, declined, bounded, enter, covers, put, without}
use Rattle.forms.proofs.Bits.{sub_refl}
use Rattle.forms.proofs.Entered.{true_covers}
use Rattle.joins.specs.Joins.{after, enter_all, unions, min_of}

-- what is left of ts, entered into f, gives o
abbrev pub Entering : Made → List ℕ → ℕ → List ℕ → Type 0
Entering o ts i f = enter_all (drop i ts) f ≡ o

pub all_append : (a b f : List ℕ) → enter_all (a ++ b) f ≡ after (enter_all a f) (λ h. enter_all b h)
all_append [] b f = refl
all_append (t ∷ a) b f = go (λ h. all_append a b h) (bounded (enter t f))
  where
    go : ((h : List ℕ) → enter_all (a ++ b) h ≡ after (enter_all a h) (λ h. enter_all b h))
        → (m : Made) → after m (λ h. enter_all (a ++ b) h) ≡ after (after m (λ h. enter_all a h)) (λ h. enter_all b h)
    go ih (made h) = ih h
    go ih (declined n) = refl

module _ (o : Made) (ts : List ℕ) (i : ℕ) (f : List ℕ) (p : Entering o ts i f) where
  -- m is what entering the next term gives
  module _ (l : i < length ts) (t : ℕ) (q : t ≡ get_or ts i 0) (m : Made) (e : m ≡ bounded (enter t f)) where
    step : after m (λ h. enter_all (drop (i + 1) ts) h) ≡ o
    step =
        ap (λ (y : Made). after y (λ h. enter_all (drop (i + 1) ts) h)) (e ∙ ap (λ (u : ℕ). bounded (enter u f)) q)
        ∙ ap (λ (y : List ℕ). enter_all y f) (sym (drop_more ts i 0 l)) ∙ p

    pub entering_more : (g : List ℕ) → m ≡ made g → Entering o ts (i + 1) g
    entering_more g r = ap (λ (y : Made). after y (λ h. enter_all (drop (i + 1) ts) h)) (sym r) ∙ step

    pub entering_stop : (n : ℕ) → m ≡ declined n → declined n ≡ o
    entering_stop n r = ap (λ (y : Made). after y (λ h. enter_all (drop (i + 1) ts) h)) (sym r) ∙ step

  pub entering_all : length ts ≤ i → made f ≡ o
  entering_all l = ap (λ (y : List ℕ). enter_all y f) (sym (drop_all i ts l)) ∙ p

-- a mapped list, by its places
pub map_at : (k : ℕ → ℕ) (f : List ℕ) (i u : ℕ) → i < length f → u ≡ get_or f i 0 → k u ≡ get_or (map k f) i 0
map_at k f i u l e = ap k e ∙ sym (get_or-map k f i 0 0 l)

pub map_below : (k : ℕ → ℕ) (f : List ℕ) (i : ℕ) → i < length f → i < length (map k f)
map_below k f i l = omega (arith, length-map f k)

pub map_above : (k : ℕ → ℕ) (f : List ℕ) (i : ℕ) → length f ≤ i → length (map k f) ≤ i
map_above k f i l = omega (arith, length-map f k)

-- the same for the unions with a second form
abbrev pub Uniting : Made → List ℕ → List ℕ → ℕ → List ℕ → Type 0
Uniting o f g i acc = enter_all (unions (drop i f) g) acc ≡ o

module _ (o : Made) (f g : List ℕ) (i : ℕ) (acc : List ℕ) (p : Uniting o f g i acc) where
  module _ (l : i < length f) (t : ℕ) (q : t ≡ get_or f i 0) (m : Made) (e : m ≡ enter_all (map (λ u. bit_or t u) g) acc) where
    unite : after m (λ h. enter_all (unions (drop (i + 1) f) g) h) ≡ o
    unite =
        ap (λ (y : Made). after y (λ h. enter_all (unions (drop (i + 1) f) g) h)) (e ∙ ap (λ (v : ℕ). enter_all (map (λ u. bit_or v u) g) acc) q)
        ∙ sym (all_append (map (λ u. bit_or (get_or f i 0) u) g) (unions (drop (i + 1) f) g) acc)
        ∙ ap (λ (y : List ℕ). enter_all (unions y g) acc) (sym (drop_more f i 0 l)) ∙ p

    pub uniting_more : (h : List ℕ) → m ≡ made h → Uniting o f g (i + 1) h
    uniting_more h r = ap (λ (y : Made). after y (λ h. enter_all (unions (drop (i + 1) f) g) h)) (sym r) ∙ unite

    pub uniting_stop : (n : ℕ) → m ≡ declined n → declined n ≡ o
    uniting_stop n r = ap (λ (y : Made). after y (λ h. enter_all (unions (drop (i + 1) f) g) h)) (sym r) ∙ unite

  pub uniting_all : length f ≤ i → made acc ≡ o
  uniting_all l = ap (λ (y : List ℕ). enter_all (unions y g) acc) (sym (drop_all i f l)) ∙ p

-- the first union may stand already
enter_same : (t : ℕ) → enter t (t ∷ []) ≡ t ∷ []
enter_same t = cond-true (covers (t ∷ []) t) (t ∷ []) (put t (without t (t ∷ []))) (true_covers (t ∷ []) t (t, inl refl, sub_refl t))

start_same : (t : ℕ) (ts : List ℕ) → enter_all (t ∷ ts) (t ∷ []) ≡ enter_all (t ∷ ts) []
start_same t ts = ap (λ (y : List ℕ). after (bounded y) (λ h. enter_all ts h)) (enter_same t)

pub uniting_start : (f g : List ℕ) (t : ℕ) → 0 < length f → 0 < length g → t ≡ bit_or (get_or f 0 0) (get_or g 0 0) → Uniting (min_of f g) f g 0 (t ∷ [])
uniting_start [] g t l k e = absurd (omega arith)
uniting_start (u ∷ f) [] t l k e = absurd (omega arith)
uniting_start (u ∷ f) (v ∷ g) t l k e =
    ap (λ (y : ℕ). enter_all (unions (u ∷ f) (v ∷ g)) (y ∷ [])) e ∙ start_same (bit_or u v) (map (λ w. bit_or u w) g ++ unions f (v ∷ g))
