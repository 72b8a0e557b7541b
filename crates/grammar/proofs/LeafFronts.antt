-- Readers of single tokens, cells, sides and weights: what they read is a front of the tokens, and such a front is read.
use Rattle.std.proofs.Common.{◌≡◌, ℕ, zero, suc, ◌+◌, ◌-◌, ◌*◌, ◌/◌, ◌%◌, ◌<◌, ◌≤◌, Bool, true, false, cond, ◌&&◌, eqb, leb, List, [], ◌∷◌, ◌++◌, map, length, drop, ℤ, pos, negsuc, ◌+ℤ◌, ◌-ℤ◌, nat_abs, Some, sym, refl, ap, ◌∙◌, subst, ap₂, subst₂, arith}
use Rattle.std.proofs.lemmas.Int.{ints}
use Rattle.std.proofs.lemmas.Bool.{leb-true, eqb-true, le-leb, eq-eqb, and_parts, and_from, cond-true, cond-false}
use Rattle.letters.specs.declared.tokens.Sign.{Sign}
use Rattle.letters.specs.declared.tokens.Sign.TheVariants.{OpenSquare, CloseSquare, OpenRound, CloseRound, Comma, Star}
use Rattle.letters.specs.Bytes.{sign_byte}
use Rattle.letters.specs.Scanning.{sign_of as sign_at}
use Rattle.letters.specs.Tokens.{Tok, word, number, sign, finish, wrong, Placed}
use Rattle.forms.specs.Window.{row_of, column_of, number_at}
use Rattle.forms.proofs.Steps.{number_at_lem}
use Rattle.filters.specs.Boxes.{Sides, tallest, widest}
use Rattle.filters.specs.Basic.{Weighed}
use Rattle.grammar.specs.declared.faults.Part.TheVariants.{Grammar}
use Rattle.grammar.specs.Expr.{cell_tokens, weight_tokens, RuledWeights, most_times}
use Rattle.grammar.specs.Reading.{Out, ok, bad, bind, Toks, Read, read, refused, is_sign, sign_of, amount_at, amount_of, offset_at, offset_of, row_reach, column_reach, cell_of, sides_of, weighed_of, closes, weights_of}
use Rattle.grammar.proofs.Fronts.{Front, front_append, front_length, plain}

-- what is made, if something is, is such
abbrev pub Gives : {A : Type 0} → (A → Type 0) → Out A → Type 0
Gives P (ok a) = P a
Gives P (bad p n at) = Unit {0}

pub then : {A B : Type 0} (P : A → Type 0) (Q : B → Type 0) (o : Out A) (k : A → Out B) → Gives P o → ((a : A) → P a → Gives Q (k a)) → Gives Q (bind o k)
then P Q (ok a) k h f = f a h
then P Q (bad p n at) k h f = tt

pub if : {A : Type 0} (P : A → Type 0) (b : Bool) (x y : Out A) → (b ≡ true → Gives P x) → (b ≡ false → Gives P y) → Gives P (cond b x y)
if P true x y f g = f refl
if P false x y f g = g refl

-- the first step of a reading is known
pub on : {A B : Type 0} (o : Out A) (a : A) (k : A → Out B) (x : Out B) → o ≡ ok a → k a ≡ x → bind o k ≡ x
on o a k x e f = ap (λ z. bind z k) e ∙ f

pub on_read : {A B : Type 0} (o : Out (Read A)) (a : A) (us : Toks) (k : Read A → Out B) (x : Out B) → o ≡ read a us → k (record { got = a; rest = us }) ≡ x → bind o k ≡ x
on_read o a us k x e f = on o (record { got = a; rest = us }) k x e f

pub read_none : {A : Type 0} (a : A) (ts rest : Toks) → Front [] ts rest → read a ts ≡ read a rest
unfolding Front
read_none a ts rest f = ap (read a) f

-- ---- single tokens
sign_byte_lem : (s : Sign) → sign_at (sign_byte s) ≡ Some s
sign_byte_lem OpenSquare = refl
sign_byte_lem CloseSquare = refl
sign_byte_lem OpenRound = refl
sign_byte_lem CloseRound = refl
sign_byte_lem Comma = refl
sign_byte_lem Star = refl

pub same_sign : (s r : Sign) → sign_byte s ≡ sign_byte r → s ≡ r
same_sign s r e = let p = ap sign_at e in let q = sign_byte_lem s in let t = sign_byte_lem r in cc

pub sign_gives : (s : Sign) (ts : Toks) → Gives (λ us. Front (plain (sign s) ∷ []) ts us) (sign_of s ts)
unfolding Front
sign_gives s [] = tt
sign_gives s (t ∷ ts) = go t.tok t.place
  where
    go : (k : Tok) (at : ℕ) → Gives (λ us. Front (plain (sign s) ∷ []) (record { place = at; tok = k } ∷ ts) us) (cond (is_sign s k) (ok ts) (refused k at))
    go (word w) at = tt
    go (number z) at = tt
    go (sign r) at =
        if (λ us. Front (plain (sign s) ∷ []) (record { place = at; tok = sign r } ∷ ts) us) (eqb (sign_byte s) (sign_byte r)) (ok ts) (bad Grammar 3 at)
        (λ e. (at, ts, ap (λ (z : Sign). record { place = at; tok = sign z } ∷ ts) (sym (same_sign s r (eqb-true (sign_byte s) (sign_byte r) e))), tt, refl)) (λ _. tt)
    go finish at = tt
    go wrong at = tt

pub sign_read : (s : Sign) (ms : List Placed) (ts rest : Toks) → Front (plain (sign s) ∷ ms) ts rest → (us : Toks) × (sign_of s ts ≡ ok us) × Front ms us rest
unfolding Front
sign_read s ms ts rest f = (f.1, ap (sign_of s) f.2 ∙ cond-true (eqb (sign_byte s) (sign_byte s)) (ok f.1) (bad Grammar 3 f.0) (eq-eqb (sign_byte s) (sign_byte s) refl), f.4)

abbrev pub Amount : ℕ → ℕ → Toks → Read ℕ → Type 0
Amount low high ts r = Front (plain (number (pos r.got)) ∷ []) ts r.rest × (low ≤ r.got) × (r.got ≤ high)

pub amount_gives : (low high : ℕ) (ts : Toks) → Gives (Amount low high ts) (amount_of low high ts)
unfolding Front
amount_gives low high [] = tt
amount_gives low high (t ∷ ts) = go t.tok t.place
  where
    go : (k : Tok) (at : ℕ) → Gives (Amount low high (record { place = at; tok = k } ∷ ts)) (amount_at low high k at ts)
    go (word w) at = tt
    go (number (pos n)) at =
        if (Amount low high (record { place = at; tok = number (pos n) } ∷ ts)) (leb low n && leb n high) (read n ts) (bad Grammar 5 at)
        (λ e. let (l, h) = and_parts (leb low n) (leb n high) e in ((at, ts, refl, tt, refl), leb-true low n l, leb-true n high h)) (λ _. tt)
    go (number (negsuc n)) at = tt
    go (sign r) at = tt
    go finish at = tt
    go wrong at = tt

pub amount_read : (low high n : ℕ) (ms : List Placed) (ts rest : Toks) → low ≤ n → n ≤ high → Front (plain (number (pos n)) ∷ ms) ts rest → (us : Toks) × (amount_of low high ts ≡ read n us) × Front ms us rest
unfolding Front
amount_read low high n ms ts rest l h f =
    (f.1, ap (amount_of low high) f.2 ∙ cond-true (leb low n && leb n high) (read n f.1) (bad Grammar 5 f.0) (and_from (leb low n) (leb n high) (le-leb low n l) (le-leb n high h)), f.4)

abbrev Offset : ℕ → Toks → Read ℤ → Type 0
Offset reach ts r = Front (plain (number r.got) ∷ []) ts r.rest × (nat_abs r.got ≤ reach)

offset_gives : (reach : ℕ) (ts : Toks) → Gives (Offset reach ts) (offset_of reach ts)
unfolding Front
offset_gives reach [] = tt
offset_gives reach (t ∷ ts) = go t.tok t.place
  where
    go : (k : Tok) (at : ℕ) → Gives (Offset reach (record { place = at; tok = k } ∷ ts)) (offset_at reach k at ts)
    go (word w) at = tt
    go (number z) at =
        if (Offset reach (record { place = at; tok = number z } ∷ ts)) (leb (nat_abs z) reach) (read z ts) (bad Grammar 5 at)
        (λ e. ((at, ts, refl, tt, refl), leb-true (nat_abs z) reach e)) (λ _. tt)
    go (sign r) at = tt
    go finish at = tt
    go wrong at = tt

offset_read : (reach : ℕ) (z : ℤ) (ms : List Placed) (ts rest : Toks) → nat_abs z ≤ reach → Front (plain (number z) ∷ ms) ts rest → (us : Toks) × (offset_of reach ts ≡ read z us) × Front ms us rest
unfolding Front
offset_read reach z ms ts rest h f = (f.1, ap (offset_of reach) f.2 ∙ cond-true (leb (nat_abs z) reach) (read z f.1) (bad Grammar 5 f.0) (le-leb (nat_abs z) reach h), f.4)

-- ---- cells
-- a number within the reach, counted from minus the reach
shifted : (z : ℤ) (k : ℕ) → nat_abs z ≤ k → (x : ℕ) × (z +ℤ pos k ≡ pos x) × (x ≤ k + k)
shifted (pos n) k l = (n + k, refl, omega arith)
shifted (negsuc n) k l = (k - suc n, omega (arith, ints), omega arith)

cell_at : (r c : ℤ) → nat_abs r ≤ row_reach → nat_abs c ≤ column_reach → (row_of (number_at r c) ≡ r) × (column_of (number_at r c) ≡ c) × (number_at r c < 63)
unfolding number_at
cell_at r c l m =
    let (x, e, i) = shifted r 4 l in
    let (y, d, j) = shifted c 3 m in
    let n : number_at r c ≡ x * 7 + y = ap₂ (λ (a b : ℤ). nat_abs a * 7 + nat_abs b) e d in
    let a : number_at r c / 7 ≡ x = omega (arith, ap (λ k. k / 7) n) in
    let b : number_at r c % 7 ≡ y = omega (arith, ap (λ k. k % 7) n) in
    (ap (λ k. pos k -ℤ pos 4) a ∙ back r x 4 e, ap (λ k. pos k -ℤ pos 3) b ∙ back c y 3 d, omega (arith, n))
  where
    back : (z : ℤ) (x k : ℕ) → z +ℤ pos k ≡ pos x → pos x -ℤ pos k ≡ z
    back z x k e = omega (arith, ints)

reached : (z : ℤ) (x k : ℕ) → z ≡ pos x -ℤ pos k → x ≤ k + k → nat_abs z ≤ k
reached (pos n) x k e l = omega (arith, ints)
reached (negsuc n) x k e l = omega (arith, ints)

row_reached : (n : ℕ) → n < 63 → nat_abs (row_of n) ≤ row_reach
row_reached n l = reached (row_of n) (n / 7) 4 refl (omega arith)

column_reached : (n : ℕ) → nat_abs (column_of n) ≤ column_reach
column_reached n = reached (column_of n) (n % 7) 3 refl (omega arith)

step : (k : Tok) (ms : List Placed) (ts us vs : Toks) → Front (plain k ∷ []) ts us → Front ms us vs → Front (plain k ∷ ms) ts vs
step k ms ts us vs f g = front_append (plain k ∷ []) ms ts us vs f g

abbrev cell_rest : ℤ → ℤ → List Tok
cell_rest r c = number r ∷ sign Comma ∷ number c ∷ sign CloseSquare ∷ []

abbrev pub Celled : Toks → Read ℕ → Type 0
Celled ts r = Front (map plain (cell_rest (row_of r.got) (column_of r.got))) ts r.rest × (r.got < 63)

pub cell_gives : (ts : Toks) → Gives (Celled ts) (cell_of ts)
unfolding cell_of
cell_gives ts =
    then (Offset row_reach ts) (Celled ts) (offset_of row_reach ts) _ (offset_gives row_reach ts) (λ r f.
    then (λ us. Front (plain (sign Comma) ∷ []) r.rest us) (Celled ts) (sign_of Comma r.rest) _ (sign_gives Comma r.rest) (λ us g.
    then (Offset column_reach us) (Celled ts) (offset_of column_reach us) _ (offset_gives column_reach us) (λ c h.
    then (λ vs. Front (plain (sign CloseSquare) ∷ []) c.rest vs) (Celled ts) (sign_of CloseSquare c.rest) _ (sign_gives CloseSquare c.rest) (λ vs i.
    let (a, b, l) = cell_at r.got c.got f.1 h.1 in (
      subst₂ (λ (a b : ℤ). Front (map plain (cell_rest a b)) ts vs) (sym a) (sym b)
          (step (number r.got) _ ts r.rest vs f.0 (step (sign Comma) _ r.rest us vs g (step (number c.got) _ us c.rest vs h.0 i))),
      l,
    )))))

pub cell_read : (n : ℕ) (ms : List Placed) (ts rest : Toks) → n < 63 → Front (map plain (cell_rest (row_of n) (column_of n)) ++ ms) ts rest → (us : Toks) × (cell_of ts ≡ read n us) × Front ms us rest
unfolding cell_of
cell_read n ms ts rest l f =
    let (us, p, g) = offset_read row_reach (row_of n) _ ts rest (row_reached n l) f in
    let (vs, q, h) = sign_read Comma _ us rest g in
    let (ws, r, i) = offset_read column_reach (column_of n) _ vs rest (column_reached n) h in
    let (xs, s, j) = sign_read CloseSquare ms ws rest i in
    (xs, on_read (offset_of row_reach ts) (row_of n) us _ _ p (on (sign_of Comma us) vs _ _ q (on_read (offset_of column_reach vs) (column_of n) ws _ _ r (on (sign_of CloseSquare ws) xs _ (read n xs) s (ap (λ k. read k xs) (number_at_lem n))))), j)

-- ---- sides of a box
abbrev pub Sided : Toks → Read (ℕ × ℕ) → Type 0
Sided ts r = Front (map plain (sign OpenRound ∷ number (pos r.got.0) ∷ sign Comma ∷ number (pos r.got.1) ∷ [])) ts r.rest × Sides r.got.0 r.got.1

pub sides_gives : (ts : Toks) → Gives (Sided ts) (sides_of ts)
unfolding sides_of
sides_gives ts =
    then (λ us. Front (plain (sign OpenRound) ∷ []) ts us) (Sided ts) (sign_of OpenRound ts) _ (sign_gives OpenRound ts) (λ us f.
    then (Amount 1 tallest us) (Sided ts) (amount_of 1 tallest us) _ (amount_gives 1 tallest us) (λ h g.
    then (λ vs. Front (plain (sign Comma) ∷ []) h.rest vs) (Sided ts) (sign_of Comma h.rest) _ (sign_gives Comma h.rest) (λ vs i.
    then (Amount 1 widest vs) (Sided ts) (amount_of 1 widest vs) _ (amount_gives 1 widest vs) (λ w j. (
      step (sign OpenRound) _ ts us w.rest f (step (number (pos h.got)) _ us h.rest w.rest g.0 (step (sign Comma) _ h.rest vs w.rest i j.0)),
      record { some_rows = g.1; few_rows = g.2; some_columns = j.1; few_columns = j.2 },
    )))))

pub sides_read : (h w : ℕ) (ms : List Placed) (ts rest : Toks) → Sides h w → Front (map plain (sign OpenRound ∷ number (pos h) ∷ sign Comma ∷ number (pos w) ∷ []) ++ ms) ts rest → (us : Toks) × (sides_of ts ≡ read (h, w) us) × Front ms us rest
unfolding sides_of
sides_read h w ms ts rest s f =
    let (us, p, g) = sign_read OpenRound _ ts rest f in
    let (vs, q, i) = amount_read 1 tallest h _ us rest s.some_rows s.few_rows g in
    let (ws, r, j) = sign_read Comma _ vs rest i in
    let (xs, t, k) = amount_read 1 widest w ms ws rest s.some_columns s.few_columns j in
    (xs, on (sign_of OpenRound ts) us _ _ p (on_read (amount_of 1 tallest us) h vs _ _ q (on (sign_of Comma vs) ws _ _ r (on_read (amount_of 1 widest ws) w xs _ _ t refl))), k)

-- ---- weighed cells
abbrev weighed_tokens : Weighed → List Tok
weighed_tokens x = sign Comma ∷ (cell_tokens x.cell ++ (sign Star ∷ number (pos x.times) ∷ []))

abbrev Weighs : Toks → Read Weighed → Type 0
Weighs ts r = Front (map plain (weighed_tokens r.got)) ts r.rest × (r.got.cell < 63) × (1 ≤ r.got.times) × (r.got.times ≤ most_times)

weighed_gives : (ts : Toks) → Gives (Weighs ts) (weighed_of ts)
unfolding weighed_of
weighed_gives ts =
    then (λ us. Front (plain (sign Comma) ∷ []) ts us) (Weighs ts) (sign_of Comma ts) _ (sign_gives Comma ts) (λ us f.
    then (λ vs. Front (plain (sign OpenSquare) ∷ []) us vs) (Weighs ts) (sign_of OpenSquare us) _ (sign_gives OpenSquare us) (λ vs g.
    then (Celled vs) (Weighs ts) (cell_of vs) _ (cell_gives vs) (λ c h.
    then (λ ws. Front (plain (sign Star) ∷ []) c.rest ws) (Weighs ts) (sign_of Star c.rest) _ (sign_gives Star c.rest) (λ ws i.
    then (Amount 1 most_times ws) (Weighs ts) (amount_of 1 most_times ws) _ (amount_gives 1 most_times ws) (λ m j. (
      step (sign Comma) _ ts us m.rest f (step (sign OpenSquare) _ us vs m.rest g
          (front_append (map plain (cell_rest (row_of c.got) (column_of c.got))) _ vs c.rest m.rest h.0 (step (sign Star) _ c.rest ws m.rest i j.0))),
      h.1,
      j.1,
      j.2,
    ))))))

-- fewer tokens are left behind a sign and behind a weighed cell
pub sign_fewer : (s : Sign) (ts us : Toks) → sign_of s ts ≡ ok us → length us < length ts
sign_fewer s ts us e = omega (arith, front_length (plain (sign s) ∷ []) ts us (subst (Gives (λ (vs : Toks). Front (plain (sign s) ∷ []) ts vs)) e (sign_gives s ts)))

pub amount_fewer : (low high n : ℕ) (ts rest : Toks) → amount_of low high ts ≡ read n rest → length rest < length ts
amount_fewer low high n ts rest e = omega (arith, front_length (plain (number (pos n)) ∷ []) ts rest (subst (Gives (Amount low high ts)) e (amount_gives low high ts)).0)

pub weighed_fewer : (x : Weighed) (ts rest : Toks) → weighed_of ts ≡ read x rest → length rest < length ts
weighed_fewer x ts rest e = omega (arith, front_length (map plain (weighed_tokens x)) ts rest (subst (Gives (Weighs ts)) e (weighed_gives ts)).0)

weighed_read : (x : Weighed) (ms : List Placed) (ts rest : Toks) → x.cell < 63 → 1 ≤ x.times → x.times ≤ most_times → Front (map plain (weighed_tokens x) ++ ms) ts rest → (us : Toks) × (weighed_of ts ≡ read x us) × Front ms us rest
unfolding weighed_of
weighed_read x ms ts rest l a b f =
    let (us, p, g) = sign_read Comma _ ts rest f in
    let (vs, q, h) = sign_read OpenSquare _ us rest g in
    let (ws, r, i) = cell_read x.cell _ vs rest l h in
    let (xs, s, j) = sign_read Star _ ws rest i in
    let (ys, t, k) = amount_read 1 most_times x.times ms xs rest a b j in
    (ys, on (sign_of Comma ts) us _ _ p (on (sign_of OpenSquare us) vs _ _ q (on_read (cell_of vs) x.cell ws _ _ r (on (sign_of Star ws) xs _ _ s (on_read (amount_of 1 most_times xs) x.times ys _ _ t refl)))), k)

-- the closing bracket next
pub closes_front : (ts : Toks) → closes ts ≡ true → Front (plain (sign CloseRound) ∷ []) ts (drop 1 ts)
unfolding Front
closes_front [] e = let z : ◌≡◌ {A = ℕ} 0 1 = cc in absurd (omega arith)
closes_front (t ∷ ts) e = go t.tok t.place e
  where
    go : (k : Tok) (at : ℕ) → is_sign CloseRound k ≡ true → Front (plain (sign CloseRound) ∷ []) (record { place = at; tok = k } ∷ ts) ts
    go (word w) at e = let z : ◌≡◌ {A = ℕ} 0 1 = cc in absurd (omega arith)
    go (number z) at e = let z : ◌≡◌ {A = ℕ} 0 1 = cc in absurd (omega arith)
    go (sign r) at e = (at, ts, ap (λ (z : Sign). record { place = at; tok = sign z } ∷ ts) (sym (same_sign CloseRound r (eqb-true 41 (sign_byte r) e))), tt, refl)
    go finish at e = let z : ◌≡◌ {A = ℕ} 0 1 = cc in absurd (omega arith)
    go wrong at e = let z : ◌≡◌ {A = ℕ} 0 1 = cc in absurd (omega arith)

pub front_closes : (ts rest : Toks) → Front (plain (sign CloseRound) ∷ []) ts rest → (closes ts ≡ true) × (drop 1 ts ≡ rest)
unfolding Front
front_closes ts rest f = (ap closes f.2, ap (drop 1) f.2 ∙ f.4)

-- a comma next
pub front_goes : (ms : List Placed) (ts rest : Toks) → Front (plain (sign Comma) ∷ ms) ts rest → closes ts ≡ false
unfolding Front
front_goes ms ts rest f = ap closes f.2

front_some : (m : Placed) (ms : List Placed) (ts rest : Toks) → Front (m ∷ ms) ts rest → length rest < length ts
front_some m ms ts rest f = omega (arith, front_length (m ∷ ms) ts rest f)

abbrev pub Weights : Toks → Read (List Weighed) → Type 0
Weights ts r = Front (map plain (weight_tokens r.got)) ts r.rest × RuledWeights r.got × (0 < length r.got)

pub weights_gives : (n : ℕ) (ts : Toks) → Gives (Weights ts) (weights_of n ts)
unfolding weights_of
weights_gives zero ts = tt
weights_gives (suc n) ts =
    then (Weighs ts) (Weights ts) (weighed_of ts) _ (weighed_gives ts) (λ x f.
    if (Weights ts) (closes x.rest) (read (x.got ∷ []) (drop 1 x.rest)) _
    (λ e. (front_append (map plain (weighed_tokens x.got)) (plain (sign CloseRound) ∷ []) ts x.rest (drop 1 x.rest) f.0 (closes_front x.rest e), (f.1, f.2, f.3, tt), omega arith))
    (λ _. then (Weights x.rest) (Weights ts) (weights_of n x.rest) _ (weights_gives n x.rest) (λ xs g.
    (front_append (map plain (weighed_tokens x.got)) (map plain (weight_tokens xs.got)) ts x.rest xs.rest f.0 g.0, (f.1, f.2, f.3, g.1), omega arith))))

pub weights_read : (xs : List Weighed) (n : ℕ) (ts rest : Toks) → length ts ≤ n → 0 < length xs → RuledWeights xs → Front (map plain (weight_tokens xs)) ts rest → weights_of n ts ≡ read xs rest
unfolding weights_of
weights_read [] n ts rest l s r f = absurd (omega arith)
weights_read (x ∷ xs) zero ts rest l s r f = absurd (omega (arith, front_some _ _ ts rest f))
weights_read (x ∷ []) (suc n) ts rest l s r f =
    let (us, p, g) = weighed_read x (plain (sign CloseRound) ∷ []) ts rest r.0 r.1 r.2 f in
    let (c, d) = front_closes us rest g in
    on_read (weighed_of ts) x us _ _ p (cond-true (closes us) _ _ c ∙ ap (read (x ∷ [])) d)
weights_read (x ∷ y ∷ ys) (suc n) ts rest l s r f =
    let (us, p, g) = weighed_read x (map plain (weight_tokens (y ∷ ys))) ts rest r.0 r.1 r.2 f in
    on_read (weighed_of ts) x us _ _ p (cond-false (closes us) _ _ (front_goes _ us rest g)
    ∙ on_read (weights_of n us) (y ∷ ys) rest _ _ (weights_read (y ∷ ys) n us rest (omega (arith, front_length _ ts rest f, front_length _ us rest g)) (omega arith) r.3 g) refl)
