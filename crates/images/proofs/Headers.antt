-- The header, as it is read and as it is spelled.
use Rattle.std.proofs.Common.{◌≡◌, ℕ, ◌+◌, ◌<◌, ◌≤◌, Bool, true, false, cond, ◌&&◌, ltb, List, [], ◌∷◌, length, get_or, drop, Some, None, Option, sym, refl, ap, ◌∙◌, subst, arith}
use Rattle.std.proofs.lemmas.List.{drop_more, length-drop}
use Rattle.std.proofs.lemmas.Bool.{cond-true, and_parts, and_from, ltb-true, lt-ltb}
use Rattle.std.proofs.lemmas.Bool.Decides.{nat_tests}
use Rattle.images.specs.declared.header.Header.{Header}
use Rattle.images.specs.declared.header.Layout.{Layout}
use Rattle.images.specs.Header.{white, Field, Magic, Headed}
use Rattle.images.specs.Reading.{and_then, field_at, closed, header_of, has_magic}
use Rattle.images.proofs.Fields.{field_from_lem, field_stops, white_stops, field_end, drop_field, field_to}

then_some : {A B : Type 0} (o : Option A) (f : A → Option B) (x : B) → and_then o f ≡ Some x → (y : A) × (o ≡ Some y) × (f y ≡ Some x)
then_some None f x e = let z : ◌≡◌ {A = ℕ} 0 1 = cc in absurd (omega arith)
then_some (Some y) f x e = (y, refl, e)

then_at : {A B : Type 0} (o : Option A) (f : A → Option B) (x : A) → o ≡ Some x → and_then o f ≡ f x
then_at o f x e = ap (λ p. and_then p f) e

when : {B : Type 0} (b : Bool) (x y : B) → cond b (Some x) None ≡ Some y → (b ≡ true) × (x ≡ y)
when true x y e = (refl, cc)
when false x y e = let z : ◌≡◌ {A = ℕ} 0 1 = cc in absurd (omega arith)

pub magic_from : (bs : List ℕ) → has_magic bs ≡ true → Magic bs (drop 2 bs)
magic_from [] e = let z : ◌≡◌ {A = ℕ} 0 1 = cc in absurd (omega arith)
magic_from (a ∷ []) e = let z : ◌≡◌ {A = ℕ} 0 1 = cc in absurd (omega arith)
magic_from (a ∷ b ∷ s) e =
    let p : a ≡ 80 = grind (arith, nat_tests) in
    let q : b ≡ 53 = grind (arith, nat_tests) in
    cc

pub magic_to : (bs s : List ℕ) → Magic bs s → has_magic bs ≡ true
magic_to bs s e = subst (λ (l : List ℕ). has_magic l ≡ true) (sym e) (grind (arith, nat_tests))

pub magic_drop : (bs s : List ℕ) → Magic bs s → drop 2 bs ≡ s
magic_drop bs s e = ap (drop 2) e

-- what is read as a header is spelled as one
pub header_from : (bs : List ℕ) (l : Layout) → has_magic bs ≡ true → header_of bs ≡ Some l → Headed bs l.header (drop l.start bs)
header_from bs l g e =
    let two : 2 ≤ length bs = grind (arith, nat_tests) in
    let w = then_some (field_at bs 2) _ l e in
    let fw = field_from_lem bs 2 w.0.0 w.0.1 two w.1 in
    let h = then_some (field_at bs w.0.1) _ l w.2 in
    let fh = field_from_lem bs w.0.1 h.0.0 h.0.1 fw.1 h.1 in
    let m = then_some (field_at bs h.0.1) _ l h.2 in
    let fm = field_from_lem bs h.0.1 m.0.0 m.0.1 fh.1 m.1 in
    let end = m.0.1 in
    let c = when (ltb end (length bs) && white (get_or bs end 0)) _ l m.2 in
    let t = and_parts (ltb end (length bs)) (white (get_or bs end 0)) c.0 in
    let u = drop_more bs end 0 (ltb-true end (length bs) t.0) in
    subst (λ (x : Layout). Headed bs x.header (drop x.start bs)) c.1
    (record {
      at_width = drop 2 bs;
      at_height = drop w.0.1 bs;
      at_maximum = drop h.0.1 bs;
      last = get_or bs end 0;
      magic = magic_from bs g;
      width = fw.0;
      height = fh.0;
      maximum = subst (λ (s : List ℕ). Field (drop h.0.1 bs) m.0.0 s) u fm.0;
      last_white = t.1;
    })

closed_at : (bs : List ℕ) (h : Header) (at last : ℕ) (raster : List ℕ) → drop at bs ≡ last ∷ raster → white last ≡ true
    → (closed bs h at ≡ Some (record { header = h; start = at + 1 })) × (drop (at + 1) bs ≡ raster)
closed_at bs h at last raster e w =
    let long : at < length bs = omega (arith, length-drop at bs, ap length e) in
    let u = drop_more bs at 0 long in
    let same : get_or bs at 0 ∷ drop (at + 1) bs ≡ last ∷ raster = sym u ∙ e in
    let first : get_or bs at 0 ≡ last = cc in
    let rest : drop (at + 1) bs ≡ raster = cc in
    (cond-true _ _ _ (and_from _ _ (lt-ltb at (length bs) long) (ap white first ∙ w)), rest)

-- what is spelled as a header is read as one
pub header_to : (bs : List ℕ) (h : Header) (raster : List ℕ) → Headed bs h raster
    → (start : ℕ) × (header_of bs ≡ Some (record { header = h; start = start })) × (drop start bs ≡ raster)
header_to bs h raster d =
    let stops = white_stops d.last raster d.last_white in
    let sh = field_stops d.at_maximum _ _ d.maximum in
    let sw = field_stops d.at_height _ _ d.height in
    let here = magic_drop bs d.at_width d.magic in
    let w = field_end bs 2 d.at_width h.width d.at_height here d.width sw in
    let ew = field_to bs 2 d.at_width h.width d.at_height here d.width sw in
    let dw = drop_field bs 2 d.at_width h.width d.at_height here d.width sw in
    let v = field_end bs w d.at_height h.height d.at_maximum dw d.height sh in
    let ev = field_to bs w d.at_height h.height d.at_maximum dw d.height sh in
    let dv = drop_field bs w d.at_height h.height d.at_maximum dw d.height sh in
    let m = field_end bs v d.at_maximum h.maximum (d.last ∷ raster) dv d.maximum stops in
    let em = field_to bs v d.at_maximum h.maximum (d.last ∷ raster) dv d.maximum stops in
    let dm = drop_field bs v d.at_maximum h.maximum (d.last ∷ raster) dv d.maximum stops in
    let c = closed_at bs h m d.last raster dm d.last_white in
    (m + 1, (then_at (field_at bs 2) _ _ ew ∙ then_at (field_at bs w) _ _ ev ∙ then_at (field_at bs v) _ _ em ∙ c.0), c.1)
