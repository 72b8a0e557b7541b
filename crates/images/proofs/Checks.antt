-- The tests that follow the header.
use Rattle.std.proofs.Common.{◌≡◌, ℕ, ◌+◌, Bool, true, List, Some, None, Ok, Err, Option, ap, max, add-one, arith}
use Rattle.std.specs.Option.{ok_or}
use Rattle.std.specs.Ordering.{ord_max, nat_cmp}
use Rattle.std.proofs.lemmas.Bool.Decides.{nat_tests}
use Rattle.images.specs.declared.header.Header.{Header}
use Rattle.images.specs.declared.header.Layout.{Layout}
use Rattle.images.specs.declared.refusal.ImageRefusal.{ImageRefusal}
use Rattle.images.specs.declared.refusal.ImageRefusal.TheVariants.{MalformedHeader}
use Rattle.images.specs.Samples.{sample_at}
use Rattle.images.specs.Fits.{InRange}
use Rattle.images.specs.Reading.{in_range, highest, checked, of_header}

pub numbers_in_range : (h : Header) → in_range h ≡ true → InRange h
numbers_in_range h e = ((grind (arith, nat_tests), grind (arith, nat_tests)), (grind (arith, nat_tests), grind (arith, nat_tests)), (grind (arith, nat_tests), grind (arith, nat_tests)))

pub to_in_range : (h : Header) → InRange h → in_range h ≡ true
to_in_range h ((a, b), (c, d), (e, f)) = grind (arith, nat_tests)

nat_max : (a b : ℕ) → ord_max nat_cmp a b ≡ max a b
nat_max a b = grind (arith, nat_tests)

pub highest_more : (w : Bool) (raster : List ℕ) (k top s r : ℕ) → top ≡ highest w raster k → s ≡ sample_at w raster k → r ≡ ord_max nat_cmp top s → r ≡ highest w raster (k + 1)
highest_more w raster k top s r e q m = let n = nat_max top s in rw add-one (cc)

-- a header that is found is checked, and where there is none the bytes are declined
pub found_header : (bs : List ℕ) (o : Option Layout) (l : Layout) → ok_or o MalformedHeader ≡ Ok l → of_header bs o ≡ checked bs l
found_header bs None l e = cc
found_header bs (Some x) l e = let same : x ≡ l = cc in ap (checked bs) same

pub no_header : (bs : List ℕ) (o : Option Layout) (r : ImageRefusal) → ok_or o MalformedHeader ≡ Err r → of_header bs o ≡ Err r
no_header bs None r e = e
no_header bs (Some x) r e = cc
