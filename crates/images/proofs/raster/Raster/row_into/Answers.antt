use Rattle.std.proofs.Common.{◌≡◌, ℕ, ◌+◌, ◌-◌, ◌*◌, List, length, get_or, replicate, ℤ, subst, mul-le-mul_right, suc-mul, ap, ◌∙◌, arith, w32}
use Rattle.std.proofs.lemmas.List.{get_or-replicate}
use Rattle.std.proofs.lemmas.Int.{to_z-of_z}
use Rattle.elements.specs.declared.pixel.Pixel.{Pixel}
use Rattle.images.specs.Samples.{wide, pixel, sample_at}
use Rattle.images.specs.Rows.{Spanned}
use Rattle.images.proofs.Parts.{Holds, row_joined}
use Rattle.images.proofs.raster.Raster.row_into.Goals as goal

pub returns : goal.returns
returns c =
    let i = c.args.self in
    let at = c.args.row * i.header.width in
    let f : ℕ → Pixel = λ k. pixel (sample_at (wide i.header) i.bytes.now (at + k)) in
    let spans = subst (λ (z : ℤ). Spanned i.header.width z (length c.args.out.now) c.of-span.result) (to_z-of_z w32 c.args.first c.ranges.first) c.of-span.ensures in
    let edge : (xs ys : List Pixel) (n p : ℕ) → xs ≡ replicate (length ys) (pixel p) → p ≡ sample_at (wide i.header) i.bytes.now (at + n) → length xs ≡ length ys → Holds (λ k. f n) (length xs) xs =
    λ xs ys n p e q l k d h. ap (λ (zs : List Pixel). get_or zs k d) e ∙ get_or-replicate (length ys) k (pixel p) d (omega arith) ∙ ap pixel q in
    row_joined f i.header.width c.args.first (length c.args.out.now) c.of-span.result c.fill.new.self c.samples_into.new.out c.fill-2.new.self spans
    (omega (arith, c.fill.ensures.len, c.split_at_mut-left.ensures.front_len))
    (omega (arith, c.split_at_mut-middle.ensures.front_len))
    (omega (arith, c.fill-2.ensures.len, c.split_at_mut-middle.ensures.back_len, c.split_at_mut-left.ensures.back_len))
    (edge c.fill.new.self c.split_at_mut-left.result.0.now 0 c.sample.result (c.fill.ensures.after (λ y e. e)) (c.sample.ensures ∙ ap (sample_at (wide i.header) i.bytes.now) (omega arith)) c.fill.ensures.len)
    (λ k d l. c.samples_into.ensures k d (omega arith) ∙ ap (λ (j : ℕ). pixel (sample_at (wide i.header) i.bytes.now j)) (omega arith))
    (edge c.fill-2.new.self c.split_at_mut-middle.result.1.now (i.header.width - 1) c.sample-2.result (c.fill-2.ensures.after (λ y e. e)) c.sample-2.ensures c.fill-2.ensures.len)

pub samples_into-requires : goal.samples_into-requires
samples_into-requires c =
    let h = c.args.self.header in
    let rows = mul-le-mul_right h.width c.requires in
    let next = suc-mul c.args.row h.width in
    omega (arith, c.of-span.ensures.narrow, c.split_at_mut-middle.ensures.front_len)
