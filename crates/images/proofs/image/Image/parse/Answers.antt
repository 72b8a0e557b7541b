use Rattle.std.proofs.Common.{vec_items, sym, refl, ap, ◌∙◌}
use Rattle.images.specs.Reading.{surveyed}
use Rattle.images.proofs.Surveys.{taken, declined}
use Rattle.images.proofs.image.Image.parse.Goals as goal

pub returns-in-Ok : goal.returns-in-Ok
returns-in-Ok c = record {
  kept = refl;
  outcome = taken (vec_items c.args.bytes) c.in-Ok.layout (ap surveyed (sym c.as_slice.ensures.value) ∙ sym c.in-Ok.ensures.value);
}

pub returns-in-Err : goal.returns-in-Err
returns-in-Err c = record {
  kept = refl;
  outcome = declined (vec_items c.args.bytes) c.in-Err.refusal (ap surveyed (sym c.as_slice.ensures.value) ∙ sym c.in-Err.ensures.value);
}
