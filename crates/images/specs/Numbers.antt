-- The numbers of the refusals of images and logs.
use Rattle.std.specs.Prelude.{ℕ}
use Rattle.images.specs.declared.refusal.ImageRefusal.{ImageRefusal}
use Rattle.images.specs.declared.refusal.ImageRefusal.TheVariants.{NotPgm, MalformedHeader, OutOfRange, WrongLength, AboveMaximum}
use Rattle.images.specs.declared.refusal.LogRefusal.{LogRefusal}
use Rattle.images.specs.declared.refusal.LogRefusal.TheVariants.{NotRecords}

abbrev pub image_number : ImageRefusal → ℕ
image_number NotPgm = 21
image_number MalformedHeader = 22
image_number OutOfRange = 23
image_number WrongLength = 24
image_number AboveMaximum = 25

abbrev pub log_number : LogRefusal → ℕ
log_number NotRecords = 26
