use Rattle.std.proofs.Common.{sym, ap, ◌∙◌}
use Rattle.forms.specs.Parts.{terms_of}
use Rattle.stored.specs.Layout.{bytes_for, count_bits, version}
use Rattle.stored.proofs.Undoing.{stored_length}
use Rattle.stored.proofs.saving.stored_len.Goals as goal

pub returns-clause-value : goal.returns-clause-value
returns-clause-value c = c.bytes_for.ensures ∙ ap (bytes_for count_bits) c.len.ensures.value ∙ sym (stored_length count_bits version (terms_of c.args.form.now))
