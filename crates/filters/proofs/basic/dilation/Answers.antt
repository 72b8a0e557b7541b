use Rattle.std.proofs.Common.{◌∙◌}
use Rattle.forms.specs.Faults.{fault_number}
use Rattle.forms.specs.Parts.{terms_of}
use Rattle.filters.proofs.Truths.{dilation_made}
use Rattle.filters.proofs.Unions.{never_declined}
use Rattle.filters.proofs.Laws.{dilates}
use Rattle.filters.proofs.basic.dilation.Goals as goal

pub unreachable-requires : goal.unreachable-requires
unreachable-requires c =
    let d = dilation_made c.args.size.height c.args.size.width c.args.size.sides in
    never_declined (fault_number c.in_default.field-0) d.0 (c.in_default.ensures ∙ d.1)

pub returns-clause-truth : goal.returns-clause-truth
returns-clause-truth c = dilates c.args.size.height c.args.size.width c.args.size.sides (terms_of c.in-Ok.form) c.in-Ok.ensures
