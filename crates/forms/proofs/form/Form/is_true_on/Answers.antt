use Rattle.std.proofs.Common.{◌≡◌, ℕ, List, sym, ◌∙◌}
use Rattle.forms.specs.Entering.{covers}
use Rattle.forms.specs.Parts.{terms_of}
use Rattle.forms.proofs.Bits.{bridge}
use Rattle.forms.proofs.Entered.{covers_true, true_covers}
use Rattle.forms.proofs.Whole.{sets_form}
use Rattle.forms.proofs.form.Form.is_true_on.Goals as goal

pub returns : goal.returns
returns c =
    let f : List ℕ = terms_of c.args.self.now in
    let s : ℕ = c.args.set in
    let w = sets_form c.args.self.now in
    let e : c.covers.result ≡ covers f s = c.covers.ensures in
    record {
      terms = ((λ q. covers_true f s (sym e ∙ q)), λ h. e ∙ true_covers f s h);
      cells = (
        (λ q. let h = covers_true f s (sym e ∙ q) in (h.0, h.1, (bridge h.0 s (w h.0 h.1).1).0 h.2)),
        λ h. e ∙ true_covers f s (h.0, h.1, (bridge h.0 s (w h.0 h.1).1).1 h.2),
      );
    }
