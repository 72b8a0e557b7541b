use Rattle.std.proofs.Common.{◌≡◌, ℕ, ◌<◌, List, [], ◌∷◌, length, slice_index, bit_or, fold, ap, ◌∙◌, arith, rules}
use lib.Bits.{or_self}
use Rattle.forms.specs.Terms.{used}
use Rattle.forms.specs.Parts.{terms_of}
use Rattle.forms.proofs.Listed.{used_uses, uses_used}
use Rattle.forms.proofs.form.Form.used.Goals as goal

-- the first term once more changes nothing
from_first : (f : List ℕ) → 0 < length f → fold bit_or (slice_index f 0) f ≡ used f
from_first [] l = absurd (omega arith)
from_first (t ∷ f) l = ap (λ (s : ℕ). fold bit_or s f) (or_self t)

pub returns : goal.returns
returns c =
    let f : List ℕ = terms_of c.args.self.now in
    let whole : c.fold.result ≡ fold bit_or c.first.result f = search rules in
    let e : c.fold.result ≡ used f = whole ∙ ap (λ (s : ℕ). fold bit_or s f) c.first.ensures ∙ from_first f c.terms.ensures.some in
    record { value = e; cells = λ k. rw e (used_uses f k, uses_used f k) }
