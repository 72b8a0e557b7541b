use Rattle.std.proofs.Common.{ℕ, ◌-◌, List, length, get_or, sym, ap, ◌∙◌, arith}
use Rattle.std.proofs.lemmas.List.{get_or-replicate, get_or_append_left, get_or-append_right}
use Rattle.elements.specs.declared.event.Event.{Event}
use Rattle.images.proofs.log.calls.fill_from.Goals as goal

pub returns : goal.returns
returns c =
    let front : List Event = c.split_at_mut-rest.result.0.now in
    let before : List Event = c.split_at_mut-rest.result.1.now in
    let after : List Event = c.fill.new.self in
    let start : ℕ = c.args.start in
    let parts = c.split_at_mut-rest.ensures in record {
      inside = λ k d l m.
          get_or-append_right front after start k d parts.front_len l ∙ ap (λ (xs : List Event). get_or xs (k - start) d) (c.fill.ensures.after (λ y e. e))
          ∙ get_or-replicate (length before) (k - start) c.args.event d (omega (arith, parts.back_len));
      kept = λ k d l.
          get_or_append_left front after d k (omega (arith, parts.front_len))
          ∙ sym (ap (λ (xs : List Event). get_or xs k d) parts.value ∙ get_or_append_left front before d k (omega (arith, parts.front_len)));
    }
