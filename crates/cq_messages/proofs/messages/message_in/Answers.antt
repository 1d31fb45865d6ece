-- The message stands at the place of its number.
use Rattle.std.proofs.Common.{◌∙◌, ap, sym, refl}
use Rattle.cq_messages.specs.Slots.{live, gone}
use Rattle.cq_messages.proofs.Values.{find-no-number, unnumbered, copied-map, message-found}
use Rattle.std.proofs.lemmas.List.{get_or_default}
use Rattle.cq_messages.proofs.messages.message_in.Goals as goal

pub returns-in-None : goal.returns-in-None
returns-in-None c = sym (find-no-number (live c.args.slots.now) c.args.sequence (unnumbered c.args.slots.now c.args.sequence c.requires (c.in-None.ensures.none refl)))

pub returns-in-Some : goal.returns-in-Some
returns-in-Some c =
    let ss = c.args.slots.now in
    copied-map c.as_ref.result ∙ c.as_ref.ensures.value ∙ ap (λ s. s.message) (get_or_default ss c.in-Some.place c.index-slots-place.result gone c.in-Some.ensures.within)
    ∙ message-found ss c.in-Some.place c.args.sequence c.requires c.in-Some.ensures.within c.in-Some.ensures.found
