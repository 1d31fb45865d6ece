-- The slots are in order.
use Rattle.std.proofs.Common.{◌≡◌, arith, subst, sym}
use Rattle.std.proofs.lemmas.List.{get_or_default}
use Rattle.cq_messages.specs.Slots.{gone}
use Rattle.cq_messages.proofs.Ascending.{ascending-none}
use Rattle.cq_messages.proofs.places.place_of.Goals as goal
use Rattle.cq_messages.proofs.places.place_of.Goals.{else-place-slots-via-then-place-slots+else-slots-place, else-place-slots-via-else-place-slots}

pub returns-else-place-slots-clause-none : goal.returns-else-place-slots-clause-none
returns-else-place-slots-clause-none c = λ no.
    let slots = c.args.slots.now in
    let place = c.count_below-place.result in
    ascending-none slots place c.args.sequence c.requires c.count_below-place.ensures.below c.count_below-place.ensures.above
    (λ inside e. elim c.else-place-slots.branch [
      | else-place-slots-via-then-place-slots+else-slots-place w ↦ w.if-slots-place.false (subst (λ s. s.sequence ≡ c.args.sequence) (sym (get_or_default slots place w.index-slots-place.result gone inside)) e)
      | else-place-slots-via-else-place-slots w ↦ omega arith
    ])
