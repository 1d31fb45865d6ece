-- The messages of the numbers that are handed out are those that are handed out.
use Rattle.std.proofs.Common.{◌≡◌, ◌∙◌, ap, sym, subst, map, IfOk}
use Rattle.cq_base.specs.queue.Receiving.{to_hand, delivery_of}
use Rattle.cq_messages.specs.Changes.{numbers_to_hand}
use Rattle.cq_messages.specs.within.Offered.{numbered}
use Rattle.cq_messages.specs.Slots.{live}
use Rattle.cq_messages.proofs.Offering.{numbered-handed}
use Rattle.cq_messages.proofs.Rising.{live-rising}
use Rattle.cq_messages.proofs.messages.Messages.offer.Goals as goal

pub returns : goal.returns
returns c =
    let size = c.args.size in
    let t = c.args.moment in
    let slots = c.self.inside.slots.items in
    let rising = live-rising 0 slots c.self.invariant.0.ascending in
    let numbers = c.as_slice.ensures.value ∙ c.numbers_to_hand-numbers.ensures ∙ ap (numbers_to_hand size t) (sym c.self.view_is) in
    let same = ap (λ ss. numbered (live ss) c.as_slice.result.now) c.deref.ensures.value ∙ ap (numbered (live slots)) numbers ∙ numbered-handed 0 size t (live slots) rising ∙ ap (to_hand size t) c.self.view_is in
    subst (λ ms. IfOk c.deliveries_of.result (λ deliveries. deliveries.items ≡ map (delivery_of c.args.incarnation) ms)) same c.deliveries_of.ensures
