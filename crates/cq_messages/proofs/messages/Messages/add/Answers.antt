-- The messages before the new one are those that there were.
use Rattle.std.proofs.Common.{◌≡◌, ◌∙◌, ap, sym, subst, arith, length}
use Rattle.cq_base.specs.Relations.{Among}
use Rattle.cq_messages.specs.Slots.{live}
use Rattle.cq_messages.proofs.Passing.{live-short}
use Rattle.cq_messages.proofs.messages.Messages.add.Goals as goal

pub append-requires-clause-order : goal.append-requires-clause-order
append-requires-clause-order c = λ m at. c.requires.order m (subst (Among m) (c.make_place.ensures.same ∙ c.self.view_is) at)

pub overflow_add-self : goal.overflow_add-self
overflow_add-self c =
    let counted : c.self.inside.count ≡ length (live c.make_place.new.slots.items) = c.self.invariant.1 ∙ sym (ap length c.make_place.ensures.same) in
    let short = live-short c.make_place.new.slots.items in
    let room = c.in_ok-make_place.ensures.slots in
    omega arith
