-- The slots that are left have the same messages.
use Rattle.std.proofs.Common.{◌≡◌, ◌∙◌, ap, sym, subst, length, arith}
use Rattle.cq_messages.specs.within.Indexed.{IsIndexed}
use Rattle.cq_messages.specs.Slots.{live}
use Rattle.cq_messages.proofs.Gathering.{live-full, indexed-gathered}
use Rattle.cq_messages.proofs.Passing.{live-short}
use Rattle.cq_messages.proofs.messages.Messages.compact.Goals as goal

pub overflow_sub-deleted : goal.overflow_sub-deleted
overflow_sub-deleted c =
    let short = live-short c.self.inside.slots.items in
    let count = c.self.invariant.1 in
    omega arith

pub invariant_of-self : goal.invariant_of-self
invariant_of-self c =
    let ss = c.self.inside.slots.items in
    let same : live c.compact.new.slots.items ≡ live ss = ap live c.compact.ensures.slots ∙ live-full ss in (
      subst (λ xs. IsIndexed xs c.compact.new.lead_times c.compact.new.flight_ends c.self.inside.groups) (sym c.compact.ensures.slots)
          (indexed-gathered ss c.self.inside.lead_times c.compact.new.lead_times c.self.inside.flight_ends c.compact.new.flight_ends c.self.inside.groups c.compact.ensures.lead_times c.compact.ensures.flight_ends c.self.invariant.0),
      c.self.invariant.1 ∙ ap length (sym same),
    )

pub returns-then-deleted-self : goal.returns-then-deleted-self
returns-then-deleted-self c = ap live c.compact.ensures.slots ∙ live-full c.self.inside.slots.items ∙ c.self.view_is
