-- The group has one oldest message.
use Rattle.std.proofs.Common.{◌∙◌, ap, set}
use Rattle.cq_messages.specs.within.Touched.{IsHead}
use Rattle.cq_messages.proofs.Remaining.{one-head}
use Rattle.cq_messages.proofs.heads.refresh.Goals as goal

pub returns-in-Some-clause-head : goal.returns-in-Some-clause-head
returns-in-Some-clause-head c = λ h head.
    let found : IsHead c.args.slots.now c.args.group.now c.in-Some.head = c.in-Some.ensures.some in
    c.set.ensures ∙ ap (λ k. set c.args.lead_times.now k c.busy_of-busy.result) (one-head c.args.slots.now c.args.group.now c.in-Some.head h c.requires.ascending found head) ∙ ap (set c.args.lead_times.now h) c.busy_of-busy.ensures
