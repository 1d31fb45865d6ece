-- The group has one oldest message.
use Rattle.std.proofs.Common.{◌≡◌, ◌∙◌, ap, get_or, max, set}
use Rattle.cq_messages.specs.within.Touched.{IsHead}
use Rattle.cq_messages.proofs.Remaining.{one-head}
use Rattle.cq_messages.proofs.heads.raise_wait.Goals as goal

pub returns-in-Some-clause-head : goal.returns-in-Some-clause-head
returns-in-Some-clause-head c = λ h head.
    let lead_times = c.args.lead_times.now in
    let until = c.args.until in
    let found : IsHead c.args.slots.now c.args.group.now c.in-Some.head = c.in-Some.ensures.some in
    let wait : c.max-wait.result ≡ max (get_or lead_times c.in-Some.head 0) until = c.max-wait.ensures ∙ ap (λ n. max n until) c.get.ensures in
    c.set.ensures ∙ ap (set lead_times c.in-Some.head) wait ∙ ap (λ k. set lead_times k (max (get_or lead_times k 0) until)) (one-head c.args.slots.now c.args.group.now c.in-Some.head h c.requires.ascending found head)
