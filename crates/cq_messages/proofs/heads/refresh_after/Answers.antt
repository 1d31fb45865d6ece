-- A timeout that ends later can only raise what stands there.
use Rattle.std.proofs.Common.{◌∙◌, ap, set}
use Rattle.cq_messages.proofs.heads.refresh_after.Goals as goal

pub returns-then-before-until-clause-head : goal.returns-then-before-until-clause-head
returns-then-before-until-clause-head c = λ h head. c.raise_wait.ensures.head h head ∙ ap (set c.args.lead_times.now h) (c.requires.raised c.if-before-until.true h head)
