use Rattle.std.proofs.Common.{ap}
use Rattle.crossbeam_channel.specs.Claims.{view}
use Rattle.cq_link.proofs.Deliver.{begins, cuts_first, cuts_second}
use Rattle.cq_link.proofs.inbox.Inbox.make.Goals as goal

pub bounded_with-requires-clause-rule : goal.bounded_with-requires-clause-rule
bounded_with-requires-clause-rule c = begins

pub another-two-requires-clause-rule : goal.another-two-requires-clause-rule
another-two-requires-clause-rule c = let is = c.in_ok-first.ensures.3 in cuts_first c.in_ok-first.one.id (view c.in_ok-first.one) (ap (λ v. v.first) is, ap (λ v. v.second) is, ap (λ v. v.takes) is)

pub another-three-requires-clause-rule : goal.another-three-requires-clause-rule
another-three-requires-clause-rule c = let is = c.another-two.ensures.rule.1 in cuts_second c.another-two.result.id (view c.another-two.result) (ap (λ v. v.second) is) (ap (λ v. v.takes) is)
