use Rattle.std.proofs.Common.{◌≡◌}
use Rattle.cq_link.specs.Inboxes.{take_inbox}
use Rattle.cq_link_tests.proofs.links.take_requests.Given as goal

abbrev pub invariant-loop : goal.invariant-loop
invariant-loop g l = take_inbox l.end ≡ take_inbox l.initial.end
