use Rattle.std.proofs.Common.{◌≡◌}
use Rattle.cq_link.specs.Inboxes.{put_inbox, is_second}
use Rattle.cq_link_tests.proofs.links.put_requests.Given as goal

abbrev pub invariant-loop : goal.invariant-loop
invariant-loop g l = (put_inbox l.end ≡ put_inbox l.initial.end) × (is_second l.end ≡ is_second l.initial.end)
