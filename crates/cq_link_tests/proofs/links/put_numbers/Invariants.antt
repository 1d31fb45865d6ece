use Rattle.std.proofs.Common.{◌≡◌}
use Rattle.cq_link.specs.Links.{putter_link}
use Rattle.cq_link_tests.proofs.links.put_numbers.Given as goal

abbrev pub invariant-loop : goal.invariant-loop
invariant-loop l = putter_link l.putter ≡ putter_link l.initial.putter
