use Rattle.std.proofs.Common.{◌≡◌}
use Rattle.cq_link.specs.Links.{taker_link}
use Rattle.cq_link_tests.proofs.links.take_numbers.Given as goal

abbrev pub invariant-loop : goal.invariant-loop
invariant-loop l = taker_link l.taker ≡ taker_link l.initial.taker
