use Rattle.cq_link.specs.Clients.{AreTied, AreFresh, AreOf}
use Rattle.cq_link.proofs.clients.wire_clients.Given as goal

abbrev pub invariant-loop : goal.invariant-loop
invariant-loop g l = record { tied : AreTied l.wires; fresh : AreFresh l.wires; count : AreOf l.counter l.wires }
