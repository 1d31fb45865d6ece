-- Groups with a message in flight are closed.
use Rattle.cq_store.proofs.OfLaws.Flights.{hands_sent, none_in_flight}
use Rattle.cq_world.proofs.laws.no_handing_while_in_flight.Goals as goal

pub returns : goal.returns
returns c = record { sent = λ size events some before rest e split. hands_sent before e; landed = λ size events some before rest e split. none_in_flight before e }
