-- Groups with a message in flight are closed.
use Rattle.cq_store.proofs.OfLaws.Flights.{hands_sent, none_in_flight}
use Rattle.cq_store.proofs.laws.no_handing_while_in_flight.Goals as goal

pub returns : goal.returns
returns c = record { sent = hands_sent; landed = none_in_flight }
