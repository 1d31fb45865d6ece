-- Worked events and decisions of nodes, each computed by the definitions to what the rules say. The results were worked out
-- by hand.
use Rattle.std.proofs.Common.{◌≡◌, ℕ, List, [], ◌∷◌, true, false, refl}
use Rattle.cq_base.specs.declared.party.Party.TheVariants as parties
use Rattle.cq_events.specs.declared.event.Event.TheVariants as events
use Rattle.cq_live_plan.specs.declared.joins.Join.{Join}
use Rattle.cq_nodes.specs.Turns.{noting, each_of, take_of, put_of, joined_at}
use Rattle.cq_nodes.specs.declared.client_node.Due.TheVariants.{Next, Again, Back}
use Rattle.cq_nodes.specs.declared.client_node.Pace.{Pace}
use Rattle.cq_nodes.specs.within.Paces.{due_of, pace_after}

-- server 2 with links to the master and to server 1
takes : each_of (take_of 2) 2 ≡ events.Take parties.Master (parties.Server 2) ∷ events.Take (parties.Server 1) (parties.Server 2) ∷ []
takes = refl

puts : each_of (put_of 2) 2 ≡ events.Put (parties.Server 2) parties.Master ∷ events.Put (parties.Server 2) (parties.Server 1) ∷ []
puts = refl

crashed : noting true (events.Crash 1) (events.Take parties.Master (parties.Server 1) ∷ []) ≡ events.Take parties.Master (parties.Server 1) ∷ events.Crash 1 ∷ []
crashed = refl

-- server 4 joins from turn 7 on, and server 5 from turn 9
abbrev joins : List Join
joins = record { server = 4; after = 7 } ∷ record { server = 5; after = 9 } ∷ []

in_turn_6 : each_of (joined_at joins 6) 2 ≡ []
in_turn_6 = refl

in_turn_7 : each_of (joined_at joins 7) 2 ≡ events.Join 4 ∷ []
in_turn_7 = refl

in_turn_9 : each_of (joined_at joins 9) 2 ≡ events.Join 4 ∷ events.Join 5 ∷ []
in_turn_9 = refl

-- a client of three links asks, waits for 999 turns, and asks at the next link, the first behind the last
abbrev waits : ℕ → Pace
waits turns = record { target = 2; is_open = true; waited = turns }

asks : due_of (record { target = 0; is_open = false; waited = 3 }) ≡ Next
asks = refl

waits_on : due_of (waits 998) ≡ Back
waits_on = refl

counts : pace_after 3 (waits 998) ≡ waits 999
counts = refl

asks_again : due_of (waits 999) ≡ Again
asks_again = refl

goes_on : pace_after 3 (waits 999) ≡ record { target = 0; is_open = true; waited = 0 }
goes_on = refl
