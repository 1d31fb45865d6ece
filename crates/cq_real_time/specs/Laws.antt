-- Laws of orders in time.
use Rattle.std.specs.Prelude.{◌≡◌, ◌≤◌, ℕ, List, [], false}
use Rattle.cq_base.specs.declared.party.Party.TheVariants as parties
use Rattle.cq_events.specs.Runs.{world_after}
use Rattle.cq_events.specs.Worlds.{first_world, is_in, channel}
use Rattle.cq_events.specs.declared.event.Event.{Event}

-- Nothing is on its way to a server that never joined, and was no member of the first chain: from no server, and not from the
-- master.
abbrev pub NothingGoesToUnknownServers : Type 0
NothingGoesToUnknownServers = (size : ℕ) (events : List Event) (id : ℕ) → 1 ≤ size → is_in (world_after (first_world size) events).master.used id ≡ false
    → (channel (world_after (first_world size) events) parties.Master (parties.Server id) ≡ [])
    × ((p : ℕ) → channel (world_after (first_world size) events) (parties.Server p) (parties.Server id) ≡ [])
