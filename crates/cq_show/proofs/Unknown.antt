-- Servers that aren't there.
use Rattle.std.proofs.Common.{◌≡◌, ℕ, ◌∙◌, List, [], Bool, true, false, Option, None, Some, sym}
use Rattle.cq_base.specs.declared.party.Party.{Party}
use Rattle.cq_base.specs.declared.party.Party.TheVariants as parties
use Rattle.cq_chain.specs.declared.server.Server as rust_server
use Rattle.cq_chain.specs.Messages.{Message}
use Rattle.cq_chain.specs.Servers.{Server}
use Rattle.cq_events.specs.Worlds.{World, is_in}
use Rattle.cq_world.specs.declared.sim.Sim.{Sim}
use Rattle.cq_world.specs.Stands.{IsKeptAs, StandsFor}
use Rattle.cq_world.specs.within.Kept.{server_at}
use Rattle.cq_world.proofs.OfSim.Stands.{holds}

kept-nothing : (o : Option rust_server.Server) (is : Bool) (s : Server) (outbox : Party → List Message) → is ≡ false → IsKeptAs o is s outbox → (to : Party) → outbox to ≡ []
kept-nothing None is s outbox unknown h = h.2
kept-nothing (Some kept) is s outbox unknown h = let never = sym unknown ∙ h.0 in cc

-- nothing waits at one
pub nothing-waits : (sim : Sim) (w : World) → StandsFor sim w → (id : ℕ) (to : Party) → is_in w.master.used id ≡ false → w.outbox (parties.Server id) to ≡ []
nothing-waits sim w h id to unknown = kept-nothing (server_at sim.servers id) (is_in w.master.used id) (w.server id) (w.outbox (parties.Server id)) unknown ((holds sim w h).servers id) to
