-- A chain that begins with a store: the world of one server that has a list of entries already, and how it comes about.
use Rattle.std.specs.Prelude.{◌≡◌, ◌≤◌, ℕ, ◌==◌, List, [], ◌∷◌, ◌++◌, length, false, if◌then◌else◌}
use Rattle.cq_base.specs.declared.ask.Entry.{Entry}
use Rattle.cq_base.specs.declared.limits.TheConstants.{HISTORY_LIMIT}
use Rattle.cq_base.specs.declared.party.Party.{Party}
use Rattle.cq_base.specs.declared.party.Party.TheVariants as parties
use Rattle.cq_base.specs.Relations.{Among, IsPrefix}
use Rattle.cq_chain.specs.declared.message.Answer.{Answer}
use Rattle.cq_chain.specs.declared.message.Message.TheVariants as stored
use Rattle.cq_chain.specs.declared.server.Server as rust_server
use Rattle.cq_chain.specs.Masters.{first_master}
use Rattle.cq_chain.specs.Parties.{same}
use Rattle.cq_chain.specs.Servers.{alone, joining}
use Rattle.cq_events.specs.Actions.{Action, CoreState, StandsAs, put_to}
use Rattle.cq_events.specs.Acts.{ServerActs}
use Rattle.cq_events.specs.Orders.{AreEnabled}
use Rattle.cq_events.specs.Runs.{world_after, committed}
use Rattle.cq_events.specs.Worlds.{World, IsAlone, first_world, is_in}
use Rattle.cq_events.specs.declared.event.Event.{Event}
use Rattle.cq_events.specs.declared.event.Event.TheVariants as events
use Rattle.cq_store.specs.Laws.{Stamped}
use Rattle.cq_world.specs.Laws.{IsOfTheObject}
use Rattle.cq_real_time.specs.Interleavings.{Acted, IsStart, IsInTimeFrom}

-- The world that begins with these entries. Server 1 is the only server of the first chain: it is head, acts and is full, and
-- has them all, with `acked` and `floor` at their number. Nothing waits at any party, and no link has a message.
unfoldable pub loaded : List Entry → World
loaded entries = record {
  server = λ id. if id == 1 then alone entries else joining;
  outbox = λ a b. [];
  link = λ a b. [];
  master = first_master 1;
}

-- The world that begins with no entries is the first world of one server.
abbrev pub NoneLoadedIsFirst : Type 0
NoneLoadedIsFirst = loaded [] ≡ first_world 1

-- It is the only world of one server alone that is at rest behind the entries.
abbrev pub LoadedWorldsAreAlone : Type 0
LoadedWorldsAreAlone = (entries : List Entry) → IsAlone entries (loaded entries) × ((w : World) → IsAlone entries w → w ≡ loaded entries)

-- What happens in a chain of one that takes just these entries: each request arrives while the clock shows its entry's moment
-- (in ms), and its answer is put to the clients.
abbrev pub arrivals_of : List Entry → List Event
arrivals_of [] = []
arrivals_of (e ∷ entries) = events.Arrive 1 e.moment e.request ∷ events.Put (parties.Server 1) parties.Clients ∷ arrivals_of entries

-- Where moments never fall, and there are at most as many entries as a history may have (2^62), each of these events is enabled
-- from the first world of one server on, and the world behind them is the one that begins with the entries.
abbrev pub LoadedWorldsAreReached : Type 0
LoadedWorldsAreReached = (entries : List Entry) → Stamped entries → length entries ≤ HISTORY_LIMIT
    → AreEnabled (first_world 1) (arrivals_of entries) × (world_after (first_world 1) (arrivals_of entries) ≡ loaded entries)

-- So it is a world in which parties may begin, to which these events led. The master knows server 1 alone, and it alone is full.
abbrev pub LoadedWorldsAreStarts : Type 0
LoadedWorldsAreStarts = (entries : List Entry) → Stamped entries → length entries ≤ HISTORY_LIMIT
    → (s : IsStart (loaded entries)) × (s.size ≡ 1) × (s.past ≡ arrivals_of entries)
    × ((id : ℕ) → (is_in (loaded entries).master.used id ≡ (id == 1)) × (((loaded entries).server id).full ≡ (id == 1)))

-- What any server has at any moment of a run is such a list. So what is saved can be loaded, in a run that began with a store, too.
abbrev pub HistoriesMayBeLoaded : Type 0
HistoriesMayBeLoaded = (start : World) (before : List Event) (id : ℕ) → IsStart start
    → Stamped ((world_after start before).server id).entries × (length ((world_after start before).server id).entries ≤ HISTORY_LIMIT)

-- Its parties begin so: server 1 by a core that stands for the server of a chain of one, at rest behind the entries, with nothing
-- that waits; and all others as in the first world of one server.
abbrev pub LoadedPartiesAct : Type 0
LoadedPartiesAct = (entries : List Entry) (actions : List Action)
    → ((a b : CoreState rust_server.Server) → StandsAs a (alone entries) (λ to. []) → ServerActs a actions b → Acted (loaded entries) (parties.Server 1) actions)
    × ((p : Party) → same (parties.Server 1) p ≡ false → Acted (first_world 1) p actions → Acted (loaded entries) p actions)

-- What an order in time from that world on comes to.
pub record GoesOnFromStore (entries : List Entry) (actions : Party → List Action) (order : List Event) : Type 0 where
  -- each event of it is enabled, and it is the end of a run of the first world of one server
  pub enabled : AreEnabled (loaded entries) order
  pub whole : AreEnabled (first_world 1) (arrivals_of entries ++ order)
  -- the committed list of that run begins with the entries
  pub begins : IsPrefix entries (committed 1 (arrivals_of entries ++ order))
  -- each answer that a party put to the clients is one queue object's, over that list
  pub answers : (from : Party) (a : Answer) → Among (stored.Answer a) (put_to parties.Clients (actions from)) → IsOfTheObject 1 (arrivals_of entries ++ order) a

-- An order in time from a loaded store on goes on where the run ended that made the store.
abbrev pub OrdersFromStoresGoOn : Type 0
OrdersFromStoresGoOn = (entries : List Entry) (actions : Party → List Action) (order : List Event) → Stamped entries → length entries ≤ HISTORY_LIMIT
    → IsInTimeFrom (loaded entries) actions order → GoesOnFromStore entries actions order
