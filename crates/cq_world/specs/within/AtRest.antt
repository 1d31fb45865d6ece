-- A server that is alone and at rest, by what is kept of it.
use Rattle.std.specs.Prelude.{◌≡◌, List, []}
use Rattle.cq_base.specs.declared.ask.Entry.{Entry}
use Rattle.cq_base.specs.declared.party.Party.{Party}
use Rattle.cq_chain.specs.declared.server.Server as rust_server
use Rattle.cq_chain.specs.Messages.{Message}
use Rattle.cq_chain.specs.Servers.{Server, alone}
use Rattle.cq_chain.specs.Stands as chain
use Rattle.cq_store.specs.Stands as stores

-- Whatever it stands for, that is a server alone of which nothing waits, and the store stands for its entries; and it stands for such a
-- server behind all entries for which the store stands.
pub record IsAtRest (kept : rust_server.Server) (store : stores.StoreKept) : Type 0 where
  pub state : (s : Server) (outbox : Party → List Message) → chain.StandsFor kept s outbox → s ≡ alone s.entries
  pub nothing : (s : Server) (outbox : Party → List Message) → chain.StandsFor kept s outbox → (to : Party) → outbox to ≡ []
  pub stands : (s : Server) (outbox : Party → List Message) → chain.StandsFor kept s outbox → stores.StandsFor store s.entries
  pub again : (entries : List Entry) (outbox : Party → List Message) → stores.StandsFor store entries → ((to : Party) → outbox to ≡ []) → chain.StandsFor kept (alone entries) outbox
