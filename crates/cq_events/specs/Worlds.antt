-- The world: all servers, what waits in their outboxes, and what stands in the links between parties.
use Rattle.std.specs.Prelude.{◌≡◌, ℕ, ◌==◌, ◌&&◌, List, [], ◌++◌, false, if◌then◌else◌}
use Rattle.cq_base.specs.declared.ask.Entry.{Entry}
use Rattle.cq_base.specs.declared.party.Party.{Party}
use Rattle.cq_base.specs.declared.party.Party.TheVariants as parties
use Rattle.cq_chain.specs.Masters.{Master, Order, first_master}
pub use Rattle.cq_chain.specs.Masters.{is_in}
unfoldable pub use Rattle.cq_chain.specs.Masters.{numbers_from}
use Rattle.cq_chain.specs.Messages.{Message}
use Rattle.cq_chain.specs.Parties.{same, addressed}
use Rattle.cq_chain.specs.Servers.{Server, alone, first_member, joining}
use Rattle.cq_chain.specs.Steps.{Step}

-- The world at one moment.
pub record World : Type 0 where
  -- the state of each server, by its number
  pub server : ℕ → Server
  -- what waits at one party for another, in order
  pub outbox : Party → Party → List Message
  -- what stands in the link from one party to another, in order
  pub link : Party → Party → List Message
  -- what the master knows
  pub master : Master

-- the first world, of so many servers: they stand in a line, and nothing is on its way
unfoldable pub first_world : ℕ → World
first_world size = record {
  server = λ id. if is_in (numbers_from 1 size) id then first_member size id else joining;
  outbox = λ a b. [];
  link = λ a b. [];
  master = first_master size;
}

-- the same but at one number
abbrev pub set_at : {A : Type 0} → (ℕ → A) → ℕ → A → ℕ → A
set_at f id a other = if other == id then a else f other

-- the same but from one party to one other
abbrev pub set_pair : {A : Type 0} → (Party → Party → A) → Party → Party → A → Party → Party → A
set_pair f from to a x y = if same x from && same y to then a else f x y

-- what waits after a party sent these
abbrev pub sends : (Party → Party → List Message) → Party → List (Party × Message) → Party → Party → List Message
sends outbox from sent x y = if same x from then outbox x y ++ addressed y sent else outbox x y

-- after a step of a server
abbrev pub stepped : World → ℕ → Step → World
stepped w id step = record w {
  server = set_at w.server id step.server;
  outbox = sends w.outbox (parties.Server id) step.sent;
}

-- after an order of the master
abbrev pub ordered : World → Order → World
ordered w order = record w {
  outbox = sends w.outbox parties.Master order.said;
  master = order.master;
}

-- All that is on its way from one party to another: first what stands in the link, then what waits.
abbrev pub channel : World → Party → Party → List Message
channel w from to = w.link from to ++ w.outbox from to

-- One server alone, at rest behind these entries: nothing is on its way.
pub record IsAlone (entries : List Entry) (w : World) : Type 0 where
  pub server : w.server 1 ≡ alone entries
  pub others : (id : ℕ) → (1 == id) ≡ false → w.server id ≡ joining
  pub outbox : (from to : Party) → w.outbox from to ≡ []
  pub link : (from to : Party) → w.link from to ≡ []
  pub master : w.master ≡ first_master 1
