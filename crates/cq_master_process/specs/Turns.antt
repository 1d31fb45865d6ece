-- The turns of all servers, and for which of them something still waits behind these.
use Rattle.std.specs.Prelude.{◌≡◌, ℕ, ◌<◌, ◌≤◌, List, [], true, Option, None, Some, ◌⊎◌}
use Rattle.cq_base.specs.declared.party.Party.{Party}
use Rattle.cq_base.specs.declared.party.Party.TheVariants.{Server}
use Rattle.cq_chain.specs.declared.master.Master as rust_master
use Rattle.cq_chain.specs.Masters.{Master}
use Rattle.cq_chain.specs.Messages.{Message}
use Rattle.cq_chain.specs.Stands.{MasterStandsFor}
use Rattle.cq_master_process.specs.declared.process.MasterProcess.{MasterProcess}
use Rattle.cq_master_process.specs.Links.{gone_of, put_of}
use Rattle.cq_master_process.specs.Putting.{AreInOrder, Puts, Sent, left_of}
use Rattle.cq_process.specs.declared.outgoing.TheConstants.{LINK_LIMIT}

-- nothing waits for the server, or its link has no number left
abbrev pub HasNoMore : (Party → List Message) → (ℕ → ℕ) → ℕ → Type 0
HasNoMore outbox numbers id = (outbox (Server id) ≡ []) ⊎ (LINK_LIMIT ≤ numbers id)

-- That is the first server for which something waits, as long as its link has a number left, if there is one.
abbrev pub IsFirstLeft : (Party → List Message) → (ℕ → ℕ) → Option ℕ → Type 0
IsFirstLeft outbox numbers None = (id : ℕ) → HasNoMore outbox numbers id
IsFirstLeft outbox numbers (Some first) = (outbox (Server first) ≡ [] → ⊥) × ((numbers first < LINK_LIMIT) × ((id : ℕ) → id < first → HasNoMore outbox numbers id))

-- it is, of whatever the core stands for
abbrev pub IsLeft : rust_master.Master → (ℕ → ℕ) → Option ℕ → Type 0
IsLeft core numbers first = (m : Master) (outbox : Party → List Message) → MasterStandsFor core m outbox → IsFirstLeft outbox numbers first

-- All that waits is put, server by server, as far as there is memory; and that is the first server for which something still waits.
pub record HasTurns (p q : MasterProcess) (told : List ℕ) (waits : Option ℕ) : Type 0 where
  pub messages : List Sent
  pub puts : Puts p q messages told
  pub most : ℕ
  pub order : AreInOrder 0 messages most
  -- what waited for servers that are gone is put and thrown away, whatever memory there is
  pub thrown : (m : Master) (outbox : Party → List Message) → MasterStandsFor p.core m outbox → (id : ℕ) → gone_of p.links id ≡ true → HasNoMore (left_of outbox messages) (put_of q.links) id
  pub left : IsLeft q.core (put_of q.links) waits
