-- What a command makes the process do by itself, before its turns.
use Rattle.std.specs.Prelude.{◌≡◌, ℕ, ◌+◌, ◌==◌, ◌&&◌, List, Bool, true, false, if◌then◌else◌}
use Rattle.cq_base.specs.declared.party.Party.{Party}
use Rattle.cq_base.specs.declared.party.Party.TheVariants as parties
use Rattle.cq_chain.specs.declared.message.Message as rust
use Rattle.cq_chain.specs.Stands.{KeepsMaster}
use Rattle.cq_chain_wire.specs.Limits.{IsMessage}
use Rattle.cq_events.specs.Actions.{Action, Took, Detected, Joined}
use Rattle.cq_frames.specs.declared.command.Command.{Command}
use Rattle.cq_frames.specs.declared.command.Command.TheVariants as commands
use Rattle.cq_frames.specs.declared.number.PieceNumber.{PieceNumber}
use Rattle.cq_master_process.specs.declared.process.MasterProcess.{MasterProcess}
use Rattle.cq_master_process.specs.Cores.{Acts, piece_of}
use Rattle.cq_master_process.specs.Links.{counted, gone_of, put_of, taken_of, with_one}

-- Nothing changes: the core stands for all that it stood for.
pub record Keeps (p q : MasterProcess) : Type 0 where
  pub core : KeepsMaster p.core q.core
  pub taken : taken_of q.links ≡ taken_of p.links
  pub put : put_of q.links ≡ put_of p.links
  pub gone : gone_of q.links ≡ gone_of p.links

-- The core does that, and nothing else changes.
pub record Orders (action : Action) (p q : MasterProcess) : Type 0 where
  pub done : Acts action p.core q.core
  pub taken : taken_of q.links ≡ taken_of p.links
  pub put : put_of q.links ≡ put_of p.links
  pub gone : gone_of q.links ≡ gone_of p.links

-- whether the piece of that number is the next one of a server: it isn't gone, and the piece is the first one of the message behind the
-- last one
abbrev pub is_in_turn : MasterProcess → ℕ → PieceNumber → Bool
is_in_turn p from number = if gone_of p.links from then false else (number.index == 0) && (number.message == taken_of p.links from + 1)

-- The core takes a message of a server, which counts.
pub record TakesMessage (p q : MasterProcess) (from : ℕ) (x : rust.Message) : Type 0 where
  pub done : Acts (Took (parties.Server from) x) p.core q.core
  pub taken : taken_of q.links ≡ counted (taken_of p.links) from
  pub put : put_of q.links ≡ put_of p.links
  pub gone : gone_of q.links ≡ gone_of p.links

-- The piece is a whole message, the next one of the server, and the core takes it.
pub record Takes (p q : MasterProcess) (from : ℕ) (number : PieceNumber) (piece : List ℕ) : Type 0 where
  pub in_turn : is_in_turn p from number ≡ true
  pub message : rust.Message
  pub fits : IsMessage message
  pub read : piece ≡ piece_of message
  pub takes : TakesMessage p q from message

-- A server more is gone, and nothing else changes.
pub record Forgets (p q : MasterProcess) (server : ℕ) : Type 0 where
  pub core : KeepsMaster p.core q.core
  pub taken : taken_of q.links ≡ taken_of p.links
  pub put : put_of q.links ≡ put_of p.links
  pub gone : gone_of q.links ≡ with_one (gone_of p.links) server

-- It takes messages of servers alone.
abbrev pub TakesFrom : MasterProcess → MasterProcess → Party → PieceNumber → List ℕ → Type 0
TakesFrom p q parties.Master number piece = ⊥
TakesFrom p q parties.Clients number piece = ⊥
TakesFrom p q (parties.Server from) number piece = Takes p q from number piece

-- What the process does of a command that it doesn't refuse.
abbrev pub Does : MasterProcess → Command → MasterProcess → Type 0
Does p (commands.Arrive stream clock request) q = ⊥
Does p (commands.Ask query) q = ⊥
Does p (commands.Take from number piece) q = TakesFrom p q from number piece
Does p (commands.Detect server) q = Orders (Detected server) p q
Does p (commands.Join server) q = Orders (Joined server) p q
Does p (commands.More to) q = Keeps p q
Does p (commands.Gone server) q = Forgets p q server
Does p commands.Save q = ⊥
Does p (commands.Load chunk) q = ⊥
