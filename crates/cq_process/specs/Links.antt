-- The ends of all links of a process, each found by its party.
use Rattle.std.specs.Prelude.{◌≡◌, ℕ, ◌≤◌, List, [], Option, None, Some, Bool, true, false, if◌then◌else◌, Result, Ok, Err, OnOk, OnErr, IfErr}
use Rattle.std.specs.List.{list_any}
use Rattle.std.specs.Map.{lookup}
use Rattle.cq_base.specs.declared.party.Party.{Party}
use Rattle.cq_chain.specs.declared.message.Message as rust
use Rattle.cq_chain.specs.declared.server.Server as rust_server
use Rattle.cq_chain.specs.Messages as messages
use Rattle.cq_chain.specs.Parties.{same}
use Rattle.cq_chain.specs.Servers as states
use Rattle.cq_chain.specs.Stands.{Keeps, StandsFor}
use Rattle.cq_chain_wire.specs.declared.reader.Progress.{Progress}
use Rattle.cq_frames.specs.declared.number.PieceNumber.{PieceNumber}
use Rattle.cq_process.specs.declared.incoming.Incoming.{Incoming}
use Rattle.cq_process.specs.declared.incoming.TakeFault.{TakeFault}
use Rattle.cq_process.specs.declared.incoming.TakeFault.TheVariants.{NotNext}
use Rattle.cq_process.specs.declared.incoming.Taken.{Taken}
use Rattle.cq_process.specs.declared.incoming.Taken.TheVariants as taken_as
use Rattle.cq_process.specs.declared.outgoing.PutFault.{PutFault}
use Rattle.cq_process.specs.declared.outgoing.PutFault.TheVariants as put_faults
use Rattle.cq_process.specs.declared.outgoing.TheConstants.{LINK_LIMIT}
use Rattle.cq_process.specs.declared.outgoing.Written.{Written}
use Rattle.cq_process.specs.declared.outgoing.Written.TheVariants as written_as
use Rattle.cq_process.specs.Outgoing.{End, IsFresh, IsSpent}
use Rattle.cq_process.specs.Putting.{Idles, IsNumbered, OnMessage, OnNone, OnPiece, PutsNext, StandsWith, Throws, WritesOn}
use Rattle.cq_process.specs.Taking.{IsLeft, IsReadAs, IsRefusedFor, TakesNext, is_next, nothing, number_after, pieces_after, read_on}

-- the end of a party's link, if there is one
abbrev pub end_of : {E : Type 0} → List (Party × E) → Party → Option E
end_of ends party = lookup (same party) ends

-- the ends of all other links stay
abbrev pub ChangesOnly : {E : Type 0} → List (Party × E) → List (Party × E) → Party → Type 0
ChangesOnly old new party = (other : Party) → same party other ≡ false → end_of new other ≡ end_of old other

-- that party is one of these
abbrev pub is_gone : List Party → Party → Bool
is_gone gone party = list_any (same party) gone

-- one party more is gone
abbrev pub IsGoneToo : List Party → List Party → Party → Type 0
IsGoneToo old new party = (other : Party) → is_gone new other ≡ (if same party other then true else is_gone old other)

-- ---- what comes in

-- What came from a party: the number of the last message that was taken, 0 before the first one, and of the next one how many pieces
-- were read, and what was read of them.
pub record Received : Type 0 where
  pub taken : ℕ
  pub pieces : ℕ
  pub next : Progress

-- what an end has of it; nothing came where there is no end
abbrev pub received : Option Incoming → Received
received None = record { taken = 0; pieces = 0; next = nothing }
received (Some end) = record { taken = end.taken; pieces = end.pieces; next = end.next }

-- what came from a party
abbrev pub received_from : List (Party × Incoming) → Party → Received
received_from ends party = received (end_of ends party)

-- what was read of the next message is let go
abbrev pub LetsGo : Received → Received → Type 0
LetsGo before after = after ≡ record { taken = before.taken; pieces = 0; next = nothing }

-- What a call does with the piece of that number, by what came before it and behind it.
pub record TakesPiece (before after : Received) (old new : rust_server.Server) (from : Party) (number : PieceNumber) (piece : List ℕ) (result : Result Taken TakeFault) : Type 0 where
  -- a piece out of turn is refused, and only such a one
  pub out_of_turn : is_next number before.taken before.pieces ≡ false → result ≡ Err NotNext
  pub in_turn : is_next number before.taken before.pieces ≡ true → result ≡ Err NotNext → ⊥
  pub read : IsReadAs result (read_on piece before.next)
  pub counted : after.taken ≡ number_after result before.taken
  pub pieces : after.pieces ≡ pieces_after result before.pieces
  pub left : IsLeft result before.next (read_on piece before.next) after.next
  pub took : result ≡ Ok taken_as.Message → TakesNext (read_on piece before.next) old new from
  pub idle : (result ≡ Ok taken_as.Message → ⊥) → Keeps old new
  pub refused : (s : states.Server) (outbox : Party → List messages.Message) → StandsFor old s outbox → IsRefusedFor result from s after.next

-- ---- what goes out

-- the message that is being written, if there is one
abbrev pub held_at : Option End → Option rust.Message
held_at None = None
held_at (Some end) = end.held

-- for each party the message that is being written, if there is one
abbrev pub held_by : List (Party × End) → Party → Option rust.Message
held_by ends party = held_at (end_of ends party)

-- Nothing was put on the link.
pub record IsNew (end : End) : Type 0 where
  pub put : end.put ≡ 0
  pub pieces : end.pieces ≡ 0
  pub held : end.held ≡ None
  pub fresh : IsFresh end.writer

-- The link to that party has an end: the one that was there, or a new one.
abbrev pub IsOpened : Option End → Option End → Type 0
IsOpened before None = ⊥
IsOpened None (Some after) = IsNew after
IsOpened (Some before) (Some after) = after ≡ before

-- What a call writes of the first message for a party, by the end before it and behind it.
pub record PutsPiece (before after : End) (a b : rust_server.Server) (to : Party) (old new : List ℕ) (result : Result Written PutFault) : Type 0 where
  pub spent : IsSpent before → result ≡ Err put_faults.NumbersSpent
  pub unspent : (IsSpent before → ⊥) → result ≡ Err put_faults.NumbersSpent → ⊥
  pub numbers : IsNumbered result before after
  pub some : OnPiece result (WritesOn a b to before after old new)
  pub last : OnMessage result (PutsNext a b to before after old new)
  pub idle : OnNone result (Idles a b to before after)
  pub bytes : OnNone result (new ≡ old)
  pub held : result ≡ Ok written_as.Nothing → before.held ≡ None
  pub empty : result ≡ Ok written_as.Nothing → (s : states.Server) (outbox : Party → List messages.Message) → StandsFor a s outbox → outbox to ≡ []

-- The same of the ends of all links.
pub record PutsAt (before after : List (Party × End)) (a b : rust_server.Server) (to : Party) (old new : List ℕ) (result : Result Written PutFault) : Type 0 where
  pub was : End
  pub is_old : end_of before to ≡ Some was
  pub becomes : End
  pub is_new : end_of after to ≡ Some becomes
  pub puts : PutsPiece was becomes a b to old new result

-- What a call throws away that waits for a party.
pub record ThrowsAll (before after : End) (a b : rust_server.Server) (to : Party) (result : Result (Unit {0}) PutFault) : Type 0 where
  pub throws : Throws a b to before after
  pub held : OnOk result (after.held ≡ None)
  pub empty : OnOk result ((s : states.Server) (outbox : Party → List messages.Message) → StandsFor b s outbox → outbox to ≡ [])
  pub fault : IfErr result (λ fault. fault ≡ put_faults.NumbersSpent)
  pub spent : (back : Party → Option rust.Message) (s : states.Server) (outbox : Party → List messages.Message) → StandsWith a back before.held to s outbox → OnErr result (LINK_LIMIT ≤ after.put)

-- The same of the ends of all links. Where there is no end, nothing was to be put, and nothing is done.
abbrev pub ThrowsFrom : Option End → Option End → rust_server.Server → rust_server.Server → Party → Result (Unit {0}) PutFault → Type 0
ThrowsFrom None after a b to result = (after ≡ None) × (Keeps a b × (result ≡ Ok tt))
ThrowsFrom (Some before) None a b to result = ⊥
ThrowsFrom (Some before) (Some after) a b to result = ThrowsAll before after a b to result
