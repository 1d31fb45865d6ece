-- What writing the next piece of a message does, at the end of a link and to what a core stands for.
use Rattle.std.specs.Prelude.{◌≡◌, ℕ, ◌+◌, List, length, map, ◌++◌, Option, None, Some, Bool, true, false, Result, Ok, Err, if◌then◌else◌, ⊤}
use Rattle.cq_base.specs.declared.party.Party.{Party}
use Rattle.cq_chain.specs.declared.message.Message as rust
use Rattle.cq_chain.specs.declared.server.Server as rust_server
use Rattle.cq_chain.specs.Messages as messages
use Rattle.cq_chain.specs.Parties.{same}
use Rattle.cq_chain.specs.Servers as states
use Rattle.cq_chain_wire.specs.declared.writer.MessageWriter.{MessageWriter}
use Rattle.cq_chain_wire.specs.Laws.{IsSound}
use Rattle.cq_chain_wire.specs.Pieces.{IsNextPiece}
use Rattle.cq_events.specs.Actions.{Put, StandsAs, Keeps}
use Rattle.cq_events.specs.Acts.{Acts, ServerActs}
use Rattle.cq_frames.specs.declared.number.PieceNumber.{PieceNumber}
use Rattle.cq_process.specs.declared.outgoing.PutFault.{PutFault}
use Rattle.cq_process.specs.declared.outgoing.Written.{Written}
use Rattle.cq_process.specs.declared.outgoing.Written.TheVariants as what
use Rattle.cq_process.specs.Outgoing.{End, IsFresh}

-- with that message held for one party
abbrev pub with_back : (Party → Option rust.Message) → Party → Option rust.Message → Party → Option rust.Message
with_back back to o p = if same p to then o else back p

-- nothing is done, but the first message for that party may have left the core's outbox and be held
abbrev pub Passes : rust_server.Server → rust_server.Server → (Party → Option rust.Message) → Party → Option rust.Message → Type 0
Passes old new back to held = Keeps StandsAs (record { core = old; back = back }) (record { core = new; back = with_back back to held })

-- A piece of the message that is held is written behind the bytes: the next one from where the writer was. The message is one whose
-- pieces are read as just it.
pub record WritesPiece (message : rust.Message) (before after : MessageWriter) (is_last : Bool) (old new : List ℕ) : Type 0 where
  pub text : List ℕ
  pub bytes : new ≡ old ++ text
  pub piece : IsNextPiece message before after text
  pub sound : IsSound message
  pub last : after.is_done ≡ is_last

-- A piece is written and more are left of the message, which is held.
pub record WritesSome (before after : End) (old new : List ℕ) : Type 0 where
  pub message : rust.Message
  pub was : before.held ≡ Some message
  pub held : after.held ≡ Some message
  pub written : WritesPiece message before.writer after.writer false old new

-- The last piece is written, and none is held; the next message begins at its start.
pub record WritesLast (before after : End) (old new : List ℕ) : Type 0 where
  pub message : rust.Message
  pub was : before.held ≡ Some message
  pub writer : MessageWriter
  pub written : WritesPiece message before.writer writer true old new
  pub held : after.held ≡ None
  pub fresh : IsFresh after.writer

-- ---- of the first message for a party

-- The message is the one that was held, if one was.
abbrev pub IsHeld : Option rust.Message → rust.Message → Type 0
IsHeld held message = (x : rust.Message) → held ≡ Some x → message ≡ x

-- A piece of the first message for the party is written, and more are left of it. Nothing is put yet.
pub record WritesOn (a b : rust_server.Server) (to : Party) (before after : End) (old new : List ℕ) : Type 0 where
  pub message : rust.Message
  pub same : IsHeld before.held message
  pub held : after.held ≡ Some message
  pub written : WritesPiece message before.writer after.writer false old new
  pub kept : (back : Party → Option rust.Message) → back to ≡ before.held → Passes a b back to (Some message)

-- The last piece of the first message for the party is written, and the message is put. The next one begins at its start.
pub record PutsNext (a b : rust_server.Server) (to : Party) (before after : End) (old new : List ℕ) : Type 0 where
  pub message : rust.Message
  pub same : IsHeld before.held message
  pub writer : MessageWriter
  pub written : WritesPiece message before.writer writer true old new
  pub put : (back : Party → Option rust.Message) → back to ≡ before.held → Acts (Put to message) (record { core = a; back = back }) (record { core = b; back = with_back back to None })
  pub held : after.held ≡ None
  pub fresh : IsFresh after.writer

-- Nothing is written, nothing is put, and the writer stays where it was.
pub record Idles (a b : rust_server.Server) (to : Party) (before after : End) : Type 0 where
  pub writer : after.writer ≡ before.writer
  pub same : (x : rust.Message) → before.held ≡ Some x → after.held ≡ Some x
  pub kept : (back : Party → Option rust.Message) → back to ≡ before.held → Passes a b back to after.held

-- ---- what is thrown away

-- The core with what is held stands for that, and that is held for the party.
abbrev pub StandsWith : rust_server.Server → (Party → Option rust.Message) → Option rust.Message → Party → states.Server → (Party → List messages.Message) → Type 0
StandsWith core back held to s outbox = (back to ≡ held) × StandsAs (record { core = core; back = back }) s outbox

-- Messages for the party are put one after another, and none is written. Each counts.
pub record Throws (a b : rust_server.Server) (to : Party) (before after : End) : Type 0 where
  pub messages : List rust.Message
  pub number : after.put ≡ before.put + length messages
  pub puts : (back : Party → Option rust.Message) → back to ≡ before.held
      → ServerActs (record { core = a; back = back }) (map (λ x. Put to x) messages) (record { core = b; back = with_back back to after.held })

-- ---- by what a call answers

-- it answers a piece of which more are left
abbrev pub OnPiece : Result Written PutFault → Type 0 → Type 0
OnPiece (Ok (what.Piece number)) holds = holds
OnPiece other holds = ⊤

-- it answers the last piece of a message
abbrev pub OnMessage : Result Written PutFault → Type 0 → Type 0
OnMessage (Ok (what.Message number)) holds = holds
OnMessage other holds = ⊤

-- it answers no piece
abbrev pub OnNone : Result Written PutFault → Type 0 → Type 0
OnNone (Ok what.Nothing) holds = holds
OnNone (Ok (what.Piece number)) holds = ⊤
OnNone (Ok (what.Message number)) holds = ⊤
OnNone (Err fault) holds = holds

-- the number of the next piece
abbrev pub number_next : End → PieceNumber
number_next end = record { message = end.put + 1; index = end.pieces }

-- so many messages were put, and so many pieces of the next one were written
abbrev pub IsCounted : ℕ → ℕ → End → Type 0
IsCounted put pieces after = (after.put ≡ put) × (after.pieces ≡ pieces)

-- The number that is told is the next piece's: its message is one above the last one that was put, and its index is how many pieces of
-- it were written. The message counts with its last piece.
abbrev pub IsNumbered : Result Written PutFault → End → End → Type 0
IsNumbered (Ok what.Nothing) before after = IsCounted before.put before.pieces after
IsNumbered (Ok (what.Piece number)) before after = (number ≡ number_next before) × IsCounted before.put (before.pieces + 1) after
IsNumbered (Ok (what.Message number)) before after = (number ≡ number_next before) × IsCounted (before.put + 1) 0 after
IsNumbered (Err fault) before after = IsCounted before.put before.pieces after
