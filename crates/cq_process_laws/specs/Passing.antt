-- Messages on links, and the pieces that they go by.
use Rattle.std.specs.Prelude.{◌≡◌, ℕ, ◌+◌, ◌<◌, ◌==◌, List, [], ◌∷◌, ◌++◌, length, flat_map, Bool, true, false, if◌then◌else◌, ◌⊎◌, ⊤, Option, None, Some, Result, Ok, Err}
use Rattle.cq_base.specs.declared.party.Party.{Party}
use Rattle.cq_base.specs.Relations.{Among}
use Rattle.cq_chain.specs.declared.message.Message.{Message}
use Rattle.cq_chain.specs.Parties.{same}
use Rattle.cq_chain_wire.specs.declared.reader.Progress.TheVariants.{Whole}
use Rattle.cq_chain_wire.specs.declared.writer.MessageWriter.{MessageWriter}
use Rattle.cq_chain_wire.specs.Feeding.{all_fed}
use Rattle.cq_chain_wire.specs.Laws.{IsSound}
use Rattle.cq_chain_wire.specs.Pieces.{IsNextPiece}
use Rattle.cq_frames.specs.declared.command.Command.{Command}
use Rattle.cq_frames.specs.declared.command.Command.TheVariants as commands
use Rattle.cq_frames.specs.declared.number.PieceNumber.{PieceNumber}
use Rattle.cq_frames.specs.declared.response.Response.{Response}
use Rattle.cq_frames.specs.declared.response.Response.TheVariants as responses
use Rattle.cq_frames.specs.Reading.{command_at}
use Rattle.cq_process.specs.declared.incoming.TakeFault.TheVariants.{NotNext}
use Rattle.cq_process.specs.Faults.{take_code}
use Rattle.cq_process.specs.Outgoing.{IsFresh}
use Rattle.cq_process.specs.Taking.{nothing}
use Rattle.cq_wire.specs.declared.fault.WireFault.{WireFault}
use Rattle.cq_wire.specs.Reading.{whole_at}

-- a piece with its number on the link
abbrev pub Numbered : Type 0
Numbered = PieceNumber × List ℕ

-- the number of the piece at that place of the message of that number
abbrev pub number_at : ℕ → ℕ → PieceNumber
number_at message index = record { message = message; index = index }

-- of these pieces those of one message, in order, each with its place in the message
abbrev pub of_message : ℕ → List Numbered → List (ℕ × List ℕ)
of_message k [] = []
of_message k (x ∷ xs) = if k == x.0.message then (x.0.index, x.1) ∷ of_message k xs else of_message k xs

-- texts with their places, from one on
abbrev pub placed : ℕ → List (List ℕ) → List (ℕ × List ℕ)
placed index [] = []
placed index (text ∷ texts) = (index, text) ∷ placed (index + 1) texts

-- ---- out of a process

-- the piece for a party of which a response tells
abbrev pub piece_for : Party → Response → List Numbered
piece_for to (responses.Put other number piece) = if same to other then (number, piece) ∷ [] else []
piece_for to other = []

-- the pieces for a party of which responses tell, in order
abbrev pub pieces_for : Party → List Response → List Numbered
pieces_for to told = flat_map (piece_for to) told

-- These texts are pieces of the message that are written one after another, from one place of a writer to another. More are left of it
-- behind each of them.
abbrev pub AreFirst : Message → MessageWriter → List (List ℕ) → MessageWriter → Type 0
AreFirst m before [] after = before ≡ after
AreFirst m before (text ∷ texts) after = (next : MessageWriter) × IsNextPiece m before next text × (next.is_done ≡ false) × AreFirst m next texts after

-- The pieces are those of the message, from its first to its last one, each at its place. The message is one whose pieces are read as
-- just it.
pub record AreAllOf (m : Message) (pieces : List (ℕ × List ℕ)) : Type 0 where
  pub start : MessageWriter
  pub fresh : IsFresh start
  pub front : List (List ℕ)
  pub mid : MessageWriter
  pub first : AreFirst m start front mid
  pub last : List ℕ
  pub end : MessageWriter
  pub next : IsNextPiece m mid end last
  pub done : end.is_done ≡ true
  pub are : pieces ≡ placed 0 (front ++ last ∷ [])
  pub sound : IsSound m

-- The pieces are the first ones of the message, each at its place, and more are left of it.
pub record AreFrontOf (m : Message) (pieces : List (ℕ × List ℕ)) : Type 0 where
  pub start : MessageWriter
  pub fresh : IsFresh start
  pub texts : List (List ℕ)
  pub end : MessageWriter
  pub first : AreFirst m start texts end
  pub are : pieces ≡ placed 0 texts

-- no piece, or the first ones of some message
abbrev pub IsFront : List (ℕ × List ℕ) → Type 0
IsFront pieces = (pieces ≡ []) ⊎ ((m : Message) × AreFrontOf m pieces)

-- of the messages, which are numbered from k on, each has just the pieces with its number
abbrev pub AreWhole : ℕ → List Message → List Numbered → Type 0
AreWhole k [] pieces = ⊤
AreWhole k (m ∷ ms) pieces = AreAllOf m (of_message k pieces) × AreWhole (k + 1) ms pieces

-- The messages that were put to a party, and the pieces that were told for it. The last messages may have been thrown away, if the party
-- is gone; of all others all pieces were told. Behind these some pieces may have been told of one message more, but not all of them.
pub record ArePutAsTold (is_gone : Bool) (messages : List Message) (pieces : List Numbered) : Type 0 where
  pub whole : List Message
  pub thrown : List Message
  pub are : messages ≡ whole ++ thrown
  pub lives : is_gone ≡ false → thrown ≡ []
  pub each : AreWhole 1 whole pieces
  pub front : IsFront (of_message (length whole + 1) pieces)
  pub before : of_message 0 pieces ≡ []
  pub behind : (k : ℕ) → length whole + 1 < k → of_message k pieces ≡ []

-- ---- into a process

-- how a response says that a command was refused, or not read
abbrev pub refusal_in : Response → Option ℕ
refusal_in (responses.Refused code) = Some code
refusal_in (responses.Unread code) = Some code
refusal_in other = None

-- so does the last one of these
abbrev pub refusal_of : Option ℕ → List Response → Option ℕ
refusal_of so_far [] = so_far
refusal_of so_far (one ∷ rest) = refusal_of (refusal_in one) rest

-- whether a piece was refused since it wasn't the next one
abbrev pub is_out_of_turn : Option ℕ → Bool
is_out_of_turn None = false
is_out_of_turn (Some code) = code == take_code NotNext

-- the piece, but where it was out of turn
abbrev pub in_turn : PieceNumber → List ℕ → Option ℕ → List Numbered
in_turn number piece refusal = if is_out_of_turn refusal then [] else (number, piece) ∷ []

-- the piece from a party that a command brings in turn, by why it was refused, if it was
abbrev pub brought_by : Party → Option ℕ → Result Command WireFault → List Numbered
brought_by from refusal (Ok (commands.Take other number piece)) = if same from other then in_turn number piece refusal else []
brought_by from refusal (Ok other) = []
brought_by from refusal (Err fault) = []

-- the piece that a frame brings, by what was told of it
abbrev pub brought_in : Party → Option (List ℕ) → List Response → List Numbered
brought_in from None told = []
brought_in from (Some bytes) told = brought_by from (refusal_of None told) (whole_at command_at bytes)

-- these texts came as pieces of the message of that number, from that place on
abbrev pub AreThere : ℕ → ℕ → List (List ℕ) → List Numbered → Type 0
AreThere k index [] came = ⊤
AreThere k index (text ∷ texts) came = Among (number_at k index, text) came × AreThere k (index + 1) texts came

-- The message of that number was read whole of pieces that came, one for each place from the first one on.
pub record WasRead (k : ℕ) (m : Message) (came : List Numbered) : Type 0 where
  pub texts : List (List ℕ)
  pub there : AreThere k 0 texts came
  pub whole : all_fed texts nothing ≡ Ok (Whole m)

-- So was each of the messages that were taken from a party, which are numbered from k on.
abbrev pub WereRead : ℕ → List Message → List Numbered → Type 0
WereRead k [] came = ⊤
WereRead k (m ∷ ms) came = WasRead k m came × WereRead (k + 1) ms came

-- ---- from one process to another

-- Each piece that came was told, with its number. In which order they came doesn't matter, nor which came again.
abbrev pub AreAsTold : List Numbered → List Numbered → Type 0
AreAsTold told came = (one : Numbered) → Among one came → Among one told
