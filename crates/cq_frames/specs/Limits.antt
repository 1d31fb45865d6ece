-- Which commands and responses have bytes: all that the types have.
use Rattle.std.specs.Prelude.{ℕ, ◌<◌, ◌≤◌, ◌^◌, List, length, ⊤}
use Rattle.cq_base.specs.declared.limits.TheConstants.{MOMENT_LIMIT}
use Rattle.cq_base.specs.declared.party.Party.{Party}
use Rattle.cq_base.specs.declared.party.Party.TheVariants.{Master, Clients, Server}
use Rattle.cq_frames.specs.declared.command.Command.{Command}
use Rattle.cq_frames.specs.declared.command.Command.TheVariants as commands
use Rattle.cq_frames.specs.declared.number.PieceNumber.{PieceNumber}
use Rattle.cq_frames.specs.declared.piece.TheConstants.{PIECE_LIMIT}
use Rattle.cq_frames.specs.declared.response.Response.{Response}
use Rattle.cq_frames.specs.declared.response.Response.TheVariants as responses
use Rattle.cq_frames.specs.declared.response.Standing.{Standing}
use Rattle.cq_wire.specs.Limits.{IsQuery, IsRequest, IsServer}

abbrev pub IsParty : Party → Type 0
IsParty Master = ⊤
IsParty Clients = ⊤
IsParty (Server id) = IsServer id

abbrev pub IsPiece : List ℕ → Type 0
IsPiece piece = length piece ≤ PIECE_LIMIT

abbrev pub IsPieceNumber : PieceNumber → Type 0
IsPieceNumber n = (n.message < 2 ^ 64) × (n.index < 2 ^ 64)

abbrev pub IsCommand : Command → Type 0
IsCommand (commands.Arrive stream clock one) = (stream < 2 ^ 64) × ((clock ≤ MOMENT_LIMIT) × IsRequest one)
IsCommand (commands.Ask one) = IsQuery one
IsCommand (commands.Take from number piece) = IsParty from × (IsPieceNumber number × IsPiece piece)
IsCommand (commands.Detect server) = IsServer server
IsCommand (commands.Join server) = IsServer server
IsCommand (commands.More to) = IsParty to
IsCommand (commands.Gone server) = IsServer server
IsCommand commands.Save = ⊤
IsCommand (commands.Load chunk) = IsPiece chunk

abbrev pub IsStanding : Standing → Type 0
IsStanding s = (s.count < 2 ^ 64) × ((s.acked < 2 ^ 64) × ((s.last ≤ MOMENT_LIMIT) × (⊤ × (⊤ × ⊤))))

abbrev pub IsResponse : Response → Type 0
IsResponse (responses.Put to number piece) = IsParty to × (IsPieceNumber number × IsPiece piece)
IsResponse (responses.Refused code) = code < 2 ^ 32
IsResponse (responses.Unread code) = code < 2 ^ 32
IsResponse (responses.Waiting to) = IsParty to
IsResponse (responses.Saved count chunk) = (count < 2 ^ 64) × IsPiece chunk
IsResponse (responses.Done one) = IsStanding one
IsResponse responses.Heard = ⊤
