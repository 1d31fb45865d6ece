-- The bytes of each command and of each response.
use Rattle.std.specs.Prelude.{ℕ, List, [], ◌∷◌, ◌++◌}
use Rattle.cq_base.specs.declared.party.Party.{Party}
use Rattle.cq_base.specs.declared.party.Party.TheVariants.{Master, Clients, Server}
use Rattle.cq_frames.specs.declared.command.Command.{Command}
use Rattle.cq_frames.specs.declared.command.Command.TheVariants as commands
use Rattle.cq_frames.specs.declared.number.PieceNumber.{PieceNumber}
use Rattle.cq_frames.specs.declared.response.Response.{Response}
use Rattle.cq_frames.specs.declared.response.Response.TheVariants as responses
use Rattle.cq_frames.specs.declared.response.Standing.{Standing}
use Rattle.cq_wire.specs.Layout.{number32, number64, flag, query, request, text}

unfoldable pub party : Party → List ℕ
party Master = 0 ∷ []
party Clients = 1 ∷ []
party (Server id) = 2 ∷ number32 id

unfoldable pub piece_number : PieceNumber → List ℕ
piece_number n = number64 n.message ++ number64 n.index

-- A byte for the kind, and the parts in their order; a piece stands behind its length.
unfoldable pub command : Command → List ℕ
command (commands.Arrive stream clock one) = 0 ∷ (number64 stream ++ (number64 clock ++ request one))
command (commands.Ask one) = 1 ∷ query one
command (commands.Take from number piece) = 2 ∷ (party from ++ (piece_number number ++ text piece))
command (commands.Detect server) = 3 ∷ number32 server
command (commands.Join server) = 4 ∷ number32 server
command (commands.More to) = 5 ∷ party to
command (commands.Gone server) = 6 ∷ number32 server
command commands.Save = 7 ∷ []
command (commands.Load chunk) = 8 ∷ text chunk

unfoldable pub standing : Standing → List ℕ
standing s = number64 s.count ++ (number64 s.acked ++ (number64 s.last ++ (flag s.is_head ++ (flag s.is_acting ++ flag s.is_full))))

unfoldable pub response : Response → List ℕ
response (responses.Put to number piece) = 0 ∷ (party to ++ (piece_number number ++ text piece))
response (responses.Refused code) = 1 ∷ number32 code
response (responses.Unread code) = 2 ∷ number32 code
response (responses.Waiting to) = 3 ∷ party to
response (responses.Saved count chunk) = 4 ∷ (number64 count ++ text chunk)
response (responses.Done one) = 5 ∷ standing one
response responses.Heard = 6 ∷ []
