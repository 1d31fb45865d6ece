-- Reading commands and responses from left to right, up to the first fault.
use Rattle.std.specs.Prelude.{ℕ, ◌==◌, List, [], ◌∷◌, length, Ok, Err, nat_le, if◌then◌else◌}
use Rattle.std.specs.Int.{w32, w64}
use Rattle.cq_base.specs.declared.party.Party.{Party}
use Rattle.cq_base.specs.declared.party.Party.TheVariants.{Master, Clients, Server}
use Rattle.cq_frames.specs.declared.command.Command.{Command}
use Rattle.cq_frames.specs.declared.command.Command.TheVariants as commands
use Rattle.cq_frames.specs.declared.number.PieceNumber.{PieceNumber}
use Rattle.cq_frames.specs.declared.piece.TheConstants.{PIECE_LIMIT}
use Rattle.cq_frames.specs.declared.response.Response.{Response}
use Rattle.cq_frames.specs.declared.response.Response.TheVariants as responses
use Rattle.cq_frames.specs.declared.response.Standing.{Standing}
use Rattle.cq_wire.specs.declared.fault.WireFault.TheVariants.{Truncated, BadTag, BadNumber}
use Rattle.cq_wire.specs.Reading.{◌>>=◌, Reader, kept, number_at, server_at, run_at, flag_at, moment_at, request_at, query_at}

-- ---- parts

unfoldable pub a_server_at : Reader Party
a_server_at bytes = do
  id ← server_at bytes
  Ok (Server id.0, id.1)

unfoldable pub party_at : Reader Party
party_at [] = Err Truncated
party_at (kind ∷ rest) =
    if kind == 0 then Ok (Master, rest)
    else (if kind == 1 then Ok (Clients, rest)
    else (if kind == 2 then a_server_at rest else Err BadTag))

unfoldable pub piece_number_at : Reader PieceNumber
piece_number_at bytes = do
  message ← number_at w64 bytes
  index ← number_at w64 message.1
  Ok (record { message = message.0; index = index.0 }, index.1)

-- bytes behind their number, which aren't too many
unfoldable pub piece_at : Reader (List ℕ)
piece_at bytes = do
  piece ← run_at bytes
  kept (nat_le (length piece.0) PIECE_LIMIT) BadNumber piece

-- ---- commands by their kinds

unfoldable pub arrive_at : Reader Command
arrive_at bytes = do
  stream ← number_at w64 bytes
  clock ← moment_at stream.1
  one ← request_at clock.1
  Ok (commands.Arrive stream.0 clock.0 one.0, one.1)

unfoldable pub ask_at : Reader Command
ask_at bytes = do
  one ← query_at bytes
  Ok (commands.Ask one.0, one.1)

unfoldable pub take_at : Reader Command
take_at bytes = do
  from ← party_at bytes
  number ← piece_number_at from.1
  piece ← piece_at number.1
  Ok (commands.Take from.0 number.0 piece.0, piece.1)

unfoldable pub detect_at : Reader Command
detect_at bytes = do
  server ← server_at bytes
  Ok (commands.Detect server.0, server.1)

unfoldable pub join_at : Reader Command
join_at bytes = do
  server ← server_at bytes
  Ok (commands.Join server.0, server.1)

unfoldable pub more_at : Reader Command
more_at bytes = do
  to ← party_at bytes
  Ok (commands.More to.0, to.1)

unfoldable pub gone_at : Reader Command
gone_at bytes = do
  server ← server_at bytes
  Ok (commands.Gone server.0, server.1)

unfoldable pub load_at : Reader Command
load_at bytes = do
  chunk ← piece_at bytes
  Ok (commands.Load chunk.0, chunk.1)

unfoldable pub command_at : Reader Command
command_at [] = Err Truncated
command_at (kind ∷ rest) =
    if kind == 0 then arrive_at rest
    else (if kind == 1 then ask_at rest
    else (if kind == 2 then take_at rest
    else (if kind == 3 then detect_at rest
    else (if kind == 4 then join_at rest
    else (if kind == 5 then more_at rest
    else (if kind == 6 then gone_at rest
    else (if kind == 7 then Ok (commands.Save, rest)
    else (if kind == 8 then load_at rest else Err BadTag))))))))

-- ---- responses by their kinds

unfoldable pub standing_at : Reader Standing
standing_at bytes = do
  count ← number_at w64 bytes
  acked ← number_at w64 count.1
  last ← moment_at acked.1
  is_head ← flag_at last.1
  is_acting ← flag_at is_head.1
  is_full ← flag_at is_acting.1
  Ok (record { count = count.0; acked = acked.0; last = last.0; is_head = is_head.0; is_acting = is_acting.0; is_full = is_full.0 }, is_full.1)

unfoldable pub put_at : Reader Response
put_at bytes = do
  to ← party_at bytes
  number ← piece_number_at to.1
  piece ← piece_at number.1
  Ok (responses.Put to.0 number.0 piece.0, piece.1)

unfoldable pub refused_at : Reader Response
refused_at bytes = do
  code ← number_at w32 bytes
  Ok (responses.Refused code.0, code.1)

unfoldable pub unread_at : Reader Response
unread_at bytes = do
  code ← number_at w32 bytes
  Ok (responses.Unread code.0, code.1)

unfoldable pub waiting_at : Reader Response
waiting_at bytes = do
  to ← party_at bytes
  Ok (responses.Waiting to.0, to.1)

unfoldable pub saved_at : Reader Response
saved_at bytes = do
  count ← number_at w64 bytes
  chunk ← piece_at count.1
  Ok (responses.Saved count.0 chunk.0, chunk.1)

unfoldable pub done_at : Reader Response
done_at bytes = do
  one ← standing_at bytes
  Ok (responses.Done one.0, one.1)

unfoldable pub response_at : Reader Response
response_at [] = Err Truncated
response_at (kind ∷ rest) =
    if kind == 0 then put_at rest
    else (if kind == 1 then refused_at rest
    else (if kind == 2 then unread_at rest
    else (if kind == 3 then waiting_at rest
    else (if kind == 4 then saved_at rest
    else (if kind == 5 then done_at rest
    else (if kind == 6 then Ok (responses.Heard, rest) else Err BadTag))))))
