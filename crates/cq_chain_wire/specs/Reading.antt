-- Reading messages from left to right, up to the first fault.
use Rattle.std.specs.Prelude.{◌==◌, [], ◌∷◌, Ok, Err, if◌then◌else◌}
use Rattle.std.specs.Int.{w32, w64}
use Rattle.cq_chain.specs.declared.message.Answer.{Answer}
use Rattle.cq_chain.specs.declared.message.Message.{Message}
use Rattle.cq_chain.specs.declared.message.Message.TheVariants as kinds
use Rattle.cq_wire.specs.declared.fault.WireFault.TheVariants.{Truncated, BadTag}
use Rattle.cq_wire.specs.Reading.{◌>>=◌, Reader, number_at, server_at, flag_at, optional_at, entry_at, reply_at}

unfoldable pub answer_at : Reader Answer
answer_at bytes = do
  client ← number_at w32 bytes
  number ← number_at w64 client.1
  is_query ← flag_at number.1
  length ← number_at w64 is_query.1
  one ← reply_at length.1
  Ok (record { client = client.0; number = number.0; is_query = is_query.0; length = length.0; reply = one.0 }, one.1)

-- ---- by their kinds

unfoldable pub fwd_at : Reader Message
fwd_at bytes = do
  place ← number_at w64 bytes
  one ← entry_at place.1
  Ok (kinds.Fwd place.0 one.0, one.1)

unfoldable pub ack_at : Reader Message
ack_at bytes = do
  place ← number_at w64 bytes
  Ok (kinds.Ack place.0, place.1)

unfoldable pub report_at : Reader Message
report_at bytes = do
  pred ← server_at bytes
  Ok (kinds.Report pred.0, pred.1)

unfoldable pub adopt_at : Reader Message
adopt_at bytes = do
  succ ← server_at bytes
  have ← number_at w64 succ.1
  Ok (kinds.Adopt succ.0 have.0, have.1)

unfoldable pub be_tail_at : Reader Message
be_tail_at bytes = do
  least ← number_at w64 bytes
  Ok (kinds.BeTail least.0, least.1)

unfoldable pub feed_at : Reader Message
feed_at bytes = do
  succ ← optional_at server_at bytes
  Ok (kinds.Feed succ.0, succ.1)

unfoldable pub have_at : Reader Message
have_at bytes = do
  pred ← server_at bytes
  count ← number_at w64 pred.1
  Ok (kinds.Have pred.0 count.0, count.1)

unfoldable pub adopted_at : Reader Message
adopted_at bytes = do
  succ ← server_at bytes
  count ← number_at w64 succ.1
  Ok (kinds.Adopted succ.0 count.0, count.1)

unfoldable pub caught_at : Reader Message
caught_at bytes = do
  pred ← server_at bytes
  count ← number_at w64 pred.1
  Ok (kinds.Caught pred.0 count.0, count.1)

unfoldable pub answered_at : Reader Message
answered_at bytes = do
  one ← answer_at bytes
  Ok (kinds.Answer one.0, one.1)

-- by the byte for the kind
unfoldable pub message_at : Reader Message
message_at [] = Err Truncated
message_at (kind ∷ rest) =
    if kind == 0 then fwd_at rest
    else (if kind == 2 then ack_at rest
    else (if kind == 3 then Ok (kinds.BeHead, rest)
    else (if kind == 4 then report_at rest
    else (if kind == 5 then adopt_at rest
    else (if kind == 6 then be_tail_at rest
    else (if kind == 7 then feed_at rest
    else (if kind == 8 then have_at rest
    else (if kind == 9 then adopted_at rest
    else (if kind == 10 then caught_at rest
    else (if kind == 11 then Ok (kinds.Ready, rest)
    else (if kind == 12 then answered_at rest else Err BadTag)))))))))))
