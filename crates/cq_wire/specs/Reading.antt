-- Reading from left to right, up to the first fault.
use Rattle.std.specs.Prelude.{◌≡◌, ℕ, zero, suc, ◌==◌, ◌&&◌, List, [], ◌∷◌, length, take, drop, Bool, true, false, Option, Some, None, Result, Ok, Err, nat_le, nat_lt, if◌then◌else◌}
use Rattle.std.specs.Int.{Width, w32, w64, byte_len, from_le_bytes}
use Rattle.std.specs.Str.{is_utf8}
use Rattle.cq_base.specs.declared.ask.Ask.{Ask}
use Rattle.cq_base.specs.declared.ask.Ask.TheVariants.{Create, Remove, Send, Receive, Delete, Change}
use Rattle.cq_base.specs.declared.ask.Request.{Request}
use Rattle.cq_base.specs.declared.ask.Entry.{Entry}
use Rattle.cq_base.specs.declared.ask.Query.{Query}
use Rattle.cq_base.specs.declared.reply.Delivery.{Delivery}
use Rattle.cq_base.specs.declared.reply.Reply.{Reply}
use Rattle.cq_base.specs.declared.reply.Reply.TheVariants.{Created, Removed, Sent, Received, Deleted, Changed, Counts, Refused}
use Rattle.cq_base.specs.declared.reply.Refusal.{Refusal}
use Rattle.cq_base.specs.declared.reply.Refusal.TheVariants.{QueueDoesNotExist, QueueNameExists, QueueDeletedRecently, ReceiptHandleIsInvalid, MessageNotInflight, VisibilityBeyondLimit, StaleNumber, MissingDedupId}
use Rattle.cq_base.specs.declared.limits.TheConstants.{MOMENT_LIMIT, SECONDS_LIMIT, BATCH_LIMIT}
use Rattle.cq_base.specs.Handle.{Handle}
use Rattle.cq_base.specs.Texts.{is_queue_name, is_id, is_body}
use Rattle.cq_wire.specs.declared.version.TheConstants.{VERSION}
use Rattle.cq_wire.specs.declared.fault.WireFault.{WireFault}
use Rattle.cq_wire.specs.declared.fault.WireFault.TheVariants.{Truncated, BadTag, BadText, BadNumber, BytesLeft, OtherVersion}
use Rattle.cq_wire.specs.declared.fault.ReadFault.{ReadFault}
use Rattle.cq_wire.specs.declared.fault.ReadFault.TheVariants as faults

-- what is read from the front, and the bytes behind it
abbrev pub Reader : Type 0 → Type 0
Reader A = List ℕ → Result (A × List ℕ) WireFault

infixl 10 ◌>>=◌
abbrev pub ◌>>=◌ : {A B : Type 0} → Result A WireFault → (A → Result B WireFault) → Result B WireFault
(Ok x) >>= f = f x
(Err e) >>= f = Err e

-- What a call answers, seen by view, is what reading gives, unless memory ran out.
abbrev pub Fails : {Y : Type 0} → ReadFault → Result Y WireFault → Type 0
Fails faults.NoMemory read = Unit {0}
Fails (faults.Bad f) read = read ≡ Err f

abbrev pub Gives : {X Y : Type 0} → (X → Y) → Result X ReadFault → Result Y WireFault → Type 0
Gives view (Ok x) read = read ≡ Ok (view x)
Gives view (Err e) read = Fails e read

-- ---- parts

unfoldable pub number_at : Width → Reader ℕ
number_at w bytes = if nat_lt (length bytes) (byte_len w) then Err Truncated else Ok (from_le_bytes w (take (byte_len w) bytes), drop (byte_len w) bytes)

-- the value, where it passes the test
abbrev pub kept : {A : Type 0} → Bool → WireFault → A × List ℕ → Result (A × List ℕ) WireFault
kept passes fault x = if passes then Ok x else Err fault

unfoldable pub bytes_at : ℕ → Reader (List ℕ)
bytes_at n bytes = if nat_lt (length bytes) n then Err Truncated else Ok (take n bytes, drop n bytes)

-- bytes behind their number
unfoldable pub run_at : Reader (List ℕ)
run_at bytes = do
  n ← number_at w32 bytes
  bytes_at n.0 n.1

-- a server's number, which isn't 0
unfoldable pub server_at : Reader ℕ
server_at bytes = do
  n ← number_at w32 bytes
  kept (nat_le 1 n.0) BadNumber n

unfoldable pub text_at : Reader (List ℕ)
text_at bytes = do
  n ← number_at w32 bytes
  t ← bytes_at n.0 n.1
  kept (is_utf8 t.0) BadText t

unfoldable pub flag_at : Reader Bool
flag_at [] = Err Truncated
flag_at (zero ∷ rest) = Ok (false, rest)
flag_at (suc zero ∷ rest) = Ok (true, rest)
flag_at (suc (suc b) ∷ rest) = Err BadTag

unfoldable pub moment_at : Reader ℕ
moment_at bytes = do
  n ← number_at w64 bytes
  kept (nat_le n.0 MOMENT_LIMIT) BadNumber n

unfoldable pub seconds_at : Reader ℕ
seconds_at bytes = do
  n ← number_at w32 bytes
  kept (nat_le n.0 SECONDS_LIMIT) BadNumber n

unfoldable pub batch_at : Reader ℕ
batch_at bytes = do
  n ← number_at w32 bytes
  kept (nat_le 1 n.0 && nat_le n.0 BATCH_LIMIT) BadNumber n

unfoldable pub name_at : Reader (List ℕ)
name_at bytes = do
  t ← text_at bytes
  kept (is_queue_name t.0) BadText t

unfoldable pub id_at : Reader (List ℕ)
id_at bytes = do
  t ← text_at bytes
  kept (is_id t.0) BadText t

unfoldable pub body_at : Reader (List ℕ)
body_at bytes = do
  t ← text_at bytes
  kept (is_body t.0) BadText t

unfoldable pub optional_at : {A : Type 0} → Reader A → Reader (Option A)
optional_at one bytes = do
  there ← flag_at bytes
  if there.0 then (one there.1 >>= λ x. Ok (Some x.0, x.1)) else Ok (None, there.1)

unfoldable pub several_at : {A : Type 0} → Reader A → ℕ → Reader (List A)
several_at one zero bytes = Ok ([], bytes)
several_at one (suc n) bytes = do
  first ← one bytes
  others ← several_at one n first.1
  Ok (first.0 ∷ others.0, others.1)

unfoldable pub listed_at : {A : Type 0} → Reader A → Reader (List A)
listed_at one bytes = do
  n ← number_at w64 bytes
  several_at one n.0 n.1

-- none of its numbers is 0
unfoldable pub receipt_at : Reader Handle
receipt_at bytes = do
  incarnation ← number_at w64 bytes
  sequence ← number_at w64 incarnation.1
  handing ← number_at w64 sequence.1
  kept (nat_lt 0 incarnation.0 && nat_lt 0 sequence.0 && nat_lt 0 handing.0) BadNumber (record { incarnation = incarnation.0; sequence = sequence.0; handing = handing.0 }, handing.1)

-- ---- asks

unfoldable pub create_at : Reader Ask
create_at bytes = do
  queue ← name_at bytes
  visibility ← seconds_at queue.1
  content ← flag_at visibility.1
  Ok (Create queue.0 visibility.0 content.0, content.1)

unfoldable pub remove_at : Reader Ask
remove_at bytes = do
  queue ← name_at bytes
  Ok (Remove queue.0, queue.1)

unfoldable pub send_at : Reader Ask
send_at bytes = do
  queue ← name_at bytes
  group ← id_at queue.1
  dedup ← optional_at id_at group.1
  body ← body_at dedup.1
  Ok (Send queue.0 group.0 dedup.0 body.0, body.1)

unfoldable pub receive_at : Reader Ask
receive_at bytes = do
  queue ← name_at bytes
  size ← batch_at queue.1
  visibility ← optional_at seconds_at size.1
  Ok (Receive queue.0 size.0 visibility.0, visibility.1)

unfoldable pub delete_at : Reader Ask
delete_at bytes = do
  queue ← name_at bytes
  handle ← receipt_at queue.1
  Ok (Delete queue.0 handle.0, handle.1)

unfoldable pub change_at : Reader Ask
change_at bytes = do
  queue ← name_at bytes
  handle ← receipt_at queue.1
  visibility ← seconds_at handle.1
  Ok (Change queue.0 handle.0 visibility.0, visibility.1)

-- by the byte for the kind
unfoldable pub ask_at : Reader Ask
ask_at [] = Err Truncated
ask_at (kind ∷ rest) =
    if kind == 0 then create_at rest
    else (if kind == 1 then remove_at rest
    else (if kind == 2 then send_at rest
    else (if kind == 3 then receive_at rest
    else (if kind == 4 then delete_at rest
    else (if kind == 5 then change_at rest else Err BadTag)))))

unfoldable pub request_at : Reader Request
request_at bytes = do
  client ← number_at w32 bytes
  number ← number_at w64 client.1
  one ← ask_at number.1
  Ok (record { client = client.0; number = number.0; ask = one.0 }, one.1)

unfoldable pub entry_at : Reader Entry
entry_at bytes = do
  moment ← moment_at bytes
  one ← request_at moment.1
  Ok (record { moment = moment.0; request = one.0 }, one.1)

unfoldable pub query_at : Reader Query
query_at bytes = do
  client ← number_at w32 bytes
  tag ← number_at w64 client.1
  queue ← name_at tag.1
  Ok (record { client = client.0; tag = tag.0; queue = queue.0 }, queue.1)

-- ---- replies

unfoldable pub delivery_at : Reader Delivery
delivery_at bytes = do
  handle ← receipt_at bytes
  group ← id_at handle.1
  body ← body_at group.1
  Ok (record { receipt = handle.0; group = group.0; body = body.0 }, body.1)

-- the refusal of that number
unfoldable pub refusal_of : ℕ → Result Refusal WireFault
refusal_of n =
    if n == 1 then Ok QueueDoesNotExist
    else (if n == 2 then Ok QueueNameExists
    else (if n == 3 then Ok QueueDeletedRecently
    else (if n == 4 then Ok ReceiptHandleIsInvalid
    else (if n == 5 then Ok MessageNotInflight
    else (if n == 6 then Ok VisibilityBeyondLimit
    else (if n == 7 then Ok StaleNumber
    else (if n == 8 then Ok MissingDedupId else Err BadNumber)))))))

unfoldable pub created_at : Reader Reply
created_at bytes = do
  n ← number_at w64 bytes
  Ok (Created n.0, n.1)

unfoldable pub sent_at : Reader Reply
sent_at bytes = do
  n ← number_at w64 bytes
  Ok (Sent n.0, n.1)

unfoldable pub received_at : Reader Reply
received_at bytes = do
  xs ← listed_at delivery_at bytes
  Ok (Received xs.0, xs.1)

unfoldable pub deleted_at : Reader Reply
deleted_at bytes = do
  removed ← flag_at bytes
  Ok (Deleted removed.0, removed.1)

unfoldable pub counts_at : Reader Reply
counts_at bytes = do
  visible ← number_at w64 bytes
  in_flight ← number_at w64 visible.1
  Ok (Counts visible.0 in_flight.0, in_flight.1)

unfoldable pub refused_at : Reader Reply
refused_at bytes = do
  n ← number_at w32 bytes
  refusal ← refusal_of n.0
  Ok (Refused refusal, n.1)

-- by the byte for the kind
unfoldable pub reply_at : Reader Reply
reply_at [] = Err Truncated
reply_at (kind ∷ rest) =
    if kind == 0 then created_at rest
    else (if kind == 1 then Ok (Removed, rest)
    else (if kind == 2 then sent_at rest
    else (if kind == 3 then received_at rest
    else (if kind == 4 then deleted_at rest
    else (if kind == 5 then Ok (Changed, rest)
    else (if kind == 6 then counts_at rest
    else (if kind == 7 then refused_at rest else Err BadTag)))))))

-- ---- wholes

-- the value that is all of the bytes
unfoldable pub all_of : {A : Type 0} → Reader A → List ℕ → Result A WireFault
all_of one bytes = do
  x ← one bytes
  if length x.1 == 0 then Ok x.0 else Err BytesLeft

-- the value behind the version
unfoldable pub whole_at : {A : Type 0} → Reader A → List ℕ → Result A WireFault
whole_at one [] = Err Truncated
whole_at one (version ∷ rest) = if version == VERSION then all_of one rest else Err OtherVersion
