-- The asks that JSON objects say: which keys an object has, and in which order its faults count.
-- All members are read before a text is looked at, so an object with any other fault is bad.
use Rattle.std.specs.Prelude.{[], ◌∷◌, codes, false, if◌then◌else◌, Result, Ok, Err, unwrap_or}
use Rattle.std.specs.Str.{bytes_eq}
use Rattle.serde_json.specs.Data.{Data}
use Rattle.cq_base.specs.declared.ask.Ask.{Ask}
use Rattle.cq_base.specs.declared.ask.Ask.TheVariants.{Create, Remove, Send, Receive, Delete, Change}
use Rattle.cq_base.specs.declared.limits.TheConstants.{SECONDS_LIMIT, BATCH_LIMIT}
use Rattle.cq_json.specs.declared.ask.TheConstants.{DEFAULT_SECONDS}
use Rattle.cq_json.specs.Fields.{Reason, bad, ◌>>=◌, has_only, text_at, number_at, number_if_at, text_if_at, truth_if_at, queue_name, group_id, dedup_id_if, message_body}
use Rattle.cq_json.specs.Receipts.{receipt_handle}

-- A queue is made with a visibility timeout of 30 seconds where none is said, and makes deduplication ids only
-- where that is said (SQS API Reference, "CreateQueue", `VisibilityTimeout` and `ContentBasedDeduplication`).
unfoldable pub create_in : Data → Result Ask Reason
create_in d = if has_only (codes "kind" ∷ codes "queue" ∷ codes "visibility" ∷ codes "content_dedup" ∷ []) d then (do
  name ← text_at (codes "queue") d
  visibility ← number_if_at 0 SECONDS_LIMIT (codes "visibility") d
  content ← truth_if_at (codes "content_dedup") d
  queue ← queue_name name
  Ok (Create queue (unwrap_or visibility DEFAULT_SECONDS) (unwrap_or content false))) else Err bad

-- a removal of a queue
unfoldable pub remove_in : Data → Result Ask Reason
remove_in d = if has_only (codes "kind" ∷ codes "queue" ∷ []) d then (do
  name ← text_at (codes "queue") d
  queue ← queue_name name
  Ok (Remove queue)) else Err bad

-- A send names its group itself, and may name its deduplication id (SQS API Reference, "SendMessage").
unfoldable pub send_in : Data → Result Ask Reason
send_in d = if has_only (codes "kind" ∷ codes "queue" ∷ codes "group" ∷ codes "dedup" ∷ codes "body" ∷ []) d then (do
  queue_text ← text_at (codes "queue") d
  group_text ← text_at (codes "group") d
  dedup_text ← text_if_at (codes "dedup") d
  body_text ← text_at (codes "body") d
  queue ← queue_name queue_text
  group ← group_id group_text
  dedup ← dedup_id_if dedup_text
  body ← message_body body_text
  Ok (Send queue group dedup body)) else Err bad

-- A receive asks for one message where no size is said (SQS API Reference, "ReceiveMessage",
-- `MaxNumberOfMessages`).
unfoldable pub receive_in : Data → Result Ask Reason
receive_in d = if has_only (codes "kind" ∷ codes "queue" ∷ codes "size" ∷ codes "visibility" ∷ []) d then (do
  name ← text_at (codes "queue") d
  size ← number_if_at 1 BATCH_LIMIT (codes "size") d
  visibility ← number_if_at 0 SECONDS_LIMIT (codes "visibility") d
  queue ← queue_name name
  Ok (Receive queue (unwrap_or size 1) visibility)) else Err bad

-- a delete with a receipt
unfoldable pub delete_in : Data → Result Ask Reason
delete_in d = if has_only (codes "kind" ∷ codes "queue" ∷ codes "receipt" ∷ []) d then (do
  name ← text_at (codes "queue") d
  receipt_text ← text_at (codes "receipt") d
  receipt ← receipt_handle receipt_text
  queue ← queue_name name
  Ok (Delete queue receipt)) else Err bad

-- A change names its timeout itself (SQS API Reference, "ChangeMessageVisibility", `VisibilityTimeout`).
unfoldable pub change_in : Data → Result Ask Reason
change_in d = if has_only (codes "kind" ∷ codes "queue" ∷ codes "receipt" ∷ codes "visibility" ∷ []) d then (do
  name ← text_at (codes "queue") d
  receipt_text ← text_at (codes "receipt") d
  receipt ← receipt_handle receipt_text
  visibility ← number_at 0 SECONDS_LIMIT (codes "visibility") d
  queue ← queue_name name
  Ok (Change queue receipt visibility)) else Err bad

-- the ask that the object says, by its kind
unfoldable pub ask_in : Data → Result Ask Reason
ask_in d = do
  kind ← text_at (codes "kind") d
  if bytes_eq kind (codes "create") then create_in d
      else (if bytes_eq kind (codes "remove") then remove_in d
      else (if bytes_eq kind (codes "send") then send_in d
      else (if bytes_eq kind (codes "receive") then receive_in d
      else (if bytes_eq kind (codes "delete") then delete_in d
      else (if bytes_eq kind (codes "change") then change_in d else Err bad)))))
