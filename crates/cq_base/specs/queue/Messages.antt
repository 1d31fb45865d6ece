-- The messages of one incarnation of a queue. All outcomes here are those on that incarnation.
use Rattle.std.specs.Prelude.{ℕ, ◌+◌, ◌*◌, ◌==◌, ◌&&◌, ◌||◌, List, length, map, Bool, not, nat_lt, Option, None, Some}
use Rattle.std.specs.List.{filter, find, list_any, last_or}
use Rattle.std.specs.Str.{bytes_eq}
use Rattle.cq_base.specs.declared.limits.TheConstants.{SECOND, DEDUPLICATION_WINDOW}
use Rattle.cq_base.specs.queue.Asks.{is_send, is_delete, is_change, dedup_of, group_of, body_of, timeout_of}
use Rattle.cq_base.specs.queue.Outcomes.{Outcome}

-- the entry is a send that was accepted
abbrev pub is_accepted : Outcome → Bool
is_accepted f = f.effective && is_send f.entry.request.ask

-- The accepted sends, in order. Each is a message; its sequence number is the count of accepted sends
-- up to it.
unfoldable pub messages : List Outcome → List Outcome
messages outcomes = filter is_accepted outcomes

-- the send has that deduplication id, and at that moment its five minutes aren't over
abbrev pub is_duplicated_by : List ℕ → ℕ → Outcome → Bool
is_duplicated_by id moment f = bytes_eq (dedup_of f.entry.request.ask) id && nat_lt moment (f.entry.moment + DEDUPLICATION_WINDOW)

-- The accepted send of the same deduplication id, given or made, less than five minutes before, whatever its group and
-- its body, and whether or not its message is deleted (SQS API Reference, "SendMessage",
-- `MessageDeduplicationId`).
unfoldable pub duplicate : List ℕ → ℕ → List Outcome → Option Outcome
duplicate id moment outcomes = find (is_duplicated_by id moment) (messages outcomes)

-- the accepted send has that sequence number
abbrev pub is_numbered : ℕ → Outcome → Bool
is_numbered sequence f = f.count == sequence

-- a message of that sequence number was sent
unfoldable pub is_sent : ℕ → List Outcome → Bool
is_sent sequence outcomes = list_any (is_numbered sequence) (messages outcomes)

-- the entry handed out the message of that sequence number
abbrev pub hands_it : ℕ → Outcome → Bool
hands_it sequence f = list_any (λ n. n == sequence) f.handed

-- the entries that handed out the message
unfoldable pub hands : ℕ → List Outcome → List Outcome
hands sequence outcomes = filter (hands_it sequence) outcomes

-- the moment of an entry; 0 if there is none
abbrev pub moment_of : Option Outcome → ℕ
moment_of None = 0
moment_of (Some f) = f.entry.moment

-- the entry changed the message's timeout
abbrev pub changes_it : ℕ → Outcome → Bool
changes_it sequence f = f.effective && is_change f.entry.request.ask && f.count == sequence

-- the entry gave the message a timeout
abbrev pub touches_it : ℕ → Outcome → Bool
touches_it sequence f = hands_it sequence f || changes_it sequence f

-- the entries that gave the message a timeout
unfoldable pub touches : ℕ → List Outcome → List Outcome
touches sequence outcomes = filter (touches_it sequence) outcomes

-- the moment at which the timeout that an entry gave a message ends
abbrev pub end_of : ℕ → Outcome → ℕ
end_of default f = f.entry.moment + SECOND * timeout_of default f.entry.request.ask

-- the same of the last of the entries that gave it one; 0 if there is none
abbrev pub last_end : ℕ → Option Outcome → ℕ
last_end default None = 0
last_end default (Some f) = end_of default f

-- The moment up to which the message stays hidden, by the timeout of its last handing or of the last
-- change after it; 0 if it was never handed out. `default` is the queue's visibility timeout in seconds
-- (SQS Developer Guide, "Amazon SQS visibility timeout").
unfoldable pub until : ℕ → ℕ → List Outcome → ℕ
until default sequence outcomes = last_end default (last_or None (touches sequence outcomes))

-- the entry deleted the message
abbrev pub deletes_it : ℕ → Outcome → Bool
deletes_it sequence f = f.effective && is_delete f.entry.request.ask && f.count == sequence

-- the message was deleted
unfoldable pub is_deleted : ℕ → List Outcome → Bool
is_deleted sequence outcomes = list_any (deletes_it sequence) outcomes

-- the message of the accepted send wasn't deleted
abbrev pub is_kept : List Outcome → Outcome → Bool
is_kept outcomes f = not (is_deleted f.count outcomes)

-- A message as it stands after all these entries.
pub record Message : Type 0 where
  pub sequence : ℕ
  pub group : List ℕ
  pub body : List ℕ
  -- how many times it was handed out
  pub handings : ℕ
  -- the moment at which it was last handed out; 0 if it never was
  pub handed_at : ℕ
  -- the moment up to which it is hidden; 0 if it was never handed out
  pub until : ℕ

-- the message of an accepted send
unfoldable pub message_of : ℕ → List Outcome → Outcome → Message
message_of default outcomes f = record {
  sequence = f.count;
  group = group_of f.entry.request.ask;
  body = body_of f.entry.request.ask;
  handings = length (hands f.count outcomes);
  handed_at = moment_of (last_or None (hands f.count outcomes));
  until = until default f.count outcomes;
}

-- the messages that weren't deleted, as they stand, in order of sending
unfoldable pub remaining : ℕ → List Outcome → List Message
remaining default outcomes = map (message_of default outcomes) (filter (is_kept outcomes) (messages outcomes))
