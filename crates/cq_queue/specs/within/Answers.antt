-- What a queue's calls answer, as replies.
use Rattle.std.specs.Prelude.{ℕ, Bool, true, false, Result, Ok, Err}
use Rattle.cq_base.specs.declared.reply.Refusal.{Refusal}
use Rattle.cq_base.specs.declared.reply.Reply.{Reply}
use Rattle.cq_base.specs.declared.reply.Reply.TheVariants.{Sent, Deleted, Changed, Refused}

-- the reply to a send
abbrev pub send_reply : Result ℕ Refusal → Reply
send_reply (Ok sequence) = Sent sequence
send_reply (Err refusal) = Refused refusal

-- the reply to a delete
abbrev pub delete_reply : Result Bool Refusal → Reply
delete_reply (Ok deleted) = Deleted deleted
delete_reply (Err refusal) = Refused refusal

-- whether the delete takes effect
abbrev pub is_deleting : Result Bool Refusal → Bool
is_deleting (Ok deleted) = deleted
is_deleting (Err refusal) = false

-- the reply to a change of a timeout
abbrev pub change_reply : Result (Unit {0}) Refusal → Reply
change_reply (Ok done) = Changed
change_reply (Err refusal) = Refused refusal

-- whether the change takes effect
abbrev pub is_changing : Result (Unit {0}) Refusal → Bool
is_changing (Ok done) = true
is_changing (Err refusal) = false
