-- What the lines of answers are made of has no float, so their text is exact.
use Rattle.std.proofs.Common.{◌≡◌, ℕ, List, [], ◌∷◌, map, Bool, true, false, if◌then◌else◌, refl}
use Rattle.serde_json.specs.Data.{Data}
use Rattle.serde_json.specs.View.{items_of}
use Rattle.serde_json.specs.Written.{has_float, items_have_float}
use Rattle.cq_base.specs.declared.reply.Delivery.{Delivery}
use Rattle.cq_base.specs.declared.reply.Reply.{Reply}
use Rattle.cq_base.specs.declared.reply.Reply.TheVariants.{Created, Removed, Sent, Received, Deleted, Changed, Counts, Refused}
use Rattle.cq_answers.specs.Answers.{delivery_data, reply_data, request_data, query_data, answer_data, refused_data}
use Rattle.cq_chain.specs.declared.message.Answer.{Answer}

items_have_float-deliveries : (ds : List Delivery) → items_have_float (items_of (map delivery_data ds)) ≡ false
items_have_float-deliveries [] = refl
items_have_float-deliveries (d ∷ ds) = items_have_float-deliveries ds

has_float-reply_data : (reply : Reply) → has_float (reply_data reply) ≡ false
has_float-reply_data (Created incarnation) = refl
has_float-reply_data Removed = refl
has_float-reply_data (Sent sequence) = refl
has_float-reply_data (Received deliveries) = rw (items_have_float-deliveries deliveries)
has_float-reply_data (Deleted removed) = refl
has_float-reply_data Changed = refl
has_float-reply_data (Counts visible in_flight) = refl
has_float-reply_data (Refused refusal) = refl

has_float-told : (line : ℕ) (answer : Answer) (reply : Data) (is_query : Bool) → has_float reply ≡ false
    → has_float (if is_query then query_data line answer reply else request_data line answer reply) ≡ false
has_float-told line answer reply true is = rw is
has_float-told line answer reply false is = rw is

pub has_float_answer_data : (line : ℕ) (answer : Answer) → has_float (answer_data line answer) ≡ false
unfolding answer_data
has_float_answer_data line answer = has_float-told line answer (reply_data answer.reply) answer.is_query (has_float-reply_data answer.reply)

pub has_float_refused_data : (line code : ℕ) (name : List ℕ) → has_float (refused_data line code name) ≡ false
unfolding refused_data
has_float_refused_data line code name = refl
