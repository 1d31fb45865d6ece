-- What a reply lists is of the incarnation that its entry came to.
use Rattle.std.proofs.Common.{◌≡◌, ℕ, ◌+◌, ap, List, [], length, Option, Some, None, Bool, true, false, cond, nat_lt, ◌*◌, not}
use Rattle.cq_base.specs.declared.ask.Ask.{Ask}
use Rattle.cq_base.specs.declared.ask.Ask.TheVariants.{Create, Remove, Send, Receive, Delete, Change}
use Rattle.cq_base.specs.declared.ask.Entry.{Entry}
use Rattle.cq_base.specs.declared.limits.TheConstants.{SECOND, FLIGHT_LIMIT}
use Rattle.cq_base.specs.declared.reply.Delivery.{Delivery}
use Rattle.cq_base.specs.declared.reply.Refusal.TheVariants.{QueueNameExists, QueueDeletedRecently, ReceiptHandleIsInvalid, MessageNotInflight, VisibilityBeyondLimit, MissingDedupId}
use Rattle.cq_base.specs.declared.reply.Reply.{Reply}
use Rattle.cq_base.specs.declared.reply.Reply.TheVariants.{Created, Received, Deleted, Changed, Refused}
use Rattle.cq_base.specs.queue.Asks.{Attributes, are_same, dedup_or_made, is_given_or_made}
use Rattle.cq_base.specs.queue.Effects.{Effect, only_replies, takes_effect, send, is_own, fits, message_at, delete_remaining, delete_sent, delete, change_remaining, change_sent, change, effect_on, effect_off, effect_by, effect_of, attributes_by}
use Rattle.cq_base.specs.queue.Outcomes.{Outcome, on}
use Rattle.cq_base.specs.Handle.{Handle}
use Rattle.cq_base.specs.queue.History.{fresh_outcome}
use Rattle.cq_base.specs.queue.Lifetimes.{removed_lately, live, creations, incarnation_of}
use Rattle.cq_base.specs.queue.Messages.{Message, messages, duplicate, remaining}
use Rattle.cq_base.specs.queue.Receiving.{is_in_flight, to_hand, delivery_of}
use Rattle.cq_base.specs.Relations.{Among}
use Rattle.cq_base.proofs.Among.{among-map}

-- the messages that a reply lists
abbrev pub deliveries_of : Reply → List Delivery
deliveries_of (Received deliveries) = deliveries
deliveries_of other = []

-- the effect lists no message but of that incarnation
abbrev IsOf : ℕ → Effect → Type 0
IsOf incarnation effect = (d : Delivery) → Among d (deliveries_of effect.reply) → d.receipt.incarnation ≡ incarnation

-- ---- what is no receive lists none

chosen : (b : Bool) (n : ℕ) (x y : Effect) → IsOf n x → IsOf n y → IsOf n (cond b x y)
chosen true n x y first second = first
chosen false n x y first second = second

sent_of : (n sequence : ℕ) (earlier : Option Outcome) → IsOf n (send sequence earlier)
sent_of n sequence None = λ d at. absurd at
sent_of n sequence (Some earlier) = λ d at. absurd at

delete_remaining_of : (n : ℕ) (receipt : Handle) (x : Message) → IsOf n (delete_remaining receipt x)
delete_remaining_of n receipt x = chosen (nat_lt x.handings receipt.handing) n (only_replies (Refused ReceiptHandleIsInvalid)) (cond (fits receipt x) (takes_effect x.sequence (Deleted true)) (only_replies (Deleted false))) (λ d at. absurd at)
    (chosen (fits receipt x) n (takes_effect x.sequence (Deleted true)) (only_replies (Deleted false)) (λ d at. absurd at) (λ d at. absurd at))

delete_sent_of : (n : ℕ) (receipt : Handle) (x : Option Message) → IsOf n (delete_sent receipt x)
delete_sent_of n receipt None = λ d at. absurd at
delete_sent_of n receipt (Some x) = delete_remaining_of n receipt x

deleted_of : (n : ℕ) (xs : List Outcome) (ms : List Message) (receipt : Handle) → IsOf n (delete n xs ms receipt)
deleted_of n xs ms receipt = chosen (is_own n xs receipt) n (delete_sent receipt (message_at receipt.sequence ms)) (only_replies (Refused ReceiptHandleIsInvalid)) (delete_sent_of n receipt (message_at receipt.sequence ms)) (λ d at. absurd at)

change_remaining_of : (n moment visibility : ℕ) (receipt : Handle) (x : Message) → IsOf n (change_remaining moment visibility receipt x)
change_remaining_of n moment visibility receipt x =
    let beyond = nat_lt (x.handed_at + FLIGHT_LIMIT) (moment + SECOND * visibility) in
    let last = cond beyond (only_replies (Refused VisibilityBeyondLimit)) (takes_effect x.sequence Changed) in
    let landed = not (is_in_flight moment x) in
    chosen (not (fits receipt x)) n (only_replies (Refused ReceiptHandleIsInvalid)) (cond landed (only_replies (Refused MessageNotInflight)) last) (λ d at. absurd at)
    (chosen landed n (only_replies (Refused MessageNotInflight)) last (λ d at. absurd at)
    (chosen beyond n (only_replies (Refused VisibilityBeyondLimit)) (takes_effect x.sequence Changed) (λ d at. absurd at) (λ d at. absurd at)))

change_sent_of : (n moment visibility : ℕ) (receipt : Handle) (x : Option Message) → IsOf n (change_sent moment visibility receipt x)
change_sent_of n moment visibility receipt None = λ d at. absurd at
change_sent_of n moment visibility receipt (Some x) = change_remaining_of n moment visibility receipt x

changed_of : (n moment visibility : ℕ) (xs : List Outcome) (ms : List Message) (receipt : Handle) → IsOf n (change n moment visibility xs ms receipt)
changed_of n moment visibility xs ms receipt = chosen (is_own n xs receipt) n (change_sent moment visibility receipt (message_at receipt.sequence ms)) (only_replies (Refused ReceiptHandleIsInvalid)) (change_sent_of n moment visibility receipt (message_at receipt.sequence ms)) (λ d at. absurd at)

-- ---- what comes to a queue

-- a receive lists messages of the incarnation that it comes to
on_of : (n : ℕ) (own : Attributes) (moment : ℕ) (xs : List Outcome) (ask : Ask) → IsOf n (effect_on n own moment xs ask)
unfolding effect_on
on_of n own moment xs (Create queue visibility content) = chosen (are_same (record { visibility = visibility; content = content }) own) n (only_replies (Created n)) (only_replies (Refused QueueNameExists)) (λ d at. absurd at) (λ d at. absurd at)
on_of n own moment xs (Remove queue) = λ d at. absurd at
on_of n own moment xs (Send queue group dedup body) = chosen (is_given_or_made own.content dedup) n (send (length (messages xs) + 1) (duplicate (dedup_or_made body dedup) moment xs)) (only_replies (Refused MissingDedupId)) (sent_of n (length (messages xs) + 1) (duplicate (dedup_or_made body dedup) moment xs)) (λ d at. absurd at)
on_of n own moment xs (Receive queue size visibility) = λ d at. ap (λ g. g.receipt.incarnation) (among-map (delivery_of n) d (to_hand size moment (remaining own.visibility xs)) at).2
on_of n own moment xs (Delete queue receipt) = deleted_of n xs (remaining own.visibility xs) receipt
on_of n own moment xs (Change queue receipt visibility) = changed_of n moment visibility xs (remaining own.visibility xs) receipt

-- where the queue doesn't live, nothing is listed
off_of : (n moment : ℕ) (xs : List Outcome) (ask : Ask) → IsOf n (effect_off moment xs ask)
unfolding effect_off
off_of n moment xs (Create queue visibility content) = chosen (removed_lately moment xs) n (only_replies (Refused QueueDeletedRecently)) (takes_effect (creations xs + 1) (Created (creations xs + 1))) (λ d at. absurd at) (λ d at. absurd at)
off_of n moment xs (Remove queue) = λ d at. absurd at
off_of n moment xs (Send queue group dedup body) = λ d at. absurd at
off_of n moment xs (Receive queue size visibility) = λ d at. absurd at
off_of n moment xs (Delete queue receipt) = λ d at. absurd at
off_of n moment xs (Change queue receipt visibility) = λ d at. absurd at

by_of : (living : Option Outcome) (moment : ℕ) (xs : List Outcome) (ask : Ask) → IsOf (incarnation_of living) (effect_by living moment xs ask)
by_of None moment xs ask = off_of 0 moment xs ask
by_of (Some creation) moment xs ask = on_of creation.count (attributes_by creation) moment (on creation.count xs) ask

-- what a fresh entry's reply lists is of the incarnation that it comes to
pub listed : (e : Entry) (xs : List Outcome) (d : Delivery) → Among d (deliveries_of (fresh_outcome e xs).reply) → d.receipt.incarnation ≡ (fresh_outcome e xs).incarnation
unfolding fresh_outcome effect_of
listed e xs d at = by_of (live xs) e.moment xs e.request.ask d at
