-- The laws of the queue object: what holds of every list of entries, in the words of the rules rather
-- than of the definitions.
use Rattle.std.specs.Prelude.{not, ◌==◌, ◌+◌, ◌<◌, ◌++◌, ◌&&◌, nat_lt, Option, Some, ◌≡◌, ◌≤◌, ℕ, List, [], ◌∷◌, length, map, Bool, true, false}
use Rattle.std.specs.List.{filter, fold, list_any}
use Rattle.std.specs.Str.{bytes_eq}
use Rattle.cq_base.specs.declared.ask.Entry.{Entry}
use Rattle.cq_base.specs.declared.reply.Reply.TheVariants.{Sent, Received}
use Rattle.cq_base.specs.queue.Clients.{of_client, is_fresh, is_stale, is_fresh_with}
use Rattle.cq_base.specs.queue.Asks.{queue_of, is_send, group_of, dedup_of, has_dedup}
use Rattle.cq_base.specs.queue.Outcomes.{Outcome, about, on}
use Rattle.cq_base.specs.queue.Lifetimes.{is_creation, is_removal, live}
use Rattle.cq_base.specs.queue.Incarnations.{lifetime}
use Rattle.cq_base.specs.declared.ask.Ask.TheVariants.{Receive}
use Rattle.cq_base.specs.declared.reply.Delivery.{Delivery}
use Rattle.cq_base.specs.queue.Effects.{attributes_by, visibility_by}
use Rattle.cq_base.specs.queue.Messages.{messages, hands, is_deleted, until}
use Rattle.cq_base.specs.queue.History.{outcome_of, history, reply_to, last_moment, counts_after}
use Rattle.cq_base.specs.Relations.{Among, Pairwise, IsPrefix}

-- what the fresh entries of that client and number did
abbrev pub fresh_outcomes : ℕ → ℕ → List Outcome → List Outcome
fresh_outcomes client number outcomes = filter (is_fresh_with number) (of_client client outcomes)

-- A client's number takes effect at most once: of the entries that have it, at most one is fresh.
abbrev pub FreshOnceIn : List Entry → Type 0
FreshOnceIn entries = (client number : ℕ) → length (fresh_outcomes client number (history entries)) ≤ 1

-- the same, for every list of entries
abbrev pub FreshOnce : Type 0
FreshOnce = (entries : List Entry) → FreshOnceIn entries

-- An entry whose number is neither fresh nor stale repeats one fresh entry of its client and number, and
-- no other, and has its reply.
abbrev pub RepeatsAreAnsweredAt : List Entry → Entry → Type 0
RepeatsAreAnsweredAt entries e = is_fresh e.request.client e.request.number (history entries) ≡ false
    → is_stale e.request.client e.request.number (history entries) ≡ false
    → (f : Outcome) × (fresh_outcomes e.request.client e.request.number (history entries) ≡ f ∷ []) × (reply_to entries e ≡ f.reply)

-- the same, after every list of entries
abbrev pub RepeatsAreAnswered : Type 0
RepeatsAreAnswered = (entries : List Entry) (e : Entry) → RepeatsAreAnsweredAt entries e

-- the number of the entry is fresh after these
abbrev pub IsFresh : List Entry → Entry → Type 0
IsFresh entries e = is_fresh e.request.client e.request.number (history entries) ≡ true

-- After both lists of entries all that can be seen is the same: which numbers are fresh, and which stale,
-- the reply to each later entry, and the counts of each queue, which are taken at the moment of the last
-- entry.
pub record AreAlike (xs ys : List Entry) : Type 0 where
  pub fresh : (client number : ℕ) → is_fresh client number (history xs) ≡ is_fresh client number (history ys)
  pub stale : (client number : ℕ) → is_stale client number (history xs) ≡ is_stale client number (history ys)
  pub reply : (later : Entry) → reply_to xs later ≡ reply_to ys later
  pub counts : (queue : List ℕ) → last_moment xs ≡ last_moment ys → counts_after xs queue ≡ counts_after ys queue

-- An entry that isn't fresh does nothing that can be seen later: whatever comes after it, all is as if it
-- weren't there, but for the moment of the last entry where nothing comes.
abbrev pub OthersDoNothingAt : List Entry → Entry → Type 0
OthersDoNothingAt entries e = (after : List Entry) → is_fresh e.request.client e.request.number (history entries) ≡ false
    → AreAlike (entries ++ e ∷ after) (entries ++ after)

-- the same, after every list of entries
abbrev pub OthersDoNothing : Type 0
OthersDoNothing = (entries : List Entry) (e : Entry) → OthersDoNothingAt entries e

-- the outcome is of a fresh entry that names the queue
abbrev pub is_naming : List ℕ → Outcome → Bool
is_naming queue f = f.fresh && bytes_eq (queue_of f.entry.request.ask) queue

-- of the entries, those that are fresh and name the queue
abbrev pub naming : List ℕ → List Entry → List Entry
naming queue entries = map (λ f. f.entry) (filter (is_naming queue) (history entries))

-- What the fresh entries that name a queue do is what they would do if there were no other entries.
abbrev pub EachQueueAloneIn : List Entry → Type 0
EachQueueAloneIn entries = (queue : List ℕ) → about queue (history entries) ≡ history (naming queue entries)

-- the same, for every list of entries
abbrev pub EachQueueAlone : Type 0
EachQueueAlone = (entries : List Entry) → EachQueueAloneIn entries

-- A fresh entry is answered as it would be if there were no entries but those that name its queue.
abbrev pub EachReplyAloneAt : List Entry → Entry → Type 0
EachReplyAloneAt entries e = IsFresh entries e
    → reply_to entries e ≡ reply_to (naming (queue_of e.request.ask) entries) e

-- the same, after every list of entries
abbrev pub EachReplyAlone : Type 0
EachReplyAlone = (entries : List Entry) (e : Entry) → EachReplyAloneAt entries e

-- What entries do on an incarnation follows from these entries alone: it is the lifetime that they make.
abbrev pub EachIncarnationAloneIn : List Entry → Type 0
EachIncarnationAloneIn entries = (queue : List ℕ) (creation : Outcome) → Among creation (about queue (history entries)) → is_creation creation ≡ true
    → on creation.count (about queue (history entries)) ≡ lifetime creation.count (attributes_by creation) (map (λ f. f.entry) (on creation.count (about queue (history entries))))

-- the same, for every list of entries
abbrev pub EachIncarnationAlone : Type 0
EachIncarnationAlone = (entries : List Entry) → EachIncarnationAloneIn entries

-- the queue that the entry names lives after these, by that creation
abbrev pub LivesBy : List Entry → Entry → Outcome → Type 0
LivesBy entries e creation = live (about (queue_of e.request.ask) (history entries)) ≡ Some creation

-- what these did on the incarnation of that creation
abbrev pub so_far : List Entry → Entry → Outcome → List Outcome
so_far entries e creation = on creation.count (about (queue_of e.request.ask) (history entries))

-- the sequence numbers of the messages that the entry hands out after these
abbrev pub handed_by : List Entry → Entry → List ℕ
handed_by entries e = (outcome_of (history entries) e).handed

-- the message of an accepted send is in flight: it isn't deleted, and its timeout lasts
abbrev pub is_hidden : Outcome → List Outcome → ℕ → Outcome → Bool
is_hidden creation outcomes moment y = not (is_deleted y.count outcomes) && nat_lt moment (until (visibility_by creation) y.count outcomes)

-- An entry that hands out a message is fresh, its queue lives, and the message is one that the queue's
-- incarnation accepted.
abbrev pub HandsWhatWasSentAt : List Entry → Entry → Type 0
HandsWhatWasSentAt entries e = (sequence : ℕ) → Among sequence (handed_by entries e)
    → IsFresh entries e × ((creation : Outcome) × LivesBy entries e creation × ((x : Outcome) × Among x (messages (so_far entries e creation)) × (x.count ≡ sequence)))

-- the same, after every list of entries
abbrev pub HandsWhatWasSent : Type 0
HandsWhatWasSent = (entries : List Entry) (e : Entry) → HandsWhatWasSentAt entries e

-- Where a fresh entry hands out a message, no message of its group is in flight just before.
abbrev pub NoneInFlightAt : List Entry → Entry → Type 0
NoneInFlightAt entries e = (creation x y : Outcome) → IsFresh entries e → LivesBy entries e creation
    → Among x (messages (so_far entries e creation)) → Among x.count (handed_by entries e)
    → Among y (messages (so_far entries e creation)) → group_of y.entry.request.ask ≡ group_of x.entry.request.ask
    → is_hidden creation (so_far entries e creation) e.moment y ≡ false

-- the same, after every list of entries
abbrev pub NoneInFlight : Type 0
NoneInFlight = (entries : List Entry) (e : Entry) → NoneInFlightAt entries e

-- Where a message was deleted, no entry hands it out.
abbrev pub NoneDeletedAt : List Entry → Entry → Type 0
NoneDeletedAt entries e = (creation : Outcome) (sequence : ℕ) → IsFresh entries e → LivesBy entries e creation
    → is_deleted sequence (so_far entries e creation) ≡ true → Among sequence (handed_by entries e) → ⊥

-- the same, after every list of entries
abbrev pub NoneDeleted : Type 0
NoneDeleted = (entries : List Entry) (e : Entry) → NoneDeletedAt entries e

-- After a removal of a queue no fresh entry comes to the incarnation that it ended.
abbrev pub NoneComesAt : List Entry → Entry → Type 0
NoneComesAt entries e = (removal : Outcome) → IsFresh entries e
    → Among removal (about (queue_of e.request.ask) (history entries)) → is_removal removal ≡ true
    → (outcome_of (history entries) e).incarnation ≡ removal.incarnation → ⊥

-- the same, after every list of entries
abbrev pub NoneComes : Type 0
NoneComes = (entries : List Entry) (e : Entry) → NoneComesAt entries e

-- After a removal of a queue no fresh entry is answered with a message under a receipt of the incarnation
-- that it ended.
abbrev pub NoneRemovedAt : List Entry → Entry → Type 0
NoneRemovedAt entries e = (removal : Outcome) (deliveries : List Delivery) (d : Delivery) → IsFresh entries e
    → Among removal (about (queue_of e.request.ask) (history entries)) → is_removal removal ≡ true
    → reply_to entries e ≡ Received deliveries → Among d deliveries
    → d.receipt.incarnation ≡ removal.incarnation → ⊥

-- the same, after every list of entries
abbrev pub NoneRemoved : Type 0
NoneRemoved = (entries : List Entry) (e : Entry) → NoneRemovedAt entries e

-- A fresh receive from a queue that lives is answered with the messages that it hands out, in order. The
-- receipt of each has the number of the incarnation, that of the message, and the count of the handings of
-- this message so far, this one among them.
abbrev pub ReceiptsCount : Type 0
ReceiptsCount = (entries : List Entry) (e : Entry) (creation : Outcome) (queue : List ℕ) (size : ℕ) (visibility : Option ℕ) → IsFresh entries e → LivesBy entries e creation
    → e.request.ask ≡ Receive queue size visibility
    → (deliveries : List Delivery)
    × (reply_to entries e ≡ Received deliveries)
    × (map (λ d. d.receipt.sequence) deliveries ≡ handed_by entries e)
    × ((d : Delivery) → Among d deliveries
    → (d.receipt.incarnation ≡ creation.count)
    × (d.receipt.handing ≡ length (hands d.receipt.sequence (so_far (entries ++ e ∷ []) e creation))))

-- no entry is stamped with an earlier moment than one before it
abbrev pub Stamped : List Entry → Type 0
Stamped entries = Pairwise (λ d e. d.moment ≤ e.moment) entries

-- the send has that deduplication id, and came less than 300,000 ms before the moment
abbrev pub counts_at : List ℕ → ℕ → Outcome → Bool
counts_at id moment y = bytes_eq (dedup_of y.entry.request.ask) id && nat_lt moment (y.entry.moment + 300000)

-- A fresh send that has a deduplication id, given or made, isn't accepted less than 300,000 ms after an accepted
-- send of its incarnation and that id: it is answered with that one's sequence number. There is no other such send.
abbrev pub OneAcceptancePerWindowAt : List Entry → Entry → Type 0
OneAcceptancePerWindowAt entries e = (creation earlier : Outcome) → Stamped (entries ++ e ∷ []) → IsFresh entries e → LivesBy entries e creation
    → is_send e.request.ask ≡ true
    → has_dedup (attributes_by creation) e.request.ask ≡ true
    → Among earlier (messages (so_far entries e creation)) → dedup_of earlier.entry.request.ask ≡ dedup_of e.request.ask → e.moment < earlier.entry.moment + 300000
    → ((outcome_of (history entries) e).effective ≡ false)
    × (reply_to entries e ≡ Sent earlier.count)
    × (filter (counts_at (dedup_of e.request.ask) e.moment) (messages (so_far entries e creation)) ≡ earlier ∷ [])

-- the same, after every list of entries
abbrev pub OneAcceptancePerWindow : Type 0
OneAcceptancePerWindow = (entries : List Entry) (e : Entry) → OneAcceptancePerWindowAt entries e

-- A fresh send that has a deduplication id, given or made, is accepted by a queue that lives, with the next sequence
-- number, if each accepted send of its incarnation and that id came 300,000 ms before or earlier.
abbrev pub OthersAreAcceptedAt : List Entry → Entry → Type 0
OthersAreAcceptedAt entries e = (creation : Outcome) → IsFresh entries e → LivesBy entries e creation
    → is_send e.request.ask ≡ true
    → has_dedup (attributes_by creation) e.request.ask ≡ true
    → ((y : Outcome) → Among y (messages (so_far entries e creation)) → dedup_of y.entry.request.ask ≡ dedup_of e.request.ask → y.entry.moment + 300000 ≤ e.moment)
    → ((outcome_of (history entries) e).effective ≡ true)
    × ((outcome_of (history entries) e).count ≡ length (messages (so_far entries e creation)) + 1)
    × (reply_to entries e ≡ Sent (length (messages (so_far entries e creation)) + 1))

-- the same, after every list of entries
abbrev pub OthersAreAccepted : Type 0
OthersAreAccepted = (entries : List Entry) (e : Entry) → OthersAreAcceptedAt entries e

-- the number is one of these
abbrev pub is_in : List ℕ → ℕ → Bool
is_in numbers n = list_any (λ m. m == n) numbers

-- the number is none of these
abbrev pub is_new_to : List ℕ → ℕ → Bool
is_new_to numbers n = not (is_in numbers n)

-- with the numbers that are handed out and weren't before, in order
abbrev pub with_handed : List ℕ → Outcome → List ℕ
with_handed seen f = seen ++ filter (is_new_to seen) f.handed

-- the sequence numbers of the messages that were handed out, in the order in which they first were
unfoldable pub first_handings : List Outcome → List ℕ
first_handings outcomes = fold with_handed [] outcomes

-- the send is of the group
abbrev pub is_of_group : List ℕ → Outcome → Bool
is_of_group group f = bytes_eq (group_of f.entry.request.ask) group

-- the sequence numbers of the group's accepted sends, in order of sending
abbrev pub numbers_of : List ℕ → List Outcome → List ℕ
numbers_of group outcomes = map (λ f. f.count) (filter (is_of_group group) (messages outcomes))

-- the messages of the group that were handed out are its first ones, and they first were in order of
-- sending
abbrev pub IsHandedInOrder : List ℕ → List Outcome → Type 0
IsHandedInOrder group outcomes = IsPrefix (filter (is_in (numbers_of group outcomes)) (first_handings outcomes)) (numbers_of group outcomes)

-- On each incarnation of each queue, messages of each group are first handed out in order of sending, and
-- none is left out.
abbrev pub FirstHandingsInOrderIn : List Entry → Type 0
FirstHandingsInOrderIn entries = (queue : List ℕ) (n : ℕ) (group : List ℕ) → IsHandedInOrder group (on n (about queue (history entries)))

-- the same, for every list of entries
abbrev pub FirstHandingsInOrder : Type 0
FirstHandingsInOrder = (entries : List Entry) → FirstHandingsInOrderIn entries
