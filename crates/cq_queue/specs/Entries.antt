-- What comes to an incarnation, whatever the client, the number and the name of the queue, and what is said
-- of one more entry.
use Rattle.std.specs.Prelude.{◌≡◌, ℕ, List, [], ◌∷◌, ◌++◌, length, map, true, Option, None}
use Rattle.std.specs.List.{filter}
use Rattle.cq_base.specs.declared.ask.Ask.TheVariants.{Create, Send, Receive, Delete, Change}
use Rattle.cq_base.specs.declared.ask.Entry.{Entry}
use Rattle.cq_base.specs.declared.reply.Delivery.{Delivery}
use Rattle.cq_base.specs.declared.reply.Reply.{Reply}
use Rattle.cq_base.specs.declared.reply.Reply.TheVariants.{Counts}
use Rattle.cq_base.specs.queue.Asks.{Attributes, dedup_or_made, is_given_or_made}
use Rattle.cq_base.specs.queue.Effects.{counts_of}
use Rattle.cq_base.specs.Handle.{Handle}
use Rattle.cq_base.specs.queue.Incarnations.{Incarnation, IncarnationStandsFor, coming, told_of, is_recent, all_accepted}
use Rattle.cq_base.specs.queue.Messages.{duplicate, remaining}
use Rattle.cq_base.specs.queue.Receiving.{to_hand, delivery_of}

-- the entry is a creation of the queue, which lives, at any moment
pub record IsCreate (given : Attributes) (e : Entry) : Type 0 where
  pub queue : List ℕ
  pub asks : e.request.ask ≡ Create queue given.visibility given.content

-- the entry is such a send at that moment, with that deduplication id or none
pub record IsSend (moment : ℕ) (group : List ℕ) (dedup : Option (List ℕ)) (body : List ℕ) (e : Entry) : Type 0 where
  pub queue : List ℕ
  pub at_moment : e.moment ≡ moment
  pub asks : e.request.ask ≡ Send queue group dedup body

-- The entry is a send at that moment that has this deduplication id, given or made, on a queue of these
-- attributes.
pub record IsSendAs (own : Attributes) (moment : ℕ) (group dedup body : List ℕ) (e : Entry) : Type 0 where
  pub queue : List ℕ
  pub given : Option (List ℕ)
  pub at_moment : e.moment ≡ moment
  pub asks : e.request.ask ≡ Send queue group given body
  pub same : dedup_or_made body given ≡ dedup
  pub has : is_given_or_made own.content given ≡ true

-- the entry is such a receive at that moment
pub record IsReceive (moment size : ℕ) (visibility : Option ℕ) (e : Entry) : Type 0 where
  pub queue : List ℕ
  pub at_moment : e.moment ≡ moment
  pub asks : e.request.ask ≡ Receive queue size visibility

-- the entry is a delete with that receipt, at any moment
pub record IsDelete (receipt : Handle) (e : Entry) : Type 0 where
  pub queue : List ℕ
  pub asks : e.request.ask ≡ Delete queue receipt

-- the entry is such a change of a timeout at that moment
pub record IsChange (moment : ℕ) (receipt : Handle) (visibility : ℕ) (e : Entry) : Type 0 where
  pub queue : List ℕ
  pub at_moment : e.moment ≡ moment
  pub asks : e.request.ask ≡ Change queue receipt visibility

-- Whatever entries `old` stands for, `new` stands for them and one more, if it is of this kind.
abbrev pub StandsAfter : (Entry → Type 0) → Incarnation → Incarnation → Type 0
StandsAfter IsSuch old new = (entries : List Entry) (e : Entry) → IncarnationStandsFor old entries → IsSuch e
    → IncarnationStandsFor new (entries ++ e ∷ [])

-- Whatever entries `kept` stands for, one more of this kind is answered with that reply.
abbrev pub IsAnswered : (Entry → Type 0) → Incarnation → Reply → Type 0
IsAnswered IsSuch kept reply = (entries : List Entry) (e : Entry) → IncarnationStandsFor kept entries → IsSuch e
    → (coming kept.number kept.attributes (told_of kept entries) e).reply ≡ reply

-- Whatever entries `kept` stands for, a send of that deduplication id at that moment repeats none of them.
abbrev pub IsNoRepeat : List ℕ → ℕ → Incarnation → Type 0
IsNoRepeat dedup moment kept = (entries : List Entry) → IncarnationStandsFor kept entries
    → duplicate dedup moment (told_of kept entries) ≡ None

-- Whatever entries `kept` stands for, it keeps the ids of as many accepted sends as there are among them whose
-- five minutes aren't over at that moment.
abbrev pub KeepsIds : ℕ → Incarnation → Type 0
KeepsIds moment kept = (entries : List Entry) → IncarnationStandsFor kept entries
    → length kept.accepted ≡ length (filter (is_recent moment) (all_accepted (told_of kept entries)))

-- it is the same incarnation, with the same attributes
pub record IsSameQueue (old new : Incarnation) : Type 0 where
  pub number : new.number ≡ old.number
  pub attributes : new.attributes ≡ old.attributes

-- Whatever entries `kept` stands for, these are what a receive of that size hands out after them.
abbrev pub AreOffered : Incarnation → ℕ → ℕ → List Delivery → Type 0
AreOffered kept moment size deliveries = (entries : List Entry) → IncarnationStandsFor kept entries
    → deliveries ≡ map (delivery_of kept.number) (to_hand size moment (remaining kept.attributes.visibility (told_of kept entries)))

-- Whatever entries `kept` stands for, these are the counts of its messages after them.
abbrev pub AreCounted : Incarnation → ℕ → ℕ → ℕ → Type 0
AreCounted kept moment visible in_flight = (entries : List Entry) → IncarnationStandsFor kept entries
    → counts_of moment (remaining kept.attributes.visibility (told_of kept entries)) ≡ Counts visible in_flight
