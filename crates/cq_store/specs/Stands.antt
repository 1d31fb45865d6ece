-- What has to be kept of a list of entries, so that all that comes after it can be answered.
use Rattle.std.specs.Prelude.{◌≡◌, ℕ, ◌+◌, ◌≤◌, ◌==◌, List, [], length, map, Bool, false, nat_lt, Option, None, Some, ⊤}
use Rattle.std.specs.Map.{lookup}
use Rattle.std.specs.Str.{bytes_eq}
use Rattle.cq_base.specs.declared.ask.Entry.{Entry}
use Rattle.cq_base.specs.declared.limits.TheConstants.{REMOVAL_DELAY}
use Rattle.cq_base.specs.declared.reply.Reply.{Reply}
use Rattle.cq_base.specs.queue.Clients.{of_client, is_fresh, is_stale, kept_reply}
use Rattle.cq_base.specs.queue.Effects.{attributes_by}
use Rattle.cq_base.specs.queue.Outcomes.{Outcome, about, on}
use Rattle.cq_base.specs.queue.History.{history, last_moment}
use Rattle.cq_base.specs.queue.Incarnations.{Incarnation, IncarnationStandsFor, EndWithSend, recent_sends}
use Rattle.cq_base.specs.queue.Lifetimes.{live, creations, removed_lately}
use Rattle.cq_base.specs.queue.Messages.{messages}

-- ---- clients

-- What is kept of a client: its largest number, and the reply that it had.
pub record ClientRecord : Type 0 where
  pub number : ℕ
  pub reply : Reply

-- What is kept of a client stands for these outcomes of all entries: it tells of each number whether it is
-- fresh or stale, and the reply that a repeat gets.
pub record ClientStands (client : ℕ) (kept : ClientRecord) (outcomes : List Outcome) : Type 0 where
  pub fresh : (number : ℕ) → is_fresh client number outcomes ≡ nat_lt kept.number number
  pub stale : (number : ℕ) → is_stale client number outcomes ≡ nat_lt number kept.number
  pub reply : kept_reply client kept.number outcomes ≡ Some kept.reply

-- The same where nothing may be kept: then the client has no entry.
abbrev pub ClientKnown : ℕ → Option ClientRecord → List Outcome → Type 0
ClientKnown client None outcomes = of_client client outcomes ≡ []
ClientKnown client (Some kept) outcomes = ClientStands client kept outcomes

-- ---- names

-- What is kept of a name of queues: how many creations took effect, the moment of the last removal that
-- took effect, and the incarnation as which the queue lives.
pub record QueueRecord : Type 0 where
  pub creations : ℕ
  pub removed : Option ℕ
  pub living : Option Incarnation

-- at that moment the minute after the removal isn't over
abbrev pub is_resting : Option ℕ → ℕ → Bool
is_resting None moment = false
is_resting (Some removed) moment = nat_lt moment (removed + REMOVAL_DELAY)

-- the removal came at that moment or before
abbrev pub IsPast : Option ℕ → ℕ → Type 0
IsPast None last = ⊤
IsPast (Some removed) last = removed ≤ last

-- What is kept of the incarnation as which a queue lives stands for the entries that came to it.
pub record LivesAs (kept : Incarnation) (creation : Outcome) (outcomes : List Outcome) : Type 0 where
  pub number : kept.number ≡ creation.count
  pub attributes : kept.attributes ≡ attributes_by creation
  pub stands : IncarnationStandsFor kept (map (λ f. f.entry) (on creation.count outcomes))

-- the same by what is kept, if the queue lives, and by the creation by which it does
abbrev pub IsLiving : Option Incarnation → Option Outcome → List Outcome → Type 0
IsLiving None None outcomes = ⊤
IsLiving None (Some creation) outcomes = ⊥
IsLiving (Some kept) None outcomes = ⊥
IsLiving (Some kept) (Some creation) outcomes = LivesAs kept creation outcomes

-- What is kept of a name stands for the outcomes about it, at this last moment of all entries. A removal has
-- to be kept only as long as it hinders a creation: for each moment from the last one on, what is kept
-- tells whether the name rests.
pub record NameStandsFor (last : ℕ) (kept : QueueRecord) (outcomes : List Outcome) : Type 0 where
  pub creations : kept.creations ≡ creations outcomes
  pub past : IsPast kept.removed last
  pub removed : (moment : ℕ) → last ≤ moment → is_resting kept.removed moment ≡ removed_lately moment outcomes
  pub living : IsLiving kept.living (live outcomes) outcomes

-- how many deduplication ids are kept of the incarnation as which a queue lives; 0 if it doesn't
abbrev pub ids_of : Option Incarnation → ℕ
ids_of None = 0
ids_of (Some kept) = length kept.accepted

-- how many sends the incarnation as which a queue lives has accepted; 0 if it doesn't live
abbrev pub sent_of : Option Incarnation → ℕ
sent_of None = 0
sent_of (Some kept) = kept.sent

-- what is kept of a name that no creation took effect for
abbrev pub unknown : QueueRecord
unknown = record { creations = 0; removed = None; living = None }

-- what is kept of a name, or else what there is to say of an unknown one
abbrev pub or_unknown : Option QueueRecord → QueueRecord
or_unknown None = unknown
or_unknown (Some kept) = kept

-- ---- the store

-- What a store keeps: how many entries it took, the moment of the last, and what it keeps of clients and of
-- names.
pub record StoreKept : Type 0 where
  pub count : ℕ
  pub last : ℕ
  pub clients : List (ℕ × ClientRecord)
  pub queues : List (List ℕ × QueueRecord)

-- what is kept of a client
abbrev pub client_at : List (ℕ × ClientRecord) → ℕ → Option ClientRecord
client_at clients client = lookup (λ c. client == c) clients

-- what is kept of a name
abbrev pub name_at : List (List ℕ × QueueRecord) → List ℕ → Option QueueRecord
name_at queues queue = lookup (λ q. bytes_eq queue q) queues

-- The store stands for the list of entries: what it keeps of each client and of each name stands for what
-- they did.
pub record StandsFor (kept : StoreKept) (entries : List Entry) : Type 0 where
  pub count : kept.count ≡ length entries
  pub last : kept.last ≡ last_moment entries
  pub clients : (client : ℕ) → ClientKnown client (client_at kept.clients client) (history entries)
  pub queues : (queue : List ℕ) → NameStandsFor kept.last (or_unknown (name_at kept.queues queue)) (about queue (history entries))

-- what these entries did on the incarnation of a queue that this creation made
abbrev pub done_on : List Entry → List ℕ → Outcome → List Outcome
done_on entries queue creation = on creation.count (about queue (history entries))

-- So many deduplication ids are kept of a queue after these entries. Where it lives, and the last that they did on it
-- was a send that was answered with a sequence number, there are as many as it accepted sends in the five minutes up to
-- that one. A queue that lives never keeps more than it accepted sends, so that one which accepted none keeps none; nor
-- does one that doesn't live.
pub record AreIdsKept (count : ℕ) (entries : List Entry) (queue : List ℕ) : Type 0 where
  pub fewer : (creation : Outcome) → live (about queue (history entries)) ≡ Some creation → count ≤ length (messages (done_on entries queue creation))
  pub sent : (creation : Outcome) (moment : ℕ) → live (about queue (history entries)) ≡ Some creation → EndWithSend (done_on entries queue creation) moment
      → count ≡ recent_sends moment (done_on entries queue creation)
  pub dead : live (about queue (history entries)) ≡ None → count ≡ 0

-- so many ids are kept of the queue of that name, as the store has it
abbrev pub ids_kept : StoreKept → List ℕ → ℕ
ids_kept kept queue = ids_of (or_unknown (name_at kept.queues queue)).living

-- how many entries the store has taken
abbrev pub count_of : StoreKept → ℕ
count_of kept = kept.count

-- the moment of the last entry that the store has taken; 0 before the first
abbrev pub last_of : StoreKept → ℕ
last_of kept = kept.last
