-- One incarnation of a queue by itself: what happens to it, and what has to be kept of it.
use Rattle.std.specs.Prelude.{◌≡◌, ℕ, ◌+◌, ◌≤◌, ◌&&◌, ◌||◌, List, [], ◌∷◌, ◌++◌, length, map, Bool, true, nat_lt, Option, None, option_map}
use Rattle.std.specs.List.{filter, find, fold, last_or}
use Rattle.std.specs.Str.{bytes_eq}
use Rattle.cq_base.specs.declared.limits.TheConstants.{DEDUPLICATION_WINDOW}
use Rattle.cq_base.specs.declared.ask.Entry.{Entry}
use Rattle.cq_base.specs.declared.reply.Reply.TheVariants.{Sent}
use Rattle.cq_base.specs.queue.Asks.{Attributes, is_send, is_receive, is_change, dedup_of}
use Rattle.cq_base.specs.queue.Effects.{effect_on}
use Rattle.cq_base.specs.queue.Outcomes.{Outcome}
use Rattle.cq_base.specs.queue.History.{outcome_with}
use Rattle.cq_base.specs.queue.Messages.{Message, messages, duplicate, remaining, moment_of}

-- what an entry does that comes to an incarnation, by what those before it did
abbrev pub coming : ℕ → Attributes → List Outcome → Entry → Outcome
coming incarnation own outcomes e = outcome_with e incarnation (effect_on incarnation own e.moment outcomes e.request.ask)

-- What happens to the incarnation of that number, with `own` for its attributes: what the entries do
-- that come to it, in order. It is the part of a history that is on the incarnation, made of the
-- entries of that part alone.
unfoldable pub lifetime : ℕ → Attributes → List Entry → List Outcome
lifetime incarnation own entries = fold (λ outcomes e. outcomes ++ coming incarnation own outcomes e ∷ []) [] entries

-- An accepted send, as far as its deduplication id goes.
pub record Accepted : Type 0 where
  pub dedup : List ℕ
  pub moment : ℕ
  pub sequence : ℕ

-- its five minutes aren't over at that moment
abbrev pub is_recent : ℕ → Accepted → Bool
is_recent moment a = nat_lt moment (a.moment + DEDUPLICATION_WINDOW)

-- the accepted send of an outcome
abbrev pub accepted_of : Outcome → Accepted
accepted_of f = record { dedup = dedup_of f.entry.request.ask; moment = f.entry.moment; sequence = f.count }

-- all accepted sends of these outcomes, in order
abbrev pub all_accepted : List Outcome → List Accepted
all_accepted outcomes = map accepted_of (messages outcomes)

-- it has that deduplication id, and at that moment its five minutes aren't over
abbrev pub counts_for : List ℕ → ℕ → Accepted → Bool
counts_for id moment a = bytes_eq a.dedup id && nat_lt moment (a.moment + DEDUPLICATION_WINDOW)

-- the sequence number with which a send of that deduplication id is answered at that moment, if it
-- repeats one of these
abbrev pub repeated : List ℕ → ℕ → List Accepted → Option ℕ
repeated id moment accepted = option_map (λ a. a.sequence) (find (counts_for id moment) accepted)

-- What is kept of an incarnation.
pub record Incarnation : Type 0 where
  -- its number
  pub number : ℕ
  -- the attributes with which it was created
  pub attributes : Attributes
  -- how many sends it has accepted
  pub sent : ℕ
  -- the messages that aren't deleted, in order of sending
  pub messages : List Message
  -- accepted sends by which repeats are known
  pub accepted : List Accepted
  -- the moment of the last send, receive or effective change that came to it; 0 before the first
  pub last : ℕ
  -- how many sends and receives came to it
  pub used : ℕ

-- it is a send or a receive
abbrev pub is_use : Outcome → Bool
is_use f = is_send f.entry.request.ask || is_receive f.entry.request.ask

-- it is a send, a receive, or a change that took effect
abbrev pub is_clocked : Outcome → Bool
is_clocked f = is_use f || f.effective && is_change f.entry.request.ask

-- What happened to an incarnation, by what is kept of it and the entries that came to it.
abbrev pub told_of : Incarnation → List Entry → List Outcome
told_of kept entries = lifetime kept.number kept.attributes entries

-- These outcomes end with a send at that moment that was answered with a sequence number.
pub record EndWithSend (outcomes : List Outcome) (moment : ℕ) : Type 0 where
  pub before : List Outcome
  pub send : Outcome
  pub number : ℕ
  pub is : outcomes ≡ before ++ send ∷ []
  pub sends : is_send send.entry.request.ask ≡ true
  pub at_moment : send.entry.moment ≡ moment
  pub replied : send.reply ≡ Sent number

-- how many of the accepted sends of these outcomes are less than five minutes old at that moment
abbrev pub recent_sends : ℕ → List Outcome → ℕ
recent_sends moment outcomes = length (filter (is_recent moment) (all_accepted outcomes))

-- What is kept stands for the entries that came to the incarnation. Of the accepted sends only those have
-- to be kept that a later send can repeat: for each deduplication id, and each moment from the last one on,
-- what is kept finds the message that the definitions find; and at each such moment the kept ones whose five
-- minutes aren't over are, in order, all whose five minutes aren't over. Just after a send that was answered with
-- a sequence number, no others are kept. Of deleted messages nothing has to be kept, and of the others only how they
-- stand.
pub record IncarnationStandsFor (kept : Incarnation) (entries : List Entry) : Type 0 where
  pub sent : kept.sent ≡ length (messages (told_of kept entries))
  pub messages : kept.messages ≡ remaining kept.attributes.visibility (told_of kept entries)
  pub window : (id : List ℕ) (moment : ℕ) → kept.last ≤ moment
      → repeated id moment kept.accepted ≡ option_map (λ f. f.count) (duplicate id moment (told_of kept entries))
  pub recent : (moment : ℕ) → kept.last ≤ moment
      → filter (is_recent moment) kept.accepted ≡ filter (is_recent moment) (all_accepted (told_of kept entries))
  pub trimmed : (moment : ℕ) → EndWithSend (told_of kept entries) moment → length kept.accepted ≡ recent_sends moment (told_of kept entries)
  pub last : kept.last ≡ moment_of (last_or None (filter is_clocked (told_of kept entries)))
  pub used : kept.used ≡ length (filter is_use (told_of kept entries))
