-- What a receive hands out, by the rank of each message.
use Rattle.std.specs.Prelude.{◌≡◌, ◌<◌, ◌==◌, ◌&&◌, ◌||◌, nat_lt, ℕ, List, length, map, Bool, true, Option, None, Some}
use Rattle.std.specs.List.{filter, find}
use Rattle.cq_base.specs.declared.ask.Ask.TheVariants.{Receive}
use Rattle.cq_base.specs.declared.ask.Entry.{Entry}
use Rattle.cq_base.specs.declared.reply.Reply.TheVariants.{Received}
use Rattle.cq_base.specs.queue.Effects.{visibility_by}
use Rattle.cq_base.specs.queue.Outcomes.{Outcome}
use Rattle.cq_base.specs.queue.Messages.{Message, remaining}
use Rattle.cq_base.specs.queue.Receiving.{is_same_group, is_open, delivery_of}
use Rattle.cq_base.specs.queue.History.{reply_to}
use Rattle.cq_store.specs.Laws.{IsFresh, LivesBy, so_far, handed_by}
use Rattle.cq_base.specs.Relations.{Among, Pairwise}

-- the sequence number of a message that was looked for; 0 if there is none
abbrev pub number_of : Option Message → ℕ
number_of None = 0
number_of (Some x) = x.sequence

-- The sequence number of the oldest message of the group of x, that is of the first in order of sending;
-- 0 if there is none.
unfoldable pub group_place : List Message → Message → ℕ
group_place messages x = number_of (find (is_same_group x) messages)

-- x stands before y: its group has the older oldest message, or it's of the same group and older itself
abbrev pub stands_before : List Message → Message → Message → Bool
stands_before messages x y = nat_lt (group_place messages x) (group_place messages y) || (group_place messages x == group_place messages y && nat_lt x.sequence y.sequence)

-- the messages that may be handed out: those of open groups
unfoldable pub candidates : ℕ → List Message → List Message
candidates moment messages = filter (is_open moment messages) messages

-- how many of the candidates stand before x
unfoldable pub rank : List Message → List Message → Message → ℕ
rank messages cs x = length (filter (λ y. stands_before messages y x) cs)

-- What is handed out stands in order, and is the candidates that have fewer than `size` before them:
-- these, and no others.
pub record IsByRank (size : ℕ) (messages cs handed : List Message) : Type 0 where
  pub in_order : Pairwise (λ x y. stands_before messages x y ≡ true) handed
  pub only : (x : Message) → Among x handed → Among x cs × (rank messages cs x < size)
  pub all : (x : Message) → Among x cs → rank messages cs x < size → Among x handed

-- the messages of the incarnation of that creation, as they stand after these entries
abbrev pub stood : List Entry → Entry → Outcome → List Message
stood entries e creation = remaining (visibility_by creation) (so_far entries e creation)

-- A fresh receive from a queue that lives hands out, by rank, the first so many of the messages of open
-- groups, and is answered with these.
abbrev pub HandedByRank : Type 0
HandedByRank = (entries : List Entry) (e : Entry) (creation : Outcome) (queue : List ℕ) (size : ℕ) (visibility : Option ℕ) → IsFresh entries e → LivesBy entries e creation
    → e.request.ask ≡ Receive queue size visibility
    → (handed : List Message)
    × IsByRank size (stood entries e creation) (candidates e.moment (stood entries e creation)) handed
    × (handed_by entries e ≡ map (λ m. m.sequence) handed)
    × (reply_to entries e ≡ Received (map (delivery_of creation.count) handed))

-- One list alone is by rank.
abbrev pub OneListByRank : Type 0
OneListByRank = (size : ℕ) (messages cs xs ys : List Message) → IsByRank size messages cs xs → IsByRank size messages cs ys → xs ≡ ys
