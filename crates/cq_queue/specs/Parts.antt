-- What is known of each queue by its parts, and what may be put behind what a queue has.
use Rattle.std.specs.Prelude.{◌≡◌, ◌<◌, ◌≤◌, List, [], ◌∷◌, ◌++◌, length, None}
use Rattle.std.specs.List.{find, All}
use Rattle.std.specs.Str.{bytes_eq}
use Rattle.cq_base.specs.declared.limits.TheConstants.{HISTORY_LIMIT}
use Rattle.cq_base.specs.queue.Incarnations.{Incarnation, Accepted}
use Rattle.cq_base.specs.queue.Messages.{Message}

-- the accepted sends are in order of their moments, and no two have the same id
abbrev pub AreInOrder : List Accepted → Type 0
AreInOrder [] = Unit {0}
AreInOrder (a ∷ rest) = All (λ x. a.moment ≤ x.moment) rest × (find (λ x. bytes_eq x.dedup a.dedup) rest ≡ None) × AreInOrder rest

-- What holds of each queue: it has a number; there aren't more uses than 2^62, no more sends than uses, no message that wasn't
-- sent, or was handed out more often than there were uses. The accepted sends that are kept are no more than there were,
-- none of them later than the last moment.
pub record AreParts (kept : Incarnation) : Type 0 where
  pub positive : 0 < kept.number
  pub uses : kept.used ≤ HISTORY_LIMIT
  pub sends : kept.sent ≤ kept.used
  pub numbers : All (λ m. m.sequence ≤ kept.sent) kept.messages
  pub handings : All (λ m. m.handings ≤ kept.used) kept.messages
  pub past : All (λ a. a.moment ≤ kept.last) kept.accepted
  pub fewer : length kept.accepted ≤ kept.sent

-- the message may be the next one of the queue
pub record IsNextMessage (kept : Incarnation) (m : Message) : Type 0 where
  pub later : All (λ x. x.sequence < m.sequence) kept.messages
  pub sent : m.sequence ≤ kept.sent
  pub handed : m.handings ≤ kept.used

-- the accepted send may be the next one that the queue keeps
pub record IsNextAccepted (kept : Incarnation) (a : Accepted) : Type 0 where
  pub later : All (λ x. x.moment ≤ a.moment) kept.accepted
  pub own : find (λ x. bytes_eq x.dedup a.dedup) kept.accepted ≡ None
  pub past : a.moment ≤ kept.last
  pub fewer : length kept.accepted < kept.sent

-- the queue with one more message
abbrev pub and_message : Message → Incarnation → Incarnation
and_message m kept = record kept { messages = kept.messages ++ m ∷ [] }

-- and with one more accepted send
abbrev pub and_accepted : Accepted → Incarnation → Incarnation
and_accepted a kept = record kept { accepted = kept.accepted ++ a ∷ [] }
