-- What is known of each queue, besides what it stands for.
use Rattle.std.specs.Prelude.{ℕ, ◌<◌, ◌≤◌, List, length}
use Rattle.std.specs.List.{All}
use Rattle.cq_base.specs.declared.limits.TheConstants.{HISTORY_LIMIT}
use Rattle.cq_base.specs.queue.Incarnations.{Accepted}
use Rattle.cq_base.specs.queue.Messages.{Message}
use Rattle.cq_queue.specs.within.Windows.{IsBy}

-- the message wasn't handed out more often than so
abbrev pub IsHandedUpTo : ℕ → Message → Type 0
IsHandedUpTo used m = m.handings ≤ used

-- the message is one of the first so many that were sent
abbrev pub IsNumberedUpTo : ℕ → Message → Type 0
IsNumberedUpTo sent m = m.sequence ≤ sent

-- The incarnation has a number, and each accepted send and each handing of a message is a use; of these
-- there aren't more than 2^62. The messages are among the accepted sends. No accepted send that is kept came after the last moment,
-- and no more are kept than there were.
pub record IsSound (number sent used : ℕ) (messages : List Message) (last : ℕ) (accepted : List Accepted) : Type 0 where
  pub positive : 0 < number
  pub sends : sent ≤ used
  pub numbers : All (IsNumberedUpTo sent) messages
  pub handings : All (IsHandedUpTo used) messages
  pub uses : used ≤ HISTORY_LIMIT
  pub latest : All (IsBy last) accepted
  pub fewer : length accepted ≤ sent
