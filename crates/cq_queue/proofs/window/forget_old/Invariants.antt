-- The loop has taken out some at the beginning, none of which was recent.
use Rattle.std.proofs.Common.{◌≡◌, ◌+◌, ◌≤◌, length}
use Rattle.std.specs.HashMap.{spare}
use Rattle.std.specs.List.{filter}
use Rattle.std.specs.VecDeque.{deque_capacity}
use Rattle.cq_base.specs.queue.Incarnations.{is_recent}
use Rattle.cq_queue.specs.within.Windows.{IsWindow}
use Rattle.cq_queue.proofs.window.forget_old.Given as goal

abbrev pub invariant-loop : goal.invariant-loop
invariant-loop l = IsWindow l.accepted.items l.known.entries
    × (filter (is_recent l.moment) l.accepted.items ≡ filter (is_recent l.moment) l.initial.accepted.items)
    × (length l.accepted.items + l.counter ≡ length l.initial.accepted.items)
    × (deque_capacity l.accepted ≡ deque_capacity l.initial.accepted)
    × (spare l.initial.known ≤ spare l.known)
