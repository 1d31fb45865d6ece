-- Of the parties so far it is the first one.
use Rattle.std.proofs.Common.{take}
use Rattle.cq_chain.proofs.Next.{Least}
use Rattle.cq_chain.proofs.outboxes.Outboxes.next_waiting.Given as goal

abbrev pub invariant-loop-party : goal.invariant-loop-party
invariant-loop-party l = Least l.self l.after l.next (take l.party-index l.party-items)
