-- So far the fifo has the entries that the loop has passed, each at its place.
use Rattle.std.proofs.Common.{ℕ, ◌+◌, ◌-◌, List, take, drop}
use Rattle.cq_base.specs.declared.ask.Entry.{Entry}
use Rattle.cq_base.specs.declared.party.Party.TheVariants as parties
use Rattle.cq_chain.specs.Steps.{forwards}
use Rattle.cq_chain.specs.within.Replicas.{Recalls}
use Rattle.cq_chain.specs.within.Waiting.{AllFor}
use Rattle.cq_chain.proofs.server.repair.missing.Given as goal

abbrev pub invariant-loop-before : goal.invariant-loop-before
invariant-loop-before l = (history : List Entry) (floor : ℕ) → Recalls l.replica history floor → (to : ℕ) → AllFor (parties.Server to) l.fifo.messages (forwards to (l.have + 1) (take (l.before - l.have) (drop l.have history)))
