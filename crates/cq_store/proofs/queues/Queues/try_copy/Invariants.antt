-- So far the copy has the names that the loop has passed.
use Rattle.std.specs.Str.{bytes_eq}
use Rattle.cq_store.proofs.Copies.{IsCopied}
use Rattle.cq_store.proofs.queues.Queues.try_copy.Given as goal

abbrev pub invariant-loop-i : goal.invariant-loop-i
invariant-loop-i l = IsCopied bytes_eq l.self-inside.kept.entries l.kept.entries l.i
