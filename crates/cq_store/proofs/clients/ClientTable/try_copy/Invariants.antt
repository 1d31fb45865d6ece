-- So far the copy has the clients that the loop has passed.
use Rattle.std.specs.Prelude.{nat_eq}
use Rattle.cq_store.proofs.Copies.{IsCopied}
use Rattle.cq_store.proofs.clients.ClientTable.try_copy.Given as goal

abbrev pub invariant-loop-i : goal.invariant-loop-i
invariant-loop-i l = IsCopied nat_eq l.self-inside.kept.entries l.kept.entries l.i
