-- So far each thread has the node at its place, and the others are still to be started.
use Rattle.std.proofs.Common.{◌≡◌, ◌++◌, map}
use Rattle.cq_threads.proofs.threads.start_servers.Given as goal

abbrev pub invariant-loop-node : goal.invariant-loop-node
invariant-loop-node g l = map (λ thread. thread.promise.was.value) l.threads.items ++ l.node-iterator.rest.items ≡ l.fn.nodes.items
