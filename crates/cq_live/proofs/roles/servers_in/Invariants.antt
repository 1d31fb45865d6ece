-- So far there are at least the servers of the first chain.
use Rattle.std.proofs.Common.{◌≤◌}
use Rattle.cq_live.proofs.roles.servers_in.Given as goal

abbrev pub invariant-loop-join : goal.invariant-loop-join
invariant-loop-join l = l.fn.size ≤ l.servers
