-- So far there are the master, the clients, and the servers that the loop has passed.
use Rattle.std.proofs.Common.{◌≡◌, take}
use Rattle.cq_show.specs.Worlds.{parties_of}
use Rattle.cq_show.proofs.servers.shown_parties.Given as goal

abbrev pub invariant-loop-server : goal.invariant-loop-server
invariant-loop-server l = l.parties.items ≡ parties_of (take l.server-index l.servers)
