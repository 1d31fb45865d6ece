-- So far servers had their turns, each the first one for which something waited.
use Rattle.std.proofs.Common.{◌≡◌}
use Rattle.cq_server_process.specs.Rounds.{TellsSome}
use Rattle.cq_server_process.specs.Turns.{at}
use Rattle.cq_server_process.proofs.turns.turns_of_servers.Given as goal

abbrev pub invariant-loop : goal.invariant-loop
invariant-loop l = record {
  tells : TellsSome l.initial.links.gone.keys l.fn.before (at l.initial.links l.initial.core) l.last (at l.links l.core) l.first l.initial.out.items l.out.items;
  incoming : l.links.incoming ≡ l.initial.links.incoming;
  gone : l.links.gone ≡ l.initial.links.gone;
}
