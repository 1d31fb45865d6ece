-- So far whole messages were put and told.
use Rattle.std.proofs.Common.{◌≡◌}
use Rattle.cq_server_process.specs.Turns.{TellsAll, at}
use Rattle.cq_server_process.proofs.turn.put_all.Given as goal

abbrev pub invariant-loop : goal.invariant-loop
invariant-loop l = record {
  tells : TellsAll l.to (at l.initial.links l.initial.core) (at l.links l.core) l.initial.out.items l.out.items;
  incoming : l.links.incoming ≡ l.initial.links.incoming;
  gone : l.links.gone ≡ l.initial.links.gone;
}
