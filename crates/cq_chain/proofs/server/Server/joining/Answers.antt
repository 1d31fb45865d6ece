-- Its state is that of a server that joins, and nothing waits.
use Rattle.std.proofs.Common.{refl, sym, [], subst}
use Rattle.cq_chain.specs.Servers.{joining}
use Rattle.cq_chain.specs.Stands.{AllMean}
use Rattle.cq_chain.proofs.ServerStands.{stands}
use Rattle.cq_chain.proofs.server.Server.joining.Goals as goal

pub returns : goal.returns
returns c = stands _ joining (λ _. []) (record {
  entries = c.in_ok-new.ensures;
  acked = refl;
  pred = refl;
  succ = refl;
  head = refl;
  at_least = refl;
  full = refl;
  down = refl;
  waiting = λ to. subst (λ xs. AllMean xs []) (sym (c.new-2.ensures to)) tt;
})
