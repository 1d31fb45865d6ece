-- Its state is that of a first member, and nothing waits.
use Rattle.std.proofs.Common.{ap, refl, sym, [], subst, ◌==◌}
use Rattle.cq_chain.specs.Servers.{first_member}
use Rattle.cq_chain.specs.Stands.{AllMean}
use Rattle.cq_chain.proofs.ServerStands.{stands}
use Rattle.cq_chain.proofs.server.Server.first.Goals as goal

pub returns : goal.returns
returns c = stands _ (first_member c.args.size c.args.id) (λ _. []) (record {
  entries = c.in_ok-new.ensures;
  acked = refl;
  pred = c.before-2.ensures;
  succ = c.after.ensures;
  head = ap (λ n. n == 1) c.get.ensures.value;
  at_least = c.first_least.ensures;
  full = refl;
  down = refl;
  waiting = λ to. subst (λ xs. AllMean xs []) (sym (c.new-2.ensures to)) tt;
})
