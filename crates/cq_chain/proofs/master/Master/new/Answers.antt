-- It knows the first chain, and nothing waits.
use Rattle.std.proofs.Common.{refl, sym, [], subst}
use Rattle.cq_chain.specs.Masters.{first_master}
use Rattle.cq_chain.specs.Stands.{AllMean}
use Rattle.cq_chain.proofs.MasterStands.{master-stands}
use Rattle.cq_chain.proofs.master.Master.new.Goals as goal

pub returns : goal.returns
returns c = master-stands _ (first_master c.args.size) (λ _. []) (record {
  chain = c.in_ok-first_chain.ensures;
  told = refl;
  ready = refl;
  joiner = refl;
  used = c.in_ok-first_used.ensures;
  waiting = λ to. subst (λ xs. AllMean xs []) (sym (c.new.ensures to)) tt;
  master = refl;
  clients = refl;
})
