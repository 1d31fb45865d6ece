-- All of its state is that of a server alone, and nothing waits.
use Rattle.std.proofs.Common.{◌∙◌, refl, sym, subst, []}
use Rattle.cq_chain.specs.Servers.{alone}
use Rattle.cq_chain.specs.Stands.{AllMean}
use Rattle.cq_chain.proofs.ServerStands.{stands}
use Rattle.cq_chain.proofs.server.Server.alone.Goals as goal

pub returns : goal.returns
returns c = λ entries outbox own nothing.
    let recalls = c.of_store-replica.ensures entries own in
    stands _ (alone entries) outbox (record {
      entries = recalls;
      acked = c.count.ensures ∙ recalls.store.count;
      pred = refl;
      succ = refl;
      head = refl;
      at_least = refl;
      full = refl;
      down = refl;
      waiting = λ to. subst (λ xs. AllMean xs (outbox to)) (sym (c.new.ensures to)) (subst (λ ms. AllMean [] ms) (sym (nothing to)) tt);
    })
