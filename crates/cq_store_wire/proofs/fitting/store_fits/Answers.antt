use Rattle.std.proofs.Common.{◌≡◌, ℕ, suc, ◌+◌, take, subst, arith}
use Rattle.std.specs.List.{AllByRecursion}
use Rattle.cq_store_wire.specs.Laws.{IsName}
use Rattle.cq_store_wire.proofs.NamesTaken.{all-taken, one-more}
use Rattle.cq_store_wire.proofs.fitting.store_fits.Goals as goal

pub loop-index-init : goal.loop-index-init
loop-index-init c = tt

pub loop-index-preserved : goal.loop-index-preserved
loop-index-preserved c =
    let next : suc c.loop-index.index ≡ c.loop-index.index + 1 = omega arith in
    subst (λ (k : ℕ). AllByRecursion IsName (take k c.args.store.now.queues)) next (one-more c.args.store.now.queues c.loop-index.index c.loop-index.invariant c.name_holds.ensures)

pub returns : goal.returns
returns c = record {
  clients = c.client_count-clients.ensures.distinct;
  names = c.name_count-count.ensures.distinct;
  within = c.name_count-count.ensures.within;
  queues = all-taken c.args.store.now.queues c.loop-index.index (omega (arith, c.loop-index-test.false, c.name_count-count.ensures.count)) c.loop-index.invariant;
}
