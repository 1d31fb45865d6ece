-- The counts are those at the last moment.
use Rattle.std.proofs.Common.{subst, sym}
use Rattle.cq_store.specs.Stands.{StoreKept, StandsFor, name_at, or_unknown}
use Rattle.cq_store.proofs.StoreStands.{came-by, counts-stand}
use Rattle.cq_store.proofs.store.Store.query.Goals as goal

pub counts-requires : goal.counts-requires
counts-requires c = came-by c.self.inside.count c.self.inside.last (or_unknown (name_at c.self.inside.queues c.args.query.now.queue)).living (c.self.invariant c.args.query.now.queue).living

pub returns : goal.returns
returns c = record {
  stands = λ entries h.
      let kept : StoreKept = record { count = c.self.inside.count; last = c.self.inside.last; clients = c.self.inside.clients.kept; queues = c.self.inside.queues } in
      counts-stand kept entries c.args.query.now.queue c.counts.result c.counts.ensures (subst (λ k. StandsFor k entries) (sym c.self.view_is) h);
}
