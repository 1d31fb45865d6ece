-- The ids are those of the queue that lives.
use Rattle.std.proofs.Common.{◌≡◌, ◌≤◌, subst, sym}
use Rattle.cq_store.specs.Stands.{StoreKept, StandsFor, AreIdsKept, name_at, or_unknown, sent_of, ids_kept}
use Rattle.cq_store.proofs.AsksStand.{ids-kept}
use Rattle.cq_store.proofs.store.Store.kept_ids.Goals as goal

pub returns : goal.returns
returns c = record {
  value = subst (λ k. c.kept_ids.result ≡ ids_kept k c.args.queue.now) c.self.view_is c.kept_ids.ensures.value;
  stands = λ entries h.
      let kept : StoreKept = record { count = c.self.inside.count; last = c.self.inside.last; clients = c.self.inside.clients.kept; queues = c.self.inside.queues } in
      let inside : StandsFor kept entries = subst (λ k. StandsFor k entries) (sym c.self.view_is) h in
      let few = subst (λ n. n ≤ sent_of (or_unknown (name_at kept.queues c.args.queue.now)).living) c.kept_ids.ensures.value c.kept_ids.ensures.fewer in
      subst (λ n. AreIdsKept n entries c.args.queue.now) (sym c.kept_ids.ensures.value) (ids-kept (or_unknown (name_at kept.queues c.args.queue.now)) kept.last entries c.args.queue.now few (inside.queues c.args.queue.now));
}
