-- A store whose lookups are the same stands for the same entries.
use Rattle.std.proofs.Common.{ap, refl, sym, subst}
use Rattle.cq_store.specs.Stands.{StoreKept, StandsFor}
use Rattle.cq_store.proofs.StoreStands.{same-stands}
use Rattle.cq_store.proofs.store.Store.try_copy.Goals as goal

pub returns : goal.returns
returns c =
    let kept : StoreKept = record { count = c.self.inside.count; last = c.self.inside.last; clients = c.self.inside.clients.kept; queues = c.self.inside.queues } in
    let copy : StoreKept = record { count = c.self.inside.count; last = c.self.inside.last; clients = c.in_ok-try_copy.field-0.kept; queues = c.in_ok-try_copy-2.field-0 } in
    record {
      count = ap (λ s. s.count) c.self.view_is;
      last = ap (λ s. s.last) c.self.view_is;
      stands = λ entries h. same-stands kept copy entries refl refl c.in_ok-try_copy.ensures c.in_ok-try_copy-2.ensures (subst (λ s. StandsFor s entries) (sym c.self.view_is) h);
    }
