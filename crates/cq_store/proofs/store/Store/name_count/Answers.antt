-- Each name that is found is within the bounds, and none is there twice.
use Rattle.std.proofs.Common.{subst}
use Rattle.std.specs.List.{All}
use Rattle.std.specs.Map.{values_of}
use Rattle.cq_store.specs.Parts.{IsWithin}
use Rattle.cq_store.specs.Stands.{StoreKept}
use Rattle.cq_store.proofs.Parts.{within-all}
use Rattle.cq_store.proofs.store.Store.name_count.Goals as goal

pub returns-clause-within : goal.returns-clause-within
returns-clause-within c =
    subst (λ (s : StoreKept). All (IsWithin s.count s.last) (values_of s.queues)) c.self.view_is
    (within-all c.self.inside.count c.self.inside.last c.self.inside.queues c.len.ensures.distinct c.self.invariant)
