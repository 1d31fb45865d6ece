-- Nothing is kept of no entries.
use Rattle.std.proofs.Common.{refl}
use Rattle.cq_store.specs.Stands.{StoreKept}
use Rattle.cq_store.proofs.StoreStands.{none-stands}
use Rattle.cq_store.proofs.store.Store.new.Goals as goal

pub returns : goal.returns
returns c = let kept : StoreKept = record { count = 0; last = c.zero.result; clients = c.new.result.kept; queues = c.new-2.result } in none-stands kept refl c.zero.ensures c.new.ensures.none c.new-2.ensures.none
