-- As many as places.
use Rattle.std.proofs.Common.{[], ◌∷◌, arith, length-append}
use Rattle.cq_journal.specs.Journal.{journal_places}
use Rattle.cq_journal.proofs.RegionLists.{regions_long}
use Rattle.cq_journal.proofs.journal.Journal.region_count.Goals as goal

pub returns : goal.returns
returns g c =
    let j = c.args.self.now in
    omega (arith, c.len.ensures, regions_long j.len (journal_places j) (g.D.Device.seen j.root.log.device.device), length-append j.closed.items (j.growing ∷ []))
