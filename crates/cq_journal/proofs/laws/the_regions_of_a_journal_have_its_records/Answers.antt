use Rattle.cq_journal.specs.Journal.{journal_places}
use Rattle.cq_journal.proofs.RegionLists.{regions_have_all}
use Rattle.cq_journal.proofs.laws.the_regions_of_a_journal_have_its_records.Goals as goal

pub returns : goal.returns
returns g c =
    let j = c.args._journal.now in
    regions_have_all j.len (journal_places j) (g.D.Device.seen j.root.log.device.device)
