-- What was read of the journal is of the bytes of its device.
use Rattle.std.proofs.Common.{ap}
use Rattle.cq_kept_run.proofs.Looked.{is_entries}
use Rattle.cq_kept_run.proofs.entries.entries_of.Goals as goal

pub returns : goal.returns
returns g c =
    let j = c.in_ok-journal.journal in
    let e = c.in_ok-journal.ensures in (
      c.read_entries.new.journal.root.log.device.device,
      λ honest.
          is_entries j e.regions (c.read_entries.ensures.rests.honest honest) (g.D.Device.seen c.args.region.device) (ap g.D.Device.seen e.device.0) e.device.1 e.device.2
          c.in_ok-read_entries.field-0 (c.in_ok-read_entries.ensures.holds honest),
    )
