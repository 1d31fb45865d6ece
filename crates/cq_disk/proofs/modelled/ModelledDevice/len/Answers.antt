use Rattle.std.proofs.Common.{sym}
use Rattle.cq_disk.proofs.Histories.{seen_len}
use Rattle.cq_disk.proofs.modelled.ModelledDevice.len.Goals as goal

pub returns : goal.returns
returns g c =
    let d = c.args.self.now in
    sym (seen_len d.len g.S.Start.shown (g.C.Calls.history d.calls) d.within)
