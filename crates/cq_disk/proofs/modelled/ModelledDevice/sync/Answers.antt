use Rattle.cq_disk.proofs.Histories.{one_more}
use Rattle.cq_disk.proofs.modelled.ModelledDevice.sync.Goals as goal

pub returns-then-not-had_failed-clause-keeps : goal.returns-then-not-had_failed-clause-keeps
returns-then-not-had_failed-clause-keeps g c =
    let d = c.args.self.now in
    one_more d.torn d.len (g.C.Calls.history d.calls) (g.C.Calls.history c.sync-is_done.new.self) _ c.sync-is_done.ensures

pub returns-else-is_done-clause-keeps : goal.returns-else-is_done-clause-keeps
returns-else-is_done-clause-keeps g c =
    let d = c.args.self.now in
    one_more d.torn d.len (g.C.Calls.history d.calls) (g.C.Calls.history c.sync-is_done.new.self) _ c.sync-is_done.ensures
