use Rattle.cq_disk.proofs.Histories.{one_more}
use Rattle.cq_disk.proofs.modelled.ModelledDevice.read_at.Goals as goal

pub returns-then-read-clause-keeps : goal.returns-then-read-clause-keeps
returns-then-read-clause-keeps g c =
    let d = c.args.self.now in
    one_more d.torn d.len (g.C.Calls.history d.calls) (g.C.Calls.history c.read.new.self) _ c.read.ensures

pub returns-else-read-clause-keeps : goal.returns-else-read-clause-keeps
returns-else-read-clause-keeps g c =
    let d = c.args.self.now in
    one_more d.torn d.len (g.C.Calls.history d.calls) (g.C.Calls.history c.read.new.self) _ c.read.ensures
