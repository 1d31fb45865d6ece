use Rattle.crossbeam_channel.specs.Claims.{view}
use Rattle.cq_link.specs.Tags.{tagged}
use Rattle.cq_link.proofs.Deliver.{sends}
use Rattle.cq_link.proofs.inbox.InPut.put.Goals as goal

pub try_send_as-requires-clause-rule : goal.try_send_as-requires-clause-rule
try_send_as-requires-clause-rule g c = let self = c.args.self.now in (sends _ self.pass.id (view self.pass) (tagged self.second c.args.item) self.role, λ _ _ _ _. tt)
