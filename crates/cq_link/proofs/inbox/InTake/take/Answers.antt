use Rattle.crossbeam_channel.specs.Claims.{view}
use Rattle.cq_link.proofs.Deliver.{gets}
use Rattle.cq_link.proofs.inbox.InTake.take.Goals as goal

pub try_recv_as-requires-clause-rule : goal.try_recv_as-requires-clause-rule
try_recv_as-requires-clause-rule g c = let self = c.args.self.now in (gets self.pass.id (view self.pass) self.role, λ _ _ _ _. tt)
