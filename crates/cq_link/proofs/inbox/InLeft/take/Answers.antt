use Rattle.crossbeam_channel.specs.Claims.{view}
use Rattle.cq_link.proofs.Deliver.{settles, totals, takes_left}
use Rattle.cq_link.proofs.inbox.InLeft.take.Goals as goal

pub try_recv_as-requires-clause-rule : goal.try_recv_as-requires-clause-rule
try_recv_as-requires-clause-rule g c = let self = c.args.self.now in (settles self.pass.id (view self.pass) self.roles, totals self.pass.id (view self.pass) self.roles)

pub returns-in-Ok : goal.returns-in-Ok
returns-in-Ok g c e = takes_left e (view c.args.self.now.pass) c.in-Ok.item (view c.try_recv_as.new.pass) c.in-Ok.ensures.rule
