-- The link is there, and another one now.
use Rattle.cq_master_process.proofs.Counting.{no-link, open-here, written}
use Rattle.cq_master_process.proofs.links.Links.set.Goals as goal

pub unreachable-requires : goal.unreachable-requires
unreachable-requires c = no-link c.self.inside.links.entries c.args.self.now c.args.id c.self.view_is c.in-Err.ensures.absent c.requires

pub returns-clause-writes : goal.returns-clause-writes
returns-clause-writes c = written c.self.inside.links.entries c.args.self.now c.insert.new.self.entries c.args.id c.args.link c.self.view_is c.in-Ok.ensures.updates.0

pub returns-clause-open : goal.returns-clause-open
returns-clause-open c =
    let new = c.insert.new.self.entries in
    open-here c.args.self.now new c.args.id c.args.link (written c.self.inside.links.entries c.args.self.now new c.args.id c.args.link c.self.view_is c.in-Ok.ensures.updates.0)
