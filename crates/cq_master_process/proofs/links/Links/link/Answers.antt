-- What the map finds.
use Rattle.std.proofs.Common.{Some, None}
use Rattle.cq_master_process.specs.Links.{gone_in, put_in, taken_in}
use Rattle.cq_master_process.proofs.Counting.{found}
use Rattle.cq_master_process.proofs.links.Links.link.Goals as goal

pub returns-in-Some-clause-taken : goal.returns-in-Some-clause-taken
returns-in-Some-clause-taken c = found taken_in c.self.inside.links.entries c.args.self.now c.args.id (Some c.in-Some.link.now) c.self.view_is c.in-Some.ensures.value

pub returns-in-None-clause-taken : goal.returns-in-None-clause-taken
returns-in-None-clause-taken c = found taken_in c.self.inside.links.entries c.args.self.now c.args.id None c.self.view_is c.in-None.ensures.value

pub returns-in-Some-clause-put : goal.returns-in-Some-clause-put
returns-in-Some-clause-put c = found put_in c.self.inside.links.entries c.args.self.now c.args.id (Some c.in-Some.link.now) c.self.view_is c.in-Some.ensures.value

pub returns-in-None-clause-put : goal.returns-in-None-clause-put
returns-in-None-clause-put c = found put_in c.self.inside.links.entries c.args.self.now c.args.id None c.self.view_is c.in-None.ensures.value

pub returns-in-Some-clause-gone : goal.returns-in-Some-clause-gone
returns-in-Some-clause-gone c = found gone_in c.self.inside.links.entries c.args.self.now c.args.id (Some c.in-Some.link.now) c.self.view_is c.in-Some.ensures.value

pub returns-in-None-clause-gone : goal.returns-in-None-clause-gone
returns-in-None-clause-gone c = found gone_in c.self.inside.links.entries c.args.self.now c.args.id None c.self.view_is c.in-None.ensures.value
