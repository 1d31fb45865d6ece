-- One message more waits for the server.
use Rattle.cq_base.specs.declared.party.Party.TheVariants as parties
use Rattle.cq_chain.proofs.MasterStands.{said-stands, one-for}
use Rattle.cq_chain.proofs.master.Master.say_one.Goals as goal

pub returns : goal.returns
returns c = λ m outbox all h for.
    said-stands c.args.self.now m outbox c.push.new.self c.args.said.0 c.args.said.1 all h for
    (one-for (parties.Server c.args.said.0) c.args.said.1 all c.args.self.now.outboxes c.push.new.self for c.push.ensures.posts)
