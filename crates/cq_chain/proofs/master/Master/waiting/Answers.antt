-- What is kept is as long as what it stands for.
use Rattle.std.proofs.Common.{◌∙◌}
use Rattle.cq_base.specs.declared.party.Party.TheVariants as parties
use Rattle.cq_chain.specs.within.Boxes.{messages_for}
use Rattle.cq_chain.proofs.Mailing.{means-length}
use Rattle.cq_chain.proofs.MasterStands.{master-parts}
use Rattle.cq_chain.proofs.master.Master.waiting.Goals as goal

pub returns : goal.returns
returns c = λ m outbox h. c.waiting.ensures ∙ means-length (messages_for c.args.self.now.outboxes (parties.Server c.args.to)) (outbox (parties.Server c.args.to)) ((master-parts c.args.self.now m outbox h).waiting (parties.Server c.args.to))
