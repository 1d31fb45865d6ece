-- By whether the server is to be the tail.
use Rattle.std.proofs.Common.{◌∙◌, sym, subst, append-nil}
use Rattle.cq_chain.specs.Stands.{StandsFor, posted}
use Rattle.cq_chain.proofs.OrderStands.{restored-tail, restored-caught}
use Rattle.cq_chain.proofs.ServerStands.{parts}
use Rattle.cq_chain.proofs.server.Server.tell_restored.Goals as goal

pub returns-in-Some : goal.returns-in-Some
returns-in-Some c = λ old now outbox h acted same.
    subst (λ sent. StandsFor c.send_ack.new.self now (posted outbox sent)) (sym (append-nil _) ∙ restored-tail old now c.args.pred _ (sym (parts c.args.self.now now outbox h).at_least ∙ c.in-Some.is)) (c.send_ack.ensures old now outbox h acted same)

pub returns-in-None : goal.returns-in-None
returns-in-None c = λ old now outbox h acted same.
    subst (λ sent. StandsFor c.tell_caught.new.self now (posted outbox sent)) (restored-caught old now c.args.pred (sym (parts c.args.self.now now outbox h).at_least ∙ c.in-None.is)) (c.tell_caught.ensures now outbox h)
