-- By whether it is the successor already.
use Rattle.std.proofs.Common.{◌∙◌, ap, sym, not}
use Rattle.cq_chain.specs.Servers.{is_that}
use Rattle.cq_chain.specs.Steps.{repair, when}
use Rattle.cq_chain.proofs.Repairs.{handed-none, handed-repair, handed-by}
use Rattle.cq_chain.proofs.ServerStands.{parts}
use Rattle.cq_chain.proofs.server.Server.handover.Goals as goal

pub returns-then-is_that : goal.returns-then-is_that
returns-then-is_that c = λ s outbox h.
    handed-none c.args.succ c.args.have s c.new.result.messages c.new.ensures (sym (c.is_that.ensures ∙ ap (λ x. is_that x c.args.succ) (parts c.args.self.now s outbox h).succ) ∙ c.if-is_that.true)

pub returns-else-is_that : goal.returns-else-is_that
returns-else-is_that c = λ s outbox h.
    handed-by c.repair.result c.args.succ (λ to. repair to c.args.have s) (when (not (is_that s.succ c.args.succ)) (repair c.args.succ c.args.have s))
    (handed-repair c.args.succ c.args.have s (sym (c.is_that.ensures ∙ ap (λ x. is_that x c.args.succ) (parts c.args.self.now s outbox h).succ) ∙ c.if-is_that.false)) (c.repair.ensures s outbox h)
