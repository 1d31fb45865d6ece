-- The change takes effect or is refused.
use Rattle.std.proofs.lemmas.Result.{err_from_is_err_and}
use Rattle.cq_queue.proofs.Changes.{stands-changing, stands-idle, reply-changed_as}
use Rattle.cq_queue.proofs.queue.Queue.change.Goals as goal

pub returns-in_err-alteration-clause-stands : goal.returns-in_err-alteration-clause-stands
returns-in_err-alteration-clause-stands c = stands-idle c.args.self.now c.args.moment c.args.receipt.now c.args.visibility c.alteration.ensures.positive c.requires.order c.in_err-alteration.ensures.effective

pub returns-in_err-alteration-clause-err : goal.returns-in_err-alteration-clause-err
returns-in_err-alteration-clause-err c =
    let p = err_from_is_err_and c.from_residual.result c.from_residual.ensures.1 in
    rw (p.1, p.2) (reply-changed_as c.args.self.now c.args.moment c.args.receipt.now c.args.visibility _ c.alteration.ensures.positive c.in_err-alteration.ensures.reply)

pub returns-clause-stands : goal.returns-clause-stands
returns-clause-stands c = rw (c.hide.ensures, c.sequence.ensures.value) (stands-changing c.args.self.now c.args.moment c.args.receipt.now c.args.visibility c.alteration.ensures.positive c.requires.order c.in_ok-alteration.ensures.effective)

pub returns-clause-ok : goal.returns-clause-ok
returns-clause-ok c = reply-changed_as c.args.self.now c.args.moment c.args.receipt.now c.args.visibility _ c.alteration.ensures.positive c.in_ok-alteration.ensures.reply
