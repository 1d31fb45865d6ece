-- The delete takes effect or changes nothing.
use Rattle.std.proofs.Common.{◌∙◌, sym}
use Rattle.std.proofs.lemmas.Result.{err_from_is_err_and}
use Rattle.cq_queue.proofs.Deletes.{stands-deleting, stands-idle, reply-deleted_as}
use Rattle.cq_queue.proofs.queue.Queue.delete.Goals as goal

pub returns-in_err-deleted-clause-stands : goal.returns-in_err-deleted-clause-stands
returns-in_err-deleted-clause-stands c = stands-idle c.args.self.now c.args.receipt.now c.deletion.ensures.positive c.in_err-deleted.ensures.effective

pub returns-in_err-deleted-clause-err : goal.returns-in_err-deleted-clause-err
returns-in_err-deleted-clause-err c =
    let p = err_from_is_err_and c.from_residual.result c.from_residual.ensures.1 in
    rw (p.1, p.2) (reply-deleted_as c.args.self.now c.args.receipt.now _ c.deletion.ensures.positive c.in_err-deleted.ensures.reply)

pub returns-then-deleted-clause-stands : goal.returns-then-deleted-clause-stands
returns-then-deleted-clause-stands c = rw (c.take_out.ensures, c.sequence.ensures.value) (stands-deleting c.args.self.now c.args.receipt.now c.deletion.ensures.positive (sym c.if-deleted.true ∙ c.in_ok-deleted.ensures.effective))

pub returns-then-deleted-clause-ok : goal.returns-then-deleted-clause-ok
returns-then-deleted-clause-ok c = reply-deleted_as c.args.self.now c.args.receipt.now _ c.deletion.ensures.positive c.in_ok-deleted.ensures.reply

pub returns-else-deleted-clause-stands : goal.returns-else-deleted-clause-stands
returns-else-deleted-clause-stands c = stands-idle c.args.self.now c.args.receipt.now c.deletion.ensures.positive (sym c.if-deleted.false ∙ c.in_ok-deleted.ensures.effective)

pub returns-else-deleted-clause-ok : goal.returns-else-deleted-clause-ok
returns-else-deleted-clause-ok c = reply-deleted_as c.args.self.now c.args.receipt.now _ c.deletion.ensures.positive c.in_ok-deleted.ensures.reply
