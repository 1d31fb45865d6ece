-- The batch goes to the region that grows, or to one more.
use Rattle.cq_journal.proofs.Copies.{rests_on}
use Rattle.cq_kept_base.proofs.writer.commit_batch.Goals as goal

pub returns-in_err-widen_base-clause-rests : goal.returns-in_err-widen_base-clause-rests
returns-in_err-widen_base-clause-rests g c = rests_on c.args.journal.now c.add_batch.new.journal c.widen_base.new.journal c.add_batch.ensures.rests c.widen_base.ensures.rests

pub returns-clause-rests : goal.returns-clause-rests
returns-clause-rests g c =
    let widened = rests_on c.args.journal.now c.add_batch.new.journal c.widen_base.new.journal c.add_batch.ensures.rests c.widen_base.ensures.rests in
    rests_on c.args.journal.now c.widen_base.new.journal c.add_batch-2.new.journal widened c.add_batch-2.ensures.rests
