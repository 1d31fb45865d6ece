-- A queue that lives isn't created anew.
use Rattle.cq_store.specs.Stands.{QueueRecord}
use Rattle.cq_store.proofs.AsksStand.{again_seen}
use Rattle.cq_store.proofs.queue_record.QueueRecord.create.Goals as goal

pub returns-in-Some-clause-ok : goal.returns-in-Some-clause-ok
returns-in-Some-clause-ok c = λ queue.
    let kept : QueueRecord = record { creations = c.self.inside.creations; removed = c.self.inside.removed; living = c.self.inside.living } in
    again_seen kept c.args.self.now c.in-Some.queue c.args.moment queue c.args.visibility c.args.content c.create_again.result.reply c.self.view_is c.create_again.ensures.reply c.in-Some.is
