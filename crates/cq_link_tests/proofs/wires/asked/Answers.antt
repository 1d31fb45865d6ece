use Rattle.cq_link.proofs.Kept.{tied_inbox}
use Rattle.cq_link_tests.proofs.wires.asked.Goals as goal

pub returns : goal.returns
returns g c tied = tied_inbox c.args.wires.now c.args.server c.index_mut.result.now c.take.new.self tied c.index_mut.ensures.value c.take.ensures.inbox
