use Rattle.cq_link.proofs.Kept.{tied_out}
use Rattle.cq_link_tests.proofs.wires.ask.Goals as goal

pub returns : goal.returns
returns g c tied = tied_out c.args.wires.now c.args.server c.index_mut.result.now c.put.new.self tied c.index_mut.ensures.value c.put.ensures.inbox
