use Rattle.cq_link.proofs.Kept.{kept_ins}
use Rattle.cq_link_tests.proofs.wires.take.Goals as goal

pub returns : goal.returns
returns c = kept_ins c.args.ports.now.items c.args.at c.args.from c.index_mut.result.now c.index_mut-2.result.now c.take.new.self c.index_mut.ensures.value c.index_mut-2.ensures.value c.take.ensures.link
