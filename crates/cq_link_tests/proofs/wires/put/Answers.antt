use Rattle.cq_link.proofs.Kept.{kept_outs}
use Rattle.cq_link_tests.proofs.wires.put.Goals as goal

pub returns : goal.returns
returns c = kept_outs c.args.ports.now.items c.args.from c.args.to c.index_mut.result.now c.index_mut-2.result.now c.put.new.self c.index_mut.ensures.value c.index_mut-2.ensures.value c.put.ensures.link
