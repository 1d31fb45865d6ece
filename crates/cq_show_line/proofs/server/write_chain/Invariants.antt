-- So far the values of those that the loop has passed were sent.
use Rattle.std.proofs.Common.{map, take}
use Rattle.cq_show_line.specs.Lines.{id_data}
use Rattle.cq_show_line.specs.within.Parts.{SendsEach}
use Rattle.cq_show_line.proofs.server.write_chain.Given as goal

abbrev pub invariant-loop-id : goal.invariant-loop-id
invariant-loop-id g l = SendsEach (map id_data (take l.id-index l.chain)) (g.S.Serializer.written l.initial.out) (g.S.Serializer.written l.out)
