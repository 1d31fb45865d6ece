-- So far the values of those that the loop has passed were sent.
use Rattle.std.proofs.Common.{map, take}
use Rattle.cq_show_line.specs.Lines.{way_data}
use Rattle.cq_show_line.specs.within.Parts.{SendsEach}
use Rattle.cq_show_line.proofs.way.write_ways.Given as goal

abbrev pub invariant-loop-way : goal.invariant-loop-way
invariant-loop-way g l = SendsEach (map way_data (take l.way-index l.ways)) (g.S.Serializer.written l.initial.out) (g.S.Serializer.written l.out)
