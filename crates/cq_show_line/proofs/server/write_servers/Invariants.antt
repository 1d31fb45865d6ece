-- So far the values of those that the loop has passed were sent.
use Rattle.std.proofs.Common.{map, take}
use Rattle.cq_show_line.specs.Lines.{server_data}
use Rattle.cq_show_line.specs.within.Parts.{SendsEach}
use Rattle.cq_show_line.proofs.server.write_servers.Given as goal

abbrev pub invariant-loop-server : goal.invariant-loop-server
invariant-loop-server g l = SendsEach (map server_data (take l.server-index l.servers)) (g.S.Serializer.written l.initial.out) (g.S.Serializer.written l.out)
