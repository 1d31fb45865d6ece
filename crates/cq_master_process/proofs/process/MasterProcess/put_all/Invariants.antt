-- So far messages were put, one at each turn of the loop.
use Rattle.std.proofs.Common.{◌≡◌, true}
use Rattle.cq_master_process.specs.Links.{is_open, put_of}
use Rattle.cq_master_process.specs.within.Behind.{PutsFor}
use Rattle.cq_master_process.proofs.process.MasterProcess.put_all.Given as goal

abbrev pub invariant-loop : goal.invariant-loop
invariant-loop l = record {
  puts : PutsFor l.initial.self l.self l.to l.initial.out.items l.out.items;
  number : l.counter ≡ put_of l.self.links l.to;
  opened : is_open l.self.links l.to ≡ true;
}
