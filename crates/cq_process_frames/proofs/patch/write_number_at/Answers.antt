-- Each half is written over its bytes.
use Rattle.cq_process_frames.proofs.Overwriting.{both-written}
use Rattle.cq_process_frames.proofs.patch.write_number_at.Goals as goal

pub returns : goal.returns
returns c = λ a m i r is la lm li. both-written c.args.bytes.now c.write_u64_at.new.bytes c.write_u64_at-2.new.bytes a m i r c.args.number c.args.place is c.write_u64_at.ensures c.write_u64_at-2.ensures la lm li
