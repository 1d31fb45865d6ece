use Rattle.cq_records.proofs.Zeros.{found_none}
use Rattle.cq_records.proofs.frame.is_plain.Goals as goal

pub returns : goal.returns
returns c = found_none c.args.bytes.now c.memchr2.result c.is_none.result c.memchr2.ensures c.is_none.ensures
