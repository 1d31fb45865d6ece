use Rattle.cq_records.proofs.Zeros.{found_no_one}
use Rattle.cq_records.proofs.behind.has_no_one.Goals as goal

pub returns : goal.returns
returns c = found_no_one c.args.bytes.now c.memchr.result c.is_none.result c.memchr.ensures c.is_none.ensures
