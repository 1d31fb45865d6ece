-- A search found none.
use Rattle.cq_kept_session.proofs.Chunks.{found_none}
use Rattle.cq_kept_session.proofs.text.is_unmarked.Goals as goal

pub returns : goal.returns
returns c = found_none c.args.bytes.now c.memchr2.result c.is_none.result c.memchr2.ensures c.is_none.ensures
