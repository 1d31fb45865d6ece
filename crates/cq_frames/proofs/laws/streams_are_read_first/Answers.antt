use Rattle.cq_frames.proofs.StreamLaws.{streams_are_first}
use Rattle.cq_frames.proofs.laws.streams_are_read_first.Goals as goal

pub returns : goal.returns
returns c = streams_are_first
