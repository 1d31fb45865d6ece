use Rattle.cq_frames.specs.Layout.{response}
use Rattle.cq_frames.specs.Limits.{IsResponse}
use Rattle.cq_frames.specs.Reading.{response_at}
use Rattle.cq_frames.proofs.ResponseLaws.{response_is_read}
use Rattle.cq_wire.proofs.Wholes.{whole_is_read}
use Rattle.cq_frames.proofs.laws.written_responses_are_read.Goals as goal

pub returns : goal.returns
returns c = whole_is_read response response_at IsResponse response_is_read
