use Rattle.cq_frames.specs.Layout.{response}
use Rattle.cq_frames.specs.Limits.{IsResponse}
use Rattle.cq_frames.specs.Reading.{response_at}
use Rattle.cq_frames.proofs.ResponseLaws.{response_is_read}
use Rattle.cq_wire.proofs.Wholes.{whole_differs}
use Rattle.cq_frames.proofs.laws.two_responses_differ.Goals as goal

pub returns : goal.returns
returns c = whole_differs response response_at IsResponse response_is_read
