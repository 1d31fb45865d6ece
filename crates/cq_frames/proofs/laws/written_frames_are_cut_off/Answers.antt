use Rattle.cq_frames.proofs.PartLaws.{frame_is_cut}
use Rattle.cq_frames.proofs.laws.written_frames_are_cut_off.Goals as goal

pub returns : goal.returns
returns c = frame_is_cut
