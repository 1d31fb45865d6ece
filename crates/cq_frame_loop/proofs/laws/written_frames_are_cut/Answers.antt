use Rattle.cq_frame_loop.proofs.Written.{all_cut}
use Rattle.cq_frame_loop.proofs.laws.written_frames_are_cut.Goals as goal

pub returns : goal.returns
returns c = all_cut
