use Rattle.cq_master_process.proofs.Acting.{answers-act}
use Rattle.cq_master_process.proofs.laws.answers_are_actions.Goals as goal

pub returns : goal.returns
returns c = answers-act
