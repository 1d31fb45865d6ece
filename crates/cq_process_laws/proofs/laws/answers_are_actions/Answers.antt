use Rattle.cq_process_laws.proofs.Answering.{answers-are-actions}
use Rattle.cq_process_laws.proofs.laws.answers_are_actions.Goals as goal

pub returns : goal.returns
returns c = answers-are-actions
