use Rattle.cq_watching.proofs.Whole.{all-text}
use Rattle.cq_watching.proofs.laws.other_lines_are_a_sessions.Goals as goal

pub returns : goal.returns
returns c = all-text
