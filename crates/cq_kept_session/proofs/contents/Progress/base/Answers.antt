-- What was read is of the base, or there is none.
use Rattle.cq_kept_session.proofs.Gathered.{is_of_fresh}
use Rattle.cq_kept_session.proofs.contents.Progress.base.Goals as goal

pub returns-in-Fresh : goal.returns-in-Fresh
returns-in-Fresh c = λ lines has. is_of_fresh c.args.self lines c.in-Fresh.is has
