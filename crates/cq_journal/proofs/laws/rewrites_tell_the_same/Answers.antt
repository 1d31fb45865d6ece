use Rattle.cq_journal.proofs.Changes.{rewrites, rewrites_at_any_moment}
use Rattle.cq_journal.proofs.laws.rewrites_tell_the_same.Goals as goal

pub returns-clause-done : goal.returns-clause-done
returns-clause-done c = rewrites

pub returns-clause-any_moment : goal.returns-clause-any_moment
returns-clause-any_moment c = rewrites_at_any_moment
