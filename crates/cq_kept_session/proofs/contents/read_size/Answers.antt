-- Lines come behind the number.
use Rattle.std.proofs.Common.{[], ◌∙◌}
use Rattle.cq_kept_session.specs.Bases.{several}
use Rattle.cq_kept_session.proofs.Stages.{read_lines}
use Rattle.cq_kept_session.proofs.contents.read_size.Goals as goal

pub returns-in-Some : goal.returns-in-Some
returns-in-Some c = (tt, c.in-Some.ensures ∙ read_lines (several c.in-Some.servers) [] c.in-Some.lines.now)
