-- From where it was.
use Rattle.cq_kept_session.proofs.Gathered.{from_base, from_fresh, from_lines, from_several}
use Rattle.cq_kept_session.proofs.Readings.{if_ok}
use Rattle.cq_kept_session.proofs.contents.Progress.read_on.Goals as goal

pub returns-in-Fresh : goal.returns-in-Fresh
returns-in-Fresh c = if_ok c.begin.result c.begin.ensures (λ next got. from_fresh c.args.self next.0 c.args.text.now next.1.now c.in-Fresh.is got)

pub returns-in-InBase : goal.returns-in-InBase
returns-in-InBase c = if_ok c.read_base.result c.read_base.ensures (λ next got. from_base c.args.self next.0 c.in-InBase.reader c.args.text.now next.1.now c.in-InBase.is got)

pub returns-in-Behind : goal.returns-in-Behind
returns-in-Behind c = from_lines c.args.self c.in-Behind.base c.args.text.now c.in-Behind.is

pub returns-in-OfSeveral : goal.returns-in-OfSeveral
returns-in-OfSeveral c = from_several c.args.self c.in-OfSeveral.servers c.args.text.now c.in-OfSeveral.is
