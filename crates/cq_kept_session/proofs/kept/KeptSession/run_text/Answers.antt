-- Lines go on.
use Rattle.std.proofs.Common.{refl, subst}
use Rattle.cq_kept_session.specs.Bases.{read}
use Rattle.cq_kept_session.specs.within.Readers.{IsRead, IsRun}
use Rattle.cq_kept_session.proofs.Readings.{if_ok, read_on}
use Rattle.cq_kept_session.proofs.kept.KeptSession.run_text.Goals as goal

pub returns-in-Lines-clause-run : goal.returns-in-Lines-clause-run
returns-in-Lines-clause-run g c = λ stage is.
    let old = c.args.self.now.session in
    let size = c.args.self.now.size in
    let r : IsRun size stage old = subst (λ reading. IsRead size stage reading old) c.in-Lines.is is in
    if_ok c.run_lines.result (c.run_lines.ensures.run size r.start r.lines r.fits r.run) (λ next got. read_on size (read stage c.args.text.now) stage c.args.text.now next old c.run_lines.new.self.session r refl got)
