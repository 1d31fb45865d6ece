-- The lines of a session on so many servers begin.
use Rattle.std.proofs.Common.{◌∙◌, ℕ, List, [], sym, subst}
use Rattle.cq_script.specs.Resumed.{HasRun}
use Rattle.cq_kept_session.specs.Bases.{several}
use Rattle.cq_kept_session.specs.within.Readers.{IsRead}
use Rattle.cq_kept_session.proofs.Readings.{if_ok, is_same}
use Rattle.cq_kept_session.proofs.Stages.{read_lines}
use Rattle.cq_kept_session.proofs.kept.KeptSession.run_several.Goals as goal

pub returns-clause-run : goal.returns-clause-run
returns-clause-run g c = λ ran.
    let size = c.args.self.now.size in
    let servers = c.in-Some.servers in
    let lines = c.in-Some.lines.now in
    let new = c.run_lines.new.self.session in
    if_ok c.run_lines.result (c.run_lines.ensures.run size (several servers) [] (is_same size servers c.get.result c.get.ensures.value c.if-servers-get.false) (λ before none. subst (λ (l : List ℕ). HasRun size l c.args.self.now.session) (sym none) ran))
    (λ next got. subst (λ s. IsRead size s next new) (sym (c.in-Some.ensures ∙ read_lines (several servers) [] lines)) got)
