-- The session that goes on behind the base has run what is before it.
use Rattle.std.proofs.Common.{◌∙◌, ℕ, List, sym, subst, append-nil}
use Rattle.cq_script.specs.Resumed.{HasRun}
use Rattle.cq_kept_session.specs.Bases.{whole}
use Rattle.cq_kept_session.proofs.Readings.{is_one, run_behind}
use Rattle.cq_kept_session.proofs.kept.KeptSession.begin_behind.Goals as goal

pub returns-clause-run : goal.returns-clause-run
returns-clause-run g c =
    let size = c.args.self.now.size in
    let new = c.in_ok-self.field-0 in
    run_behind size c.in_ok-header.header c.in_ok-header.store (whole c.args.reader.header c.args.reader.store) new (is_one size c.get.result c.get.ensures.value c.if-get-ne1.false) c.in_ok-header.ensures
    (λ bytes is. subst (λ (l : List ℕ). HasRun size l new) (sym (is.are ∙ append-nil is.before)) (c.in_ok-self.ensures size is.before is.is_base))
