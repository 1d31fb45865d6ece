-- What comes of the lines was written.
use Rattle.std.proofs.Common.{◌++◌}
use Rattle.cq_watching.specs.Watching.{ended_text}
use Rattle.cq_watching.proofs.Adding.{more-adds}
use Rattle.cq_watching.proofs.watcher.run.Goals as goal

pub returns-clause-adds : goal.returns-clause-adds
returns-clause-adds g c = λ size before ran.
    let w = c.feed.ensures.writes size before ran in
    more-adds c.feed.result _ _ (ended_text size before) (ended_text size (before ++ c.args.bytes.now)) w.0 w.1 w.2 w.3
