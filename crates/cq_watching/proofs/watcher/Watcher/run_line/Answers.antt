-- The line is whole, and ends.
use Rattle.cq_watching.specs.Coming.{after_bytes}
use Rattle.cq_watching.specs.Watching.{line_text}
use Rattle.cq_watching.proofs.Adding.{adds-as, keeps-as, on_ok_map}
use Rattle.cq_watching.proofs.Coming.{after-line, by-line}
use Rattle.cq_watching.proofs.watcher.Watcher.run_line.Goals as goal

pub returns-clause-adds : goal.returns-clause-adds
returns-clause-adds g c = λ size come kept.
    adds-as c.end_line.result _ _ _ _ (by-line (line_text size) come c.args.rest.now c.requires)
    (c.end_line.ensures.adds size (after_bytes come c.args.rest.now) (c.in_ok-keep.ensures size come kept))

pub returns-clause-keeps : goal.returns-clause-keeps
returns-clause-keeps g c = λ size come kept.
    on_ok_map c.end_line.result (keeps-as size _ _ c.end_line.new.self (after-line come c.args.rest.now c.requires))
    (c.end_line.ensures.keeps size (after_bytes come c.args.rest.now) (c.in_ok-keep.ensures size come kept))
