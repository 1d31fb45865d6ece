-- The line is longer by the part.
use Rattle.std.proofs.Common.{◌++◌, ◌∙◌, ap}
use Rattle.cq_watching.proofs.Coming.{after-part}
use Rattle.cq_watching.proofs.watcher.Watcher.keep.Goals as goal

pub returns : goal.returns
returns c = λ size come kept.
    rw (after-part come c.args.part.now c.requires) (record {
      ran = kept.ran;
      begun = c.in_ok-extend_from_slice.ensures.items ∙ ap (λ line. line ++ c.args.part.now) kept.begun;
    })
