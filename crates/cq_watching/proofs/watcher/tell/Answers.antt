-- The line was written, and flushed.
use Rattle.std.proofs.Common.{◌≡◌, ◌++◌, ◌∙◌, [], sym, append-nil}
use Rattle.std.proofs.KnownBytes.{Appends-kept}
use Rattle.cq_script.specs.Resumed.{world_behind}
use Rattle.cq_show.specs.Worlds.{world_text}
use Rattle.cq_watching.proofs.Adding.{on_ok_so}
use Rattle.cq_watching.proofs.watcher.tell.Goals as goal

pub returns : goal.returns
returns g c = λ size bytes ran.
    let took = c.in_ok-write_text.ensures.takes in
    let is : took.0 ≡ world_text (world_behind size bytes) =
    took.2 ∙ c.as_slice.ensures.value ∙ c.in_ok-line.ensures (world_behind size bytes) (c.sim.ensures size bytes ran) in (
      took.0,
      Appends-kept _ _ _ took.0 took.1 c.finish_writing.ensures.kept,
      ([], sym (append-nil took.0 ∙ is)),
      on_ok_so c.finish_writing.result is,
    )
