-- One response behind the other.
use Rattle.std.proofs.Common.{◌∙◌, ◌++◌, ap, append_assoc}
use Rattle.cq_base.specs.declared.party.Party.TheVariants.{Server}
use Rattle.cq_frames.specs.declared.response.Response.TheVariants.{Heard, Waiting}
use Rattle.cq_process_frames.specs.Frames.{frame}
use Rattle.cq_master_process.proofs.process.answer.tell_behind.Goals as goal

pub returns-in-Some-clause-items : goal.returns-in-Some-clause-items
returns-in-Some-clause-items c =
    rw c.in-Some.is (c.tell_heard.ensures.items ∙ ap (λ xs. xs ++ frame Heard) c.tell_waiting.ensures.items ∙ append_assoc c.args.end.now.items (frame (Waiting (Server c.in-Some.id))) (frame Heard))
