-- By what the fault is.
use Rattle.std.proofs.Common.{◌∙◌, ◌++◌, ap}
use Rattle.cq_frames.specs.declared.response.Response.TheVariants.{Unread}
use Rattle.cq_process_frames.specs.Frames.{frame}
use Rattle.cq_master_process.proofs.process.answer.tell_fault.Goals as goal

pub returns-in-Bad-clause-items : goal.returns-in-Bad-clause-items
returns-in-Bad-clause-items c = rw c.in-Bad.is (c.tell_unread.ensures.items ∙ ap (λ n. c.args.end.now.items ++ frame (Unread n)) (c.from.ensures ∙ c.code.ensures))

pub returns-in-NoMemory-clause-items : goal.returns-in-NoMemory-clause-items
returns-in-NoMemory-clause-items c = rw c.in-NoMemory.is c.tell_refused.ensures.items
