-- Room is made before.
use Rattle.std.proofs.Common.{◌∙◌, ap}
use Rattle.cq_master_process.specs.Links.{with_one}
use Rattle.cq_master_process.proofs.process.MasterProcess.forget.Goals as goal

pub returns-in-Ok-clause-done : goal.returns-in-Ok-clause-done
returns-in-Ok-clause-done c = record {
  core = λ m outbox h. h;
  taken = c.note_gone.ensures.taken ∙ c.in-Ok.ensures.taken;
  put = c.note_gone.ensures.put ∙ c.in-Ok.ensures.put;
  gone = c.note_gone.ensures.gone ∙ ap (λ f. with_one f c.args.server) c.in-Ok.ensures.gone;
}

pub returns-in-Err-clause-same : goal.returns-in-Err-clause-same
returns-in-Err-clause-same c = record { core = λ m outbox h. h; taken = c.in-Err.ensures.taken; put = c.in-Err.ensures.put; gone = c.in-Err.ensures.gone }
