-- The store is whole.
use Rattle.std.proofs.Common.{◌≡◌, ◌∙◌, length, refl, subst, sym}
use Rattle.cq_chain.specs.Servers.{alone}
use Rattle.cq_frames.specs.declared.response.Response.TheVariants.{Done}
use Rattle.cq_process_frames.specs.Frames.{frame}
use Rattle.cq_server_copies.proofs.Chunks.{behind-nothing}
use Rattle.cq_server_process.specs.Answers.{IsNewProcess, StandsSo}
use Rattle.cq_server_process.specs.Processes.{process_of}
use Rattle.cq_server_copies.proofs.loading.begin.Goals as goal

pub returns-in-Ok-clause-loads : goal.returns-in-Ok-clause-loads
returns-in-Ok-clause-loads c =
    let none : length c.args.end.now.items ≡ 0 = sym c.args.end.now.ok.0 ∙ c.requires.empty in
    record {
      kept = c.in-Ok.store;
      whole = c.in-Ok.ensures;
      process = c.new-process.result;
      is = refl;
      copy = c.new-process.ensures.copy;
      new = λ entries stands. subst (λ p. IsNewProcess (alone entries) (process_of p)) (sym c.new-process.ensures.process) (c.alone.ensures entries stands);
      standing = c.standing.result;
      stands = subst (λ core. StandsSo core c.standing.result) c.core.ensures (record {
        count = c.standing.ensures.count;
        acked = c.standing.ensures.acked;
        last = c.standing.ensures.last;
        head = c.standing.ensures.head;
        acting = c.standing.ensures.acting;
        full = c.standing.ensures.full;
      });
      told = behind-nothing c.args.end.now.items c.tell_done.new.out.items (frame (Done c.standing.result)) none c.tell_done.ensures.items;
    }
