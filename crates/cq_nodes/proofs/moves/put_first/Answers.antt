-- What came first is put.
use Rattle.std.proofs.Common.{sym, subst}
use Rattle.cq_nodes.specs.Ends.{with_back}
use Rattle.cq_nodes.proofs.Moving.{put-done}
use Rattle.cq_events.specs.Actions.{Put}
use Rattle.cq_events.specs.Acts.{Acts}
use Rattle.cq_nodes.proofs.moves.put_first.Goals as goal

pub returns-in-Ok-clause-put : goal.returns-in-Ok-clause-put
returns-in-Ok-clause-put g c = λ back is ok.
    let old = c.args.core.now in
    let new = c.first_message.new.core in
    let to = c.args.to in
    record {
      message = c.in-Some.message;
      list = c.in-Ok.ensures.ok;
      done = subst (λ kept. Acts (Put to c.in-Some.message) (record { core = old; back = back }) (record { core = new; back = with_back back to kept })) (sym c.in-Some.ensures.kept)
          (put-done old new back to c.in-Some.message (c.in-Some.ensures.passes back is));
    }
