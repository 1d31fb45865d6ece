-- What was run, and what its answer is told as.
use Rattle.std.proofs.Common.{◌≤◌, subst}
use Rattle.cq_main.proofs.run.run_session.Goals as goal

pub returns : goal.returns
returns g c =
    let r = c.session.ensures.sessions in record {
      answer = c.session.result;
      carried = (r.0, r.1, r.2, r.3, r.4);
      headed = c.session.ensures.headline (subst (λ n. 1 ≤ n) c.get-servers.ensures.value c.get-servers.ensures.positive);
      faithful = record {
        by_reader = c.session.ensures.read_failed;
        by_writer = c.session.ensures.write_failed;
        reader_sound = c.session.ensures.reader_sound;
        writer_sound = c.session.ensures.writer_sound;
        flushed = c.session.ensures.flushed;
      };
      ended = c.end.ensures;
    }
