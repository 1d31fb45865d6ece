-- What was run, and what its answer is told as.
use Rattle.std.proofs.Common.{◌≤◌, subst}
use Rattle.cq_main.proofs.run.run_script.Goals as goal

pub returns : goal.returns
returns g c =
    let r = c.replay.ensures.replays in record {
      answer = c.replay.result;
      carried = (r.0, r.1, r.2, r.3, r.4);
      headed = c.replay.ensures.headline (subst (λ n. 1 ≤ n) c.get-servers.ensures.value c.get-servers.ensures.positive);
      faithful = record {
        by_reader = c.replay.ensures.read_failed;
        by_writer = c.replay.ensures.write_failed;
        reader_sound = c.replay.ensures.reader_sound;
        writer_sound = c.replay.ensures.writer_sound;
        flushed = c.replay.ensures.flushed;
      };
      ended = c.end.ensures;
    }
