-- What was answered, and what its end is told as.
use Rattle.cq_main.proofs.process.run_loaded.Goals as goal

pub returns : goal.returns
returns g c =
    let r = c.keep_loaded.ensures.keeps in record {
      answer = c.keep_loaded.result;
      input = r.0;
      text = r.1;
      consumed = r.2;
      appended = r.3;
      kept = r.4;
      writer = r.5;
      reader = c.keep_loaded.ensures.reader;
      ended = c.end_loaded.ensures;
    }
