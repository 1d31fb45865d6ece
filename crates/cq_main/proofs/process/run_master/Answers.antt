-- What was answered, and what its end is told as.
use Rattle.cq_main.proofs.process.run_master.Goals as goal

pub returns : goal.returns
returns g c =
    let r = c.keep_master.ensures.keeps in record {
      answer = c.keep_master.result;
      input = r.0;
      text = r.1;
      consumed = r.2;
      appended = r.3;
      kept = r.4;
      writer = r.5;
      reader = c.keep_master.ensures.reader;
      ended = c.end_process.ensures;
    }
