-- The message that is thrown away is the one that left its outbox.
use Rattle.std.proofs.Common.{◌∙◌, ℕ, ap, refl}
use Rattle.cq_master_process.specs.Links.{put_of}
use Rattle.cq_master_process.proofs.Counting.{counted-here}
use Rattle.cq_master_process.proofs.Cores.{none-drawn, put-alone}
use Rattle.cq_master_process.proofs.Puts.{thrown-for}
use Rattle.cq_master_process.proofs.process.MasterProcess.put_thrown.Goals as goal

pub returns-in-Some-clause-put : goal.returns-in-Some-clause-put
returns-in-Some-clause-put c = λ bytes.
    thrown-for c.args.self.now _ c.args.to c.in-Some._message bytes c.requires.gone c.requires.room (put-alone c.args.self.now.core c.put.new.self c.args.to c.in-Some._message c.in-Some.ensures.first c.in-Some.ensures.drained) c.count_put.ensures.put c.count_put.ensures.taken c.count_put.ensures.gone

pub returns-in-Some-clause-counts : goal.returns-in-Some-clause-counts
returns-in-Some-clause-counts c = ap (λ (f : ℕ → ℕ). f c.args.to) c.count_put.ensures.put ∙ counted-here (put_of c.args.self.now.links) c.args.to

pub returns-in-None-clause-idle : goal.returns-in-None-clause-idle
returns-in-None-clause-idle c = record { core = none-drawn c.args.self.now.core c.put.new.self c.args.to c.in-None.ensures.first c.in-None.ensures.drained; taken = refl; put = refl; gone = refl }
