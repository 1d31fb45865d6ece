-- The message that is told is the one that leaves its outbox.
use Rattle.std.proofs.Common.{◌+◌, ◌∙◌, ℕ, ap, subst}
use Rattle.cq_master_process.specs.Links.{put_of}
use Rattle.cq_master_process.specs.within.Telling.{TellsFirst}
use Rattle.cq_master_process.proofs.Counting.{counted-here}
use Rattle.cq_master_process.proofs.Puts.{told-for}
use Rattle.cq_master_process.proofs.process.MasterProcess.put_told.Goals as goal

pub returns-in-Put-clause-put : goal.returns-in-Put-clause-put
returns-in-Put-clause-put c =
    let p = c.args.self.now in
    told-for p c.draw.new.self c.args.to c.args.out.now.items c.tell_first.new.out.items c.requires.here c.requires.room
    (subst (λ n. TellsFirst p.core c.args.to (n + 1) c.args.out.now.items c.tell_first.new.out.items) c.last_put-number.ensures c.in-Put.ensures.told)
    c.draw.ensures.done c.draw.ensures.counts c.draw.ensures.taken c.draw.ensures.gone

pub returns-in-Put-clause-counts : goal.returns-in-Put-clause-counts
returns-in-Put-clause-counts c = ap (λ (f : ℕ → ℕ). f c.args.to) c.draw.ensures.counts ∙ counted-here (put_of c.args.self.now.links) c.args.to
