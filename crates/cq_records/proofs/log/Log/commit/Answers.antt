use Rattle.std.proofs.Common.{◌∙◌, ap, sym}
use Rattle.cq_disk.proofs.Moments.{started}
use Rattle.std.proofs.lemmas.List.{append-nil}
use Rattle.cq_records.specs.declared.behind.Behind.TheVariants.{TornBatch}
use Rattle.cq_records.specs.Frames.{frames, ends_with}
use Rattle.cq_records.proofs.Torn.{log_ends}
use Rattle.cq_records.proofs.log.Log.commit.Goals as goal

pub returns-then-bytes-len-clause-any_moment : goal.returns-then-bytes-len-clause-any_moment
returns-then-bytes-len-clause-any_moment g c =
    let d = g.D.Device in
    let log = c.args.self.now in
    started d.moment d.left_since log.device _ (λ f left.
    let is = c.requires.durable f (g.met.D.Device.only_now log.device f left) in
    record {
      many = 0;
      frames = ap frames is ∙ sym (append-nil (frames (d.seen log.device)));
      rest = λ _. ap (ends_with TornBatch) is ∙ log_ends (d.seen log.device) log.end c.requires.bytes;
    })
