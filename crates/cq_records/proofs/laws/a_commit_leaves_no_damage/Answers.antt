-- The records of a log and those of a batch have their checksums.
use Rattle.std.proofs.Common.{List, ℕ}
use Rattle.cq_disk.proofs.Moments.{weakened}
use Rattle.cq_records.specs.Frames.{frames}
use Rattle.cq_records.proofs.Outcomes.{none_damaged}
use Rattle.cq_records.proofs.laws.a_commit_leaves_no_damage.Goals as goal

pub returns : goal.returns
returns g c =
    let d = g.D.Device in
    let log = c.args.log.now in
    let batch : List (List ℕ) = frames c.args.batch.now.bytes.items in
    weakened d.moment d.left_since log.device c.commit.new.self.device _ _ c.commit.ensures.any_moment
    (λ f prefix. (none_damaged (d.torn log.device) (frames (d.seen log.device)) batch f c.requires.bytes.sound c.args.batch.now.batch.sound prefix, prefix.rest))
