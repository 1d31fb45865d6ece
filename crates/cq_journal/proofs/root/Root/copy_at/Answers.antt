-- The records of both batches come behind those from before.
use Rattle.std.proofs.Common.{◌≡◌, ◌∙◌, ℕ, List, ◌++◌, ap, append_assoc}
use Rattle.std.specs.Prelude.{map}
use Rattle.std.proofs.lemmas.Result.{on_ok_weaker}
use Rattle.cq_disk.specs.Region.{part}
use Rattle.cq_records.specs.Batch.{batch_bytes}
use Rattle.cq_records.specs.Frames.{text_of, frames, records}
use Rattle.cq_journal.proofs.Regions.{text_append}
use Rattle.cq_journal.proofs.root.Root.copy_at.Goals as goal

pub returns-clause-copied : goal.returns-clause-copied
returns-clause-copied g c =
    let seen = g.D.Device.seen in
    let p = c.args.place in
    let len = c.args.len in
    let old = part p len (seen c.args.self.now.log.device.device) in
    let mid = part p len (seen c.commit_at.new.self.log.device.device) in
    let front = batch_bytes c.split_last.new.self in
    let last = batch_bytes c.in_ok-last.last in
    let first : records mid ≡ records old ++ records front = ap (map text_of) c.in_ok-commit_at.ensures.acknowledged ∙ text_append (frames old) (frames front) in
    on_ok_weaker c.commit_at-2.result
    (λ added. ap (map text_of) added ∙ text_append (frames mid) (frames last) ∙ ap (λ (rs : List (List ℕ)). rs ++ records last) first ∙ append_assoc (records old) (records front) (records last)
    ∙ ap (λ (rs : List (List ℕ)). records old ++ rs) c.in_ok-last.ensures.records)
    c.commit_at-2.ensures.acknowledged
