-- The batch has just this record.
use Rattle.std.proofs.Common.{◌≡◌, ℕ, List, [], ◌∷◌, ◌++◌, ◌∙◌, ap, subst}
use Rattle.std.specs.Prelude.{Result, Ok, Err, OnOk}
use Rattle.cq_disk.specs.Device.{LeavesOnly}
use Rattle.cq_records.specs.Batch.{batch_bytes}
use Rattle.cq_records.specs.Frames.{records}
use Rattle.cq_journal.specs.Journal.{journal_half, journal_records, region_len}
use Rattle.cq_journal.specs.Regions.{HasPrefixOf}
use Rattle.cq_journal.proofs.Appends.{none_at_rest}
use Rattle.cq_kept_session.proofs.kept.KeptSession.keep.Goals as goal

if_ok : {T E P Q : Type 0} (r : Result T E) → OnOk r P → (P → Q) → OnOk r Q
if_ok (Ok x) p step = step p
if_ok (Err e) p step = tt

pub returns-in_err-add-clause-tries : goal.returns-in_err-add-clause-tries
returns-in_err-add-clause-tries g c =
    let j = c.args.self.now.journal in
    record { honest = λ honest. honest; moments = λ honest. none_at_rest j (c.args.text.now ∷ []) (λ f. g.met.D.Device.only_now j.root.log.device.device f) c.requires.journal.regions honest }

pub returns-clause-records : goal.returns-clause-records
returns-clause-records g c =
    let old = journal_records c.args.self.now.journal in
    let batch_is : records (batch_bytes c.add.new.self) ≡ c.args.text.now ∷ [] = c.in_ok-add.ensures.records ∙ ap (λ (bytes : List ℕ). records bytes ++ c.args.text.now ∷ []) c.new-batch.ensures in
    if_ok c.append.result c.append.ensures.acknowledged (λ is. is ∙ ap (λ (rs : List (List ℕ)). old ++ rs) batch_is)

pub returns-clause-tries : goal.returns-clause-tries
returns-clause-tries g c =
    let d = g.D.Device in
    let j = c.args.self.now.journal in
    let batch_is : records (batch_bytes c.add.new.self) ≡ c.args.text.now ∷ [] = c.in_ok-add.ensures.records ∙ ap (λ (bytes : List ℕ). records bytes ++ c.args.text.now ∷ []) c.new-batch.ensures in
    record {
      honest = c.append.ensures.honest;
      moments = λ honest. subst (λ (batch : List (List ℕ)). LeavesOnly d.moment d.left_since j.root.log.device.device c.append.new.self.root.log.device.device (HasPrefixOf (journal_half j) (region_len j) (journal_records j) batch)) batch_is (c.append.ensures.any_moment honest);
    }
