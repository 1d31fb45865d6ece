-- The batch has just this record.
use Rattle.std.proofs.Common.{List, ℕ, [], ◌∷◌, ◌++◌, ◌∙◌, ap, subst}
use Rattle.std.specs.Prelude.{Result, Ok, Err, OnOk}
use Rattle.cq_disk.specs.Device.{LeavesOnly}
use Rattle.cq_journal.specs.Journal.{journal_half, journal_records, region_len}
use Rattle.cq_journal.specs.Regions.{HasPrefixOf}
use Rattle.cq_journal.proofs.Appends.{none_at_rest}
use Rattle.cq_kept_entries.proofs.kept.append_record.Goals as goal

if_ok : {T E P Q : Type 0} (r : Result T E) → OnOk r P → (P → Q) → OnOk r Q
if_ok (Ok x) p next = next p
if_ok (Err e) p next = tt

pub returns-in_err-batch-clause-tries : goal.returns-in_err-batch-clause-tries
returns-in_err-batch-clause-tries g c =
    let j = c.args.journal.now in
    record { honest = λ honest. honest; moments = λ honest. none_at_rest j (c.args.text.now ∷ []) (λ f. g.met.D.Device.only_now j.root.log.device.device f) c.requires.regions honest }

pub returns-clause-records : goal.returns-clause-records
returns-clause-records g c = if_ok c.append.result c.append.ensures.acknowledged (λ is. is ∙ ap (λ (rs : List (List ℕ)). journal_records c.args.journal.now ++ rs) c.in_ok-batch.ensures)

pub returns-clause-tries : goal.returns-clause-tries
returns-clause-tries g c =
    let d = g.D.Device in
    let j = c.args.journal.now in
    record {
      honest = c.append.ensures.honest;
      moments = λ honest. subst (λ (batch : List (List ℕ)). LeavesOnly d.moment d.left_since j.root.log.device.device c.append.new.self.root.log.device.device (HasPrefixOf (journal_half j) (region_len j) (journal_records j) batch)) c.in_ok-batch.ensures (c.append.ensures.any_moment honest);
    }
