-- The region that grows is full.
use Rattle.std.proofs.Common.{rules, ℕ, List, arith}
use Rattle.std.specs.Prelude.{IsErrOf, Result, Ok, Err, OnOk}
use Rattle.cq_disk.proofs.Moments.{weakened, runs_on}
use Rattle.cq_records.specs.Batch.{batch_bytes}
use Rattle.cq_records.specs.Frames.{records}
use Rattle.cq_records.specs.declared.fault.LogFault.TheVariants.{Full}
use Rattle.cq_journal.specs.Journal.{journal_half, journal_records, region_len}
use Rattle.cq_journal.specs.Regions.{HasPrefixOf}
use Rattle.cq_journal.proofs.Appends.{prefix_back}
use Rattle.cq_journal.proofs.Intact.{leaves_on, stays_on}
use Rattle.cq_journal.proofs.journal.Journal.append.Goals as goal

on_ok : {T E P Q : Type 0} (r : Result T E) → OnOk r P → (P → Q) → OnOk r Q
on_ok (Ok x) p step = step p
on_ok (Err e) p step = tt

pub returns-in-Err-Full-clause-any_moment : goal.returns-in-Err-Full-clause-any_moment
returns-in-Err-Full-clause-any_moment g c = λ honest.
    let d = g.D.Device in
    let j = c.args.self.now in
    let mid = c.commit.new.self in
    let new = c.append_in_next.new.self in
    let batch = records (batch_bytes c.args.batch.now) in
    let first = c.commit.ensures in
    let next = c.append_in_next.ensures in
    let is : IsErrOf c.commit.result Full = search rules in
    let P : List ℕ → Type 0 = HasPrefixOf (journal_half j) (region_len j) (journal_records j) batch in
    runs_on d.moment d.left_since j.root.log.device.device mid.root.log.device.device new.root.log.device.device P (first.any_moment (next.honest honest))
    (weakened d.moment d.left_since mid.root.log.device.device new.root.log.device.device _ P (next.any_moment honest) (prefix_back j mid batch first.lengths.0 first.lengths.1 (first.full is).1))

pub returns-in-Err-Full-clause-failed : goal.returns-in-Err-Full-clause-failed
returns-in-Err-Full-clause-failed g c = λ failed. omega (arith, c.commit.ensures.later, c.append_in_next.ensures.failed failed)

pub returns-in-Err-Full-clause-intact : goal.returns-in-Err-Full-clause-intact
returns-in-Err-Full-clause-intact g c =
    let first = c.commit.ensures in
    let next = c.append_in_next.ensures in
    let is : IsErrOf c.commit.result Full = search rules in
    leaves_on c.args.self.now c.commit.new.self c.append_in_next.new.self first.lengths.0 first.lengths.1 next.honest first.intact (first.stays_full is) next.intact

pub returns-in-Err-Full-clause-stays : goal.returns-in-Err-Full-clause-stays
returns-in-Err-Full-clause-stays g c =
    let first = c.commit.ensures in
    let next = c.append_in_next.ensures in
    let is : IsErrOf c.commit.result Full = search rules in
    on_ok c.append_in_next.result next.stays (λ stays. stays_on c.args.self.now c.commit.new.self c.append_in_next.new.self first.lengths.0 first.lengths.1 next.honest (first.stays_full is) stays)

pub returns-in-Err-Full-clause-stays_full : goal.returns-in-Err-Full-clause-stays_full
returns-in-Err-Full-clause-stays_full g c = λ full.
    let first = c.commit.ensures in
    let next = c.append_in_next.ensures in
    let is : IsErrOf c.commit.result Full = search rules in
    stays_on c.args.self.now c.commit.new.self c.append_in_next.new.self first.lengths.0 first.lengths.1 next.honest (first.stays_full is) (next.stays_full full)
