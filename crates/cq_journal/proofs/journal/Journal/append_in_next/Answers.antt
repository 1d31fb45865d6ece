-- The records are added in the next region.
use Rattle.std.proofs.Common.{ℕ, List, sym, ◌∙◌, arith}
use Rattle.std.specs.Prelude.{Result, Ok, Err, OnOk}
use Rattle.cq_disk.proofs.Moments.{weakened, runs_on}
use Rattle.cq_records.specs.Batch.{batch_bytes}
use Rattle.cq_records.specs.Frames.{records}
use Rattle.cq_journal.specs.Journal.{journal_half, journal_records, region_len}
use Rattle.cq_journal.specs.Regions.{HasPrefixOf}
use Rattle.cq_journal.proofs.Appends.{none_added, none_at_rest, prefix_back}
use Rattle.cq_journal.proofs.Intact.{rests_intact, leaves_on, stays_on}
use Rattle.cq_journal.proofs.journal.Journal.append_in_next.Goals as goal

on_ok : {T E P Q : Type 0} (r : Result T E) → OnOk r P → (P → Q) → OnOk r Q
on_ok (Ok x) p step = step p
on_ok (Err e) p step = tt

pub returns-then-as_slice-self-clause-any_moment : goal.returns-then-as_slice-self-clause-any_moment
returns-then-as_slice-self-clause-any_moment g c = λ honest.
    let j = c.args.self.now in
    none_at_rest j (records (batch_bytes c.args.batch.now)) (λ f. g.met.D.Device.only_now j.root.log.device.device f) c.requires.regions honest

pub returns-in_default-clause-any_moment : goal.returns-in_default-clause-any_moment
returns-in_default-clause-any_moment g c = λ honest.
    let j = c.args.self.now in
    none_at_rest j (records (batch_bytes c.args.batch.now)) (λ f. g.met.D.Device.only_now j.root.log.device.device f) c.requires.regions honest

pub returns-in_err-next_region-clause-any_moment : goal.returns-in_err-next_region-clause-any_moment
returns-in_err-next_region-clause-any_moment g c = λ honest.
    let d = g.D.Device in
    let j = c.args.self.now in
    let batch = records (batch_bytes c.args.batch.now) in
    weakened d.moment d.left_since j.root.log.device.device c.next_region.new.self.root.log.device.device _ _ (c.next_region.ensures.any_moment honest)
    (none_added (journal_half j) (region_len j) (journal_records j) batch)

pub returns-clause-any_moment : goal.returns-clause-any_moment
returns-clause-any_moment g c = λ honest.
    let d = g.D.Device in
    let j = c.args.self.now in
    let mid = c.next_region.new.self in
    let new = c.commit.new.self in
    let batch = records (batch_bytes c.args.batch.now) in
    let next = c.in_ok-next_region.ensures in
    let P : List ℕ → Type 0 = HasPrefixOf (journal_half j) (region_len j) (journal_records j) batch in
    runs_on d.moment d.left_since j.root.log.device.device mid.root.log.device.device new.root.log.device.device P
    (weakened d.moment d.left_since j.root.log.device.device mid.root.log.device.device _ P (c.next_region.ensures.any_moment (sym c.commit.ensures.honest ∙ honest)) (none_added (journal_half j) (region_len j) (journal_records j) batch))
    (weakened d.moment d.left_since mid.root.log.device.device new.root.log.device.device _ P (c.commit.ensures.any_moment honest) (prefix_back j mid batch next.lengths.0 next.lengths.1 next.records))

pub returns-clause-failed : goal.returns-clause-failed
returns-clause-failed g c = λ failed. omega (arith, c.next_region.ensures.later, c.commit.ensures.failed failed)

pub returns-then-as_slice-self-clause-intact : goal.returns-then-as_slice-self-clause-intact
returns-then-as_slice-self-clause-intact g c = rests_intact c.args.self.now (λ f. g.met.D.Device.only_now c.args.self.now.root.log.device.device f) c.requires.regions

pub returns-in_default-clause-intact : goal.returns-in_default-clause-intact
returns-in_default-clause-intact g c = rests_intact c.args.self.now (λ f. g.met.D.Device.only_now c.args.self.now.root.log.device.device f) c.requires.regions

pub returns-clause-intact : goal.returns-clause-intact
returns-clause-intact g c =
    let next = c.in_ok-next_region.ensures in
    leaves_on c.args.self.now c.next_region.new.self c.commit.new.self next.lengths.0 next.lengths.1 (λ now. sym c.commit.ensures.honest ∙ now) c.next_region.ensures.intact next.stays c.commit.ensures.intact

pub returns-clause-stays : goal.returns-clause-stays
returns-clause-stays g c =
    let next = c.in_ok-next_region.ensures in
    on_ok c.commit.result c.commit.ensures.stays (λ stays. stays_on c.args.self.now c.next_region.new.self c.commit.new.self next.lengths.0 next.lengths.1 (λ now. sym c.commit.ensures.honest ∙ now) next.stays stays)

pub returns-clause-stays_full : goal.returns-clause-stays_full
returns-clause-stays_full g c = λ full.
    let next = c.in_ok-next_region.ensures in
    stays_on c.args.self.now c.next_region.new.self c.commit.new.self next.lengths.0 next.lengths.1 (λ now. sym c.commit.ensures.honest ∙ now) next.stays (c.commit.ensures.stays_full full)
