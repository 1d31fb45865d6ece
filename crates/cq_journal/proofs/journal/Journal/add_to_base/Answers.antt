-- Records are added to the base's region that grows.
use Rattle.std.proofs.Common.{◌≡◌, ℕ, List, refl, sym, ap, subst}
use Rattle.std.specs.Prelude.{Result, Ok, Err, OnOk, true}
use Rattle.cq_disk.specs.Region.{part}
use Rattle.cq_records.specs.Batch.{batch_bytes}
use Rattle.cq_records.specs.Frames.{frames, records, all_sound}
use Rattle.cq_records.specs.Layout.{IsLog}
use Rattle.cq_journal.specs.Base.{base_places}
use Rattle.cq_journal.specs.Regions.{records_at}
use Rattle.cq_journal.proofs.Bases.{base_outside, base_made, records_added}
use Rattle.cq_journal.proofs.Regions.{each_left}
use Rattle.cq_journal.proofs.journal.Journal.add_to_base.Goals as goal

on_ok : {T E P Q : Type 0} (r : Result T E) → OnOk r P → (P → Q) → OnOk r Q
on_ok (Ok x) p step = step p
on_ok (Err e) p step = tt

pub commit_outside-done-requires-clause-outside : goal.commit_outside-done-requires-clause-outside
commit_outside-done-requires-clause-outside g c = base_outside c.args.self.now c.args.base.now c.requires.base

pub returns-clause-base : goal.returns-clause-base
returns-clause-base g c =
    let j = c.args.self.now in
    let b = c.args.base.now in
    let q = c.requires.base in
    let done = c.commit_outside-done.ensures in
    let new = c.commit_outside-done.new.self in
    on_ok c.commit_outside-done.result done.log (λ log.
    base_made b.growing c.args.self.now new done.changes (record { closed = b.closed; growing = b.growing; end = new.root.log.end }) b.closed.items refl refl
    q.behind q.within q.small q.apart q.alone q.few (each_left (λ n. all_sound (frames (part n j.len (g.D.Device.seen j.root.log.device.device))) ≡ true) b.closed.items b.growing q.sound) q.closed_logs log)

pub returns-clause-added : goal.returns-clause-added
returns-clause-added g c =
    let b = c.args.base.now in
    let q = c.requires.base in
    let done = c.commit_outside-done.ensures in
    let new = c.commit_outside-done.new.self in
    on_ok c.commit_outside-done.result done.acknowledged (λ added.
    records_added b.growing c.args.self.now new done.changes (record { closed = b.closed; growing = b.growing; end = new.root.log.end }) b.closed.items refl refl
    (records (batch_bytes c.args.batch.now)) q.alone added)

pub returns-clause-full : goal.returns-clause-full
returns-clause-full g c err =
    let j = c.args.self.now in
    let b = c.args.base.now in
    let q = c.requires.base in
    let d = g.D.Device in
    let done = c.commit_outside-done.ensures in
    let new = c.commit_outside-done.new.self in
    let full = done.full err in
    let seen_is : d.seen new.root.log.device.device ≡ d.seen j.root.log.device.device = ap d.seen full.1 in (
      full.0,
      base_made b.growing j new done.changes (record { closed = b.closed; growing = b.growing; end = new.root.log.end }) b.closed.items refl refl
          q.behind q.within q.small q.apart q.alone q.few (each_left (λ n. all_sound (frames (part n j.len (g.D.Device.seen j.root.log.device.device))) ≡ true) b.closed.items b.growing q.sound)
          q.closed_logs
          (subst (λ (e : ℕ). IsLog (part b.growing j.len (d.seen new.root.log.device.device)) e) (sym full.2) (subst (λ (bytes : List ℕ). IsLog (part b.growing j.len bytes) b.end) (sym seen_is) q.log)),
      (λ i. records_at (done.changes.len i) (base_places b) (seen_is i)),
    )
