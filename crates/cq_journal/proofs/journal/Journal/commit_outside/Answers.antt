-- A batch is added to a region that doesn't count.
use Rattle.std.proofs.Common.{refl, sym, ◌∙◌, ap}
use Rattle.std.specs.Prelude.{Result, Ok, Err, OnOk, map}
use Rattle.cq_disk.specs.Region.{part}
use Rattle.cq_disk.proofs.Moments.{weakened}
use Rattle.cq_records.specs.Batch.{batch_bytes}
use Rattle.cq_records.specs.Frames.{text_of, frames}
use Rattle.cq_journal.proofs.Regions.{text_append}
use Rattle.cq_journal.proofs.OtherRegions.{journal_still, records_still, still_kept}
use Rattle.cq_journal.proofs.Intact.{outside_leaves, outside_stays}
use Rattle.cq_journal.proofs.journal.Journal.commit_outside.Goals as goal

on_ok : {T E P Q : Type 0} (r : Result T E) → OnOk r P → (P → Q) → OnOk r Q
on_ok (Ok x) p step = step p
on_ok (Err e) p step = tt

pub returns-clause-journal : goal.returns-clause-journal
returns-clause-journal g c =
    let b = c.commit_at.ensures in
    on_ok c.commit_at.result b.root (λ root. journal_still c.args.place c.args.self.now (record { root = c.commit_at.new.self; len = c.args.self.now.len; closed = c.args.self.now.closed; growing = c.args.self.now.growing; torn = c.args.self.now.torn; end = c.args.self.now.end }) c.requires.outside
    (record { closed = refl; growing = refl; torn = refl; end = refl; len = refl; half = b.half; number = b.number; length = b.length; beside = b.beside; honest = λ honest. sym b.honest ∙ honest }) root c.requires.journal)

pub returns-clause-records : goal.returns-clause-records
returns-clause-records g c =
    let b = c.commit_at.ensures in
    records_still c.args.place c.args.self.now (record { root = c.commit_at.new.self; len = c.args.self.now.len; closed = c.args.self.now.closed; growing = c.args.self.now.growing; torn = c.args.self.now.torn; end = c.args.self.now.end }) c.requires.outside
    (record { closed = refl; growing = refl; torn = refl; end = refl; len = refl; half = b.half; number = b.number; length = b.length; beside = b.beside; honest = λ honest. sym b.honest ∙ honest })

pub returns-clause-acknowledged : goal.returns-clause-acknowledged
returns-clause-acknowledged g c =
    let j = c.args.self.now in
    let before = frames (part c.args.place j.len (g.D.Device.seen j.root.log.device.device)) in
    on_ok c.commit_at.result c.commit_at.ensures.acknowledged (λ is. ap (map text_of) is ∙ text_append before (frames (batch_bytes c.args.batch.now)))

pub returns-clause-any_moment : goal.returns-clause-any_moment
returns-clause-any_moment g c = λ honest.
    let d = g.D.Device in
    let j = c.args.self.now in
    weakened d.moment d.left_since j.root.log.device.device c.commit_at.new.self.log.device.device _ _ c.commit_at.ensures.any_moment
    (λ f both. still_kept c.args.place j c.requires.outside c.requires.journal (sym c.commit_at.ensures.honest ∙ honest) f both.1)

pub returns-clause-full : goal.returns-clause-full
returns-clause-full g c err =
    let b = c.commit_at.ensures in
    let full = b.full err in (
      journal_still c.args.place c.args.self.now (record { root = c.commit_at.new.self; len = c.args.self.now.len; closed = c.args.self.now.closed; growing = c.args.self.now.growing; torn = c.args.self.now.torn; end = c.args.self.now.end }) c.requires.outside
          (record { closed = refl; growing = refl; torn = refl; end = refl; len = refl; half = b.half; number = b.number; length = b.length; beside = b.beside; honest = λ honest. sym b.honest ∙ honest }) full.0 c.requires.journal,
      full.1,
      full.2,
      full.3,
    )

pub returns-clause-intact : goal.returns-clause-intact
returns-clause-intact g c =
    let d = g.D.Device in
    let j = c.args.self.now in
    outside_leaves c.args.place j (record { root = c.commit_at.new.self; len = c.args.self.now.len; closed = c.args.self.now.closed; growing = c.args.self.now.growing; torn = c.args.self.now.torn; end = c.args.self.now.end }) c.requires.outside c.requires.journal.regions (λ honest. sym c.commit_at.ensures.honest ∙ honest)
    (weakened d.moment d.left_since j.root.log.device.device c.commit_at.new.self.log.device.device _ _ c.commit_at.ensures.any_moment (λ f both. both.1))

pub returns-clause-stays : goal.returns-clause-stays
returns-clause-stays g c =
    outside_stays c.args.place c.args.self.now (record { root = c.commit_at.new.self; len = c.args.self.now.len; closed = c.args.self.now.closed; growing = c.args.self.now.growing; torn = c.args.self.now.torn; end = c.args.self.now.end }) c.requires.outside c.requires.journal.regions (λ honest. sym c.commit_at.ensures.honest ∙ honest) c.commit_at.ensures.beside
