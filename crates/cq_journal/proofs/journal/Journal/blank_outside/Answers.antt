-- A region that doesn't count is blanked.
use Rattle.std.proofs.Common.{refl}
use Rattle.std.specs.Prelude.{Result, Ok, Err, OnOk}
use Rattle.cq_disk.proofs.Moments.{weakened}
use Rattle.cq_journal.proofs.OtherRegions.{journal_still, records_still, still_kept}
use Rattle.cq_journal.proofs.Intact.{outside_leaves, outside_stays}
use Rattle.cq_journal.proofs.journal.Journal.blank_outside.Goals as goal

on_ok : {T E P Q : Type 0} (r : Result T E) → OnOk r P → (P → Q) → OnOk r Q
on_ok (Ok x) p step = step p
on_ok (Err e) p step = tt

pub returns-clause-journal : goal.returns-clause-journal
returns-clause-journal g c =
    let b = c.blank_at.ensures in
    on_ok c.blank_at.result b.root (λ root. journal_still c.args.place c.args.self.now (record { root = c.blank_at.new.self; len = c.args.self.now.len; closed = c.args.self.now.closed; growing = c.args.self.now.growing; torn = c.args.self.now.torn; end = c.args.self.now.end }) c.requires.outside
    (record { closed = refl; growing = refl; torn = refl; end = refl; len = refl; half = b.half; number = b.number; length = b.length; beside = b.beside; honest = b.honest }) root c.requires.journal)

pub returns-clause-records : goal.returns-clause-records
returns-clause-records g c =
    let b = c.blank_at.ensures in
    records_still c.args.place c.args.self.now (record { root = c.blank_at.new.self; len = c.args.self.now.len; closed = c.args.self.now.closed; growing = c.args.self.now.growing; torn = c.args.self.now.torn; end = c.args.self.now.end }) c.requires.outside
    (record { closed = refl; growing = refl; torn = refl; end = refl; len = refl; half = b.half; number = b.number; length = b.length; beside = b.beside; honest = b.honest })

pub returns-clause-any_moment : goal.returns-clause-any_moment
returns-clause-any_moment g c = λ honest.
    let d = g.D.Device in
    let j = c.args.self.now in
    weakened d.moment d.left_since j.root.log.device.device c.blank_at.new.self.log.device.device _ _ c.blank_at.ensures.any_moment
    (still_kept c.args.place j c.requires.outside c.requires.journal (c.blank_at.ensures.honest honest))

pub returns-clause-intact : goal.returns-clause-intact
returns-clause-intact g c =
    outside_leaves c.args.place c.args.self.now (record { root = c.blank_at.new.self; len = c.args.self.now.len; closed = c.args.self.now.closed; growing = c.args.self.now.growing; torn = c.args.self.now.torn; end = c.args.self.now.end }) c.requires.outside c.requires.journal.regions c.blank_at.ensures.honest c.blank_at.ensures.any_moment

pub returns-clause-stays : goal.returns-clause-stays
returns-clause-stays g c =
    outside_stays c.args.place c.args.self.now (record { root = c.blank_at.new.self; len = c.args.self.now.len; closed = c.args.self.now.closed; growing = c.args.self.now.growing; torn = c.args.self.now.torn; end = c.args.self.now.end }) c.requires.outside c.requires.journal.regions c.blank_at.ensures.honest c.blank_at.ensures.beside
