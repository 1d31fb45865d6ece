-- A region is read, and its records are added to a base of another journal.
use Rattle.std.proofs.Common.{◌≡◌, ◌∙◌, ℕ, List, ◌++◌, ap, append_assoc, refl}
use Rattle.cq_disk.specs.Region.{part}
use Rattle.cq_records.specs.Batch.{batch_bytes}
use Rattle.cq_records.specs.Frames.{records}
use Rattle.cq_journal.specs.Base.{base_records}
use Rattle.cq_journal.specs.Rests.{Rests}
use Rattle.cq_journal.proofs.Copies.{rests_on, rests_self, rests_read, stays_read}
use Rattle.cq_journal.proofs.journal.Journal.copy_region.Goals as goal

pub returns-in_err-read_at-clause-rests : goal.returns-in_err-read_at-clause-rests
returns-in_err-read_at-clause-rests g c =
    let j = c.args.self.now in
    let e = c.read_at.ensures in
    rests_read j (record { root = c.read_at.new.self; len = j.len; closed = j.closed; growing = j.growing; torn = j.torn; end = j.end }) (record { closed = refl; growing = refl; torn = refl; len = refl; seen = e.seen })
    e.half e.honest e.later c.requires.has_regions e.any_moment

pub returns-in_err-read_at-clause-rests_there : goal.returns-in_err-read_at-clause-rests_there
returns-in_err-read_at-clause-rests_there g c = rests_self c.args.to.now (λ f. g.met.E.Device.only_now c.args.to.now.root.log.device.device f) c.requires.there.regions

pub returns-in_err-add_to_base-clause-rests : goal.returns-in_err-add_to_base-clause-rests
returns-in_err-add_to_base-clause-rests g c =
    let j = c.args.self.now in
    let e = c.read_at.ensures in
    rests_read j (record { root = c.read_at.new.self; len = j.len; closed = j.closed; growing = j.growing; torn = j.torn; end = j.end }) (record { closed = refl; growing = refl; torn = refl; len = refl; seen = e.seen })
    e.half e.honest e.later c.requires.has_regions e.any_moment

pub returns-clause-rests : goal.returns-clause-rests
returns-clause-rests g c =
    let j = c.args.self.now in
    let e = c.read_at.ensures in
    rests_read j (record { root = c.read_at.new.self; len = j.len; closed = j.closed; growing = j.growing; torn = j.torn; end = j.end }) (record { closed = refl; growing = refl; torn = refl; len = refl; seen = e.seen })
    e.half e.honest e.later c.requires.has_regions e.any_moment

pub returns-clause-journal : goal.returns-clause-journal
returns-clause-journal g c =
    let j = c.args.self.now in
    let e = c.read_at.ensures in
    stays_read j (record { root = c.read_at.new.self; len = j.len; closed = j.closed; growing = j.growing; torn = j.torn; end = j.end }) (record { closed = refl; growing = refl; torn = refl; len = refl; seen = e.seen })
    e.half refl e.number e.honest c.in_ok-read_at.ensures.root c.requires.has_regions

pub returns-in_err-add_to_base-clause-full : goal.returns-in_err-add_to_base-clause-full
returns-in_err-add_to_base-clause-full g c = λ _.
    let j = c.args.self.now in
    let e = c.read_at.ensures in
    stays_read j (record { root = c.read_at.new.self; len = j.len; closed = j.closed; growing = j.growing; torn = j.torn; end = j.end }) (record { closed = refl; growing = refl; torn = refl; len = refl; seen = e.seen })
    e.half refl e.number e.honest c.in_ok-read_at.ensures.root c.requires.has_regions

pub returns-in_err-last-clause-rests : goal.returns-in_err-last-clause-rests
returns-in_err-last-clause-rests g c =
    let j = c.args.self.now in
    let e = c.read_at.ensures in
    rests_read j (record { root = c.read_at.new.self; len = j.len; closed = j.closed; growing = j.growing; torn = j.torn; end = j.end }) (record { closed = refl; growing = refl; torn = refl; len = refl; seen = e.seen })
    e.half e.honest e.later c.requires.has_regions e.any_moment

pub returns-in_err-last-clause-rests_there : goal.returns-in_err-last-clause-rests_there
returns-in_err-last-clause-rests_there g c = rests_self c.args.to.now (λ f. g.met.E.Device.only_now c.args.to.now.root.log.device.device f) c.requires.there.regions

pub returns-in_err-add_to_base-2-clause-rests : goal.returns-in_err-add_to_base-2-clause-rests
returns-in_err-add_to_base-2-clause-rests g c =
    let j = c.args.self.now in
    let e = c.read_at.ensures in
    rests_read j (record { root = c.read_at.new.self; len = j.len; closed = j.closed; growing = j.growing; torn = j.torn; end = j.end }) (record { closed = refl; growing = refl; torn = refl; len = refl; seen = e.seen })
    e.half e.honest e.later c.requires.has_regions e.any_moment

pub returns-in_err-add_to_base-2-clause-rests_there : goal.returns-in_err-add_to_base-2-clause-rests_there
returns-in_err-add_to_base-2-clause-rests_there g c =
    let to = c.args.to.now in
    let one = c.add_to_base.new.self in
    let two = c.add_to_base-2.new.self in
    let a = c.add_to_base.ensures in
    let b = c.add_to_base-2.ensures in
    let first : Rests {D = g.row.E.Denot} {g = g.E.Device} to one = record { half = a.lengths.0; len = a.lengths.1; records = a.records; honest = a.honest; moments = a.any_moment; intact = a.intact; stays = a.stays; later = a.later } in
    let second : Rests {D = g.row.E.Denot} {g = g.E.Device} one two = record { half = b.lengths.0; len = b.lengths.1; records = b.records; honest = b.honest; moments = b.any_moment; intact = b.intact; stays = b.stays; later = b.later } in
    rests_on to one two first second

pub returns-clause-rests_there : goal.returns-clause-rests_there
returns-clause-rests_there g c =
    let to = c.args.to.now in
    let one = c.add_to_base.new.self in
    let two = c.add_to_base-2.new.self in
    let a = c.add_to_base.ensures in
    let b = c.add_to_base-2.ensures in
    let first : Rests {D = g.row.E.Denot} {g = g.E.Device} to one = record { half = a.lengths.0; len = a.lengths.1; records = a.records; honest = a.honest; moments = a.any_moment; intact = a.intact; stays = a.stays; later = a.later } in
    let second : Rests {D = g.row.E.Denot} {g = g.E.Device} one two = record { half = b.lengths.0; len = b.lengths.1; records = b.records; honest = b.honest; moments = b.any_moment; intact = b.intact; stays = b.stays; later = b.later } in
    rests_on to one two first second

pub returns-in_err-add_to_base-2-clause-full : goal.returns-in_err-add_to_base-2-clause-full
returns-in_err-add_to_base-2-clause-full g c = λ _.
    let j = c.args.self.now in
    let e = c.read_at.ensures in
    stays_read j (record { root = c.read_at.new.self; len = j.len; closed = j.closed; growing = j.growing; torn = j.torn; end = j.end }) (record { closed = refl; growing = refl; torn = refl; len = refl; seen = e.seen })
    e.half refl e.number e.honest c.in_ok-read_at.ensures.root c.requires.has_regions

pub returns-clause-copied : goal.returns-clause-copied
returns-clause-copied g c = λ honest.
    let j = c.args.self.now in
    let region = part c.args.place j.len (g.D.Device.seen j.root.log.device.device) in
    let before = base_records c.args.to.now c.args.base.now in
    let front = records (batch_bytes c.split_last.new.self) in
    let last = records (batch_bytes c.in_ok-last.last) in
    let read : records (batch_bytes c.read_at.new.batch) ≡ records region = c.in_ok-read_at.ensures.read honest ∙ ap (λ (bytes : List ℕ). records bytes ++ records region) c.new-batch.ensures in
    c.in_ok-add_to_base-2.ensures.added ∙ ap (λ (rs : List (List ℕ)). rs ++ last) c.in_ok-add_to_base.ensures.added ∙ append_assoc before front last
    ∙ ap (λ (rs : List (List ℕ)). before ++ rs) (c.in_ok-last.ensures.records ∙ read)
