-- A region is read, and the journal is the same.
use Rattle.std.proofs.Common.{refl}
use Rattle.cq_journal.proofs.Copies.{rests_read, stays_read}
use Rattle.cq_journal.proofs.journal.Journal.read_place.Goals as goal

pub returns-clause-journal : goal.returns-clause-journal
returns-clause-journal g c =
    let j = c.args.self.now in
    let e = c.read_log_at.ensures in
    stays_read j (record { root = c.read_log_at.new.self; len = j.len; closed = j.closed; growing = j.growing; torn = j.torn; end = j.end }) (record { closed = refl; growing = refl; torn = refl; len = refl; seen = e.seen })
    e.half refl e.number e.honest e.root c.requires.has_regions

pub returns-clause-rests : goal.returns-clause-rests
returns-clause-rests g c =
    let j = c.args.self.now in
    let e = c.read_log_at.ensures in
    rests_read j (record { root = c.read_log_at.new.self; len = j.len; closed = j.closed; growing = j.growing; torn = j.torn; end = j.end }) (record { closed = refl; growing = refl; torn = refl; len = refl; seen = e.seen })
    e.half e.honest e.later c.requires.has_regions e.any_moment
