-- A base of one region, which is blank.
use Rattle.std.proofs.Common.{ℕ, List, [], ◌∷◌, ◌++◌, refl, sym, subst, arith}
use Rattle.cq_disk.proofs.Moments.{started}
use Rattle.cq_journal.specs.Regions.{HasRecords, records_at}
use Rattle.cq_journal.proofs.Bases.{base_made}
use Rattle.cq_journal.proofs.Moves.{blank_log}
use Rattle.cq_journal.proofs.Regions.{kept_of}
use Rattle.cq_journal.proofs.Intact.{rests_intact}
use Rattle.cq_journal.proofs.journal.Journal.begin_base.Goals as goal

pub returns-in_default-clause-any_moment : goal.returns-in_default-clause-any_moment
returns-in_default-clause-any_moment g c = λ honest.
    let j = c.args.self.now in
    let q = c.requires in
    let d = g.D.Device in
    let device = j.root.log.device.device in
    let places : List ℕ = j.closed.items ++ j.growing ∷ [] in
    let P : List ℕ → Type 0 = HasRecords j.root.log.device.len j.len (records_at j.len places (d.seen device)) in
    started d.moment d.left_since device P (λ f left.
    subst P (sym (q.regions.root.durable f (g.met.D.Device.only_now device f left))) (kept_of j.root.log.device.len j.len j.root.number places (d.seen device) q.regions.small (q.regions.names honest)))

pub returns-clause-base : goal.returns-clause-base
returns-clause-base g c =
    let free = c.in-Some.ensures.free in
    let b = c.in_ok-clear_outside.ensures in
    base_made c.in-Some.place c.args.self.now c.clear_outside.new.self b.changes (record { closed = c.new.result; growing = c.in-Some.place; end = 0 }) [] c.new.ensures.items refl
    (free.behind, tt) (free.within, tt) (free.small, tt) (free.apart, tt) tt (omega arith) tt tt (blank_log c.args.self.now.len _ b.zeros)

pub returns-in_default-clause-intact : goal.returns-in_default-clause-intact
returns-in_default-clause-intact g c = rests_intact c.args.self.now (λ f. g.met.D.Device.only_now c.args.self.now.root.log.device.device f) c.requires.regions
