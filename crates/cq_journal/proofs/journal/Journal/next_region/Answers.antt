-- Nothing is done where the region isn't free.
use Rattle.std.proofs.Common.{List, [], ◌∷◌, ◌++◌, ℕ, sym, subst}
use Rattle.cq_disk.proofs.Moments.{started}
use Rattle.cq_journal.specs.Regions.{HasRecords, records_at}
use Rattle.cq_journal.proofs.Regions.{kept_of}
use Rattle.cq_journal.proofs.Intact.{rests_intact}
use Rattle.cq_journal.proofs.journal.Journal.next_region.Goals as goal

pub returns-then-not-is_free-clause-any_moment : goal.returns-then-not-is_free-clause-any_moment
returns-then-not-is_free-clause-any_moment g c = λ honest.
    let j = c.args.self.now in
    let q = c.requires in
    let d = g.D.Device in
    let device = j.root.log.device.device in
    let places : List ℕ = j.closed.items ++ j.growing ∷ [] in
    let P : List ℕ → Type 0 = HasRecords j.root.log.device.len j.len (records_at j.len places (d.seen device)) in
    started d.moment d.left_since device P (λ f left.
    subst P (sym (q.regions.root.durable f (g.met.D.Device.only_now device f left))) (kept_of j.root.log.device.len j.len j.root.number places (d.seen device) q.regions.small (q.regions.names honest)))

pub returns-then-not-is_free-clause-intact : goal.returns-then-not-is_free-clause-intact
returns-then-not-is_free-clause-intact g c = rests_intact c.args.self.now (λ f. g.met.D.Device.only_now c.args.self.now.root.log.device.device f) c.requires.regions
