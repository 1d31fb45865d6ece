-- Nothing is done where no region is free.
use Rattle.std.proofs.Common.{List, [], ◌∷◌, ◌++◌, ℕ, sym, subst}
use Rattle.cq_disk.proofs.Moments.{started}
use Rattle.cq_journal.specs.Regions.{HasRecords, records_at}
use Rattle.cq_journal.proofs.Regions.{kept_of}
use Rattle.cq_journal.proofs.Intact.{rests_intact}
use Rattle.cq_journal.proofs.Refused.{growing_sound, not_both}
use Rattle.cq_journal.proofs.journal.Journal.recover.Goals as goal

pub returns-in_default-clause-any_moment : goal.returns-in_default-clause-any_moment
returns-in_default-clause-any_moment g c = λ honest.
    let j = c.args.self.now in
    let q = c.requires in
    let d = g.D.Device in
    let device = j.root.log.device.device in
    let places : List ℕ = j.closed.items ++ j.growing ∷ [] in
    let P : List ℕ → Type 0 = HasRecords j.root.log.device.len j.len (records_at j.len places (d.seen device)) in
    started d.moment d.left_since device P (λ f left.
    subst P (sym (q.root.durable f (g.met.D.Device.only_now device f left))) (kept_of j.root.log.device.len j.len j.root.number places (d.seen device) q.small (q.names honest)))

pub returns-in_default-clause-intact : goal.returns-in_default-clause-intact
returns-in_default-clause-intact g c = rests_intact c.args.self.now (λ f. g.met.D.Device.only_now c.args.self.now.root.log.device.device f) c.requires

pub returns-clause-refused : goal.returns-clause-refused
returns-clause-refused g c = λ err honest i.
    let j = c.args.self.now in
    not_both (growing_sound j c.requires (c.move_to.ensures.honest honest) i) (c.move_to.ensures.damaged err honest)

pub returns-in_default-clause-crowded : goal.returns-in_default-clause-crowded
returns-in_default-clause-crowded g c = λ err room. c.in_default.ensures.none room.long room.step room.free

pub returns-clause-crowded : goal.returns-clause-crowded
returns-clause-crowded g c = λ err room. c.move_to.ensures.crowded err (room.number_left, room.names)
