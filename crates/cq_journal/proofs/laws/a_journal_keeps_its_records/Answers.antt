use Rattle.std.proofs.Common.{List, ℕ, [], ◌∷◌, ◌++◌}
use Rattle.cq_journal.proofs.Regions.{kept_of}
use Rattle.cq_journal.proofs.laws.a_journal_keeps_its_records.Goals as goal

pub returns : goal.returns
returns g c = λ honest.
    let j = c.args._journal.now in
    let places : List ℕ = j.closed.items ++ j.growing ∷ [] in
    kept_of j.root.log.device.len j.len j.root.number places (g.D.Device.seen j.root.log.device.device) c.requires.small (c.requires.names honest)
