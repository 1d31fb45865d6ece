-- A region that counts lies in the device.
use Rattle.std.proofs.Common.{ℕ, ◌+◌, ◌<◌, ◌≤◌, length, sym, subst, arith}
use Rattle.cq_journal.proofs.Copies.{get_here}
use Rattle.cq_journal.proofs.Regions.{each_at, each_left, last_of}
use Rattle.cq_journal.proofs.journal.Journal.place_of.Goals as goal

pub returns-then-index-len-clause-within : goal.returns-then-index-len-clause-within
returns-then-index-len-clause-within g c =
    let j = c.args.self.now in
    let In : ℕ → Type 0 = λ n. n + j.len ≤ length (g.D.Device.seen j.root.log.device.device) in
    let below : c.args.index < length j.closed.items = omega (arith, c.len.ensures, c.if-index-len.true) in
    subst In (sym (get_here j.closed.items c.args.index c.index.result.now below c.index.ensures))
    (each_at In j.closed.items c.args.index (each_left In j.closed.items j.growing c.requires.regions.within) below)

pub returns-else-index-len-clause-within : goal.returns-else-index-len-clause-within
returns-else-index-len-clause-within g c =
    let j = c.args.self.now in
    last_of (λ n. n + j.len ≤ length (g.D.Device.seen j.root.log.device.device)) j.closed.items j.growing c.requires.regions.within
