-- The fifo of the party has more room.
use Rattle.std.proofs.Common.{ap, sym, Some}
use Rattle.std.specs.Option.{is_some}
use Rattle.cq_chain.proofs.Mailing.{found, written, fifo-kept}
use Rattle.cq_chain.proofs.outboxes.Outboxes.reserve_many.Goals as goal

pub returns-in-Some-clause-keeps : goal.returns-in-Some-clause-keeps
returns-in-Some-clause-keeps c =
    let was = found c.self.inside.fifos.entries c.args.self.now c.args.to (Some c.in-Some.fifo.now) c.self.view_is c.in-Some.ensures.value in
    let w = c.get_mut.follows.holds c.reserve.new.self in
    let u = w.3 (sym (ap is_some c.in-Some.ensures.value)) in
    fifo-kept c.args.self.now _ c.args.to (Some c.in-Some.fifo.now) c.reserve.new.self was (written c.self.inside.fifos.entries c.args.self.now _ c.args.to (Some c.reserve.new.self) c.self.view_is u.0) c.reserve.ensures.messages c.reserve.ensures.room
