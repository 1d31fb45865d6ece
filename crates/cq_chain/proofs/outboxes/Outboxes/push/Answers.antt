-- The fifo of the party is written in its place.
use Rattle.std.proofs.Common.{ap, sym, subst, Some, ◌<◌}
use Rattle.std.specs.Option.{is_some}
use Rattle.cq_chain.specs.Fifos.{room_of}
use Rattle.cq_chain.proofs.Mailing.{found, written, fifo-posts, fifo-takes_one}
use Rattle.cq_chain.proofs.outboxes.Outboxes.push.Goals as goal

pub push-requires : goal.push-requires
push-requires c =
    let was = found c.self.inside.fifos.entries c.args.self.now c.args.to (Some c.in-Some.fifo.now) c.self.view_is c.in-Some.ensures.value in
    subst (λ o. 0 < room_of o) was c.requires

pub returns-clause-posts : goal.returns-clause-posts
returns-clause-posts c =
    let was = found c.self.inside.fifos.entries c.args.self.now c.args.to (Some c.in-Some.fifo.now) c.self.view_is c.in-Some.ensures.value in
    let w = c.get_mut.follows.holds c.push.new.self in
    let u = w.3 (sym (ap is_some c.in-Some.ensures.value)) in
    fifo-posts c.args.self.now _ c.args.to (Some c.in-Some.fifo.now) c.push.new.self c.args.message was (written c.self.inside.fifos.entries c.args.self.now _ c.args.to (Some c.push.new.self) c.self.view_is u.0) c.push.ensures.messages

pub returns-clause-room : goal.returns-clause-room
returns-clause-room c =
    let was = found c.self.inside.fifos.entries c.args.self.now c.args.to (Some c.in-Some.fifo.now) c.self.view_is c.in-Some.ensures.value in
    let w = c.get_mut.follows.holds c.push.new.self in
    let u = w.3 (sym (ap is_some c.in-Some.ensures.value)) in
    fifo-takes_one c.args.self.now _ c.args.to (Some c.in-Some.fifo.now) c.push.new.self was (written c.self.inside.fifos.entries c.args.self.now _ c.args.to (Some c.push.new.self) c.self.view_is u.0) c.push.ensures.room
