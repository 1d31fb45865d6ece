-- The fifo is found in its place.
use Rattle.std.proofs.Common.{◌<◌, ◌∙◌, ◌++◌, ◌∷◌, [], ap, sym, subst}
use Rattle.std.specs.Option.{is_some}
use Rattle.cq_chain.specs.Fifos.{messages_of, room_of}
use Rattle.cq_world.specs.within.Kept.{messages_at, room_at}
use Rattle.cq_events.specs.Worlds.{set_pair}
use Rattle.cq_world.proofs.OfSim.LinksKept.{written, no-room}
use Rattle.cq_world.proofs.OfSim.LinkKeys.{update-written, found-fifo}
use Rattle.cq_world.proofs.links.Links.push.Goals as goal

pub push-requires : goal.push-requires
push-requires c =
    let q = c.args.pair.now in
    subst (λ o. 0 < room_of o) (sym (c.in-Some.ensures.value ∙ found-fifo c.self.inside.fifos.entries q)) (subst (λ ls. 0 < room_at ls c.args.pair.now.from c.args.pair.now.to) (sym c.self.view_is) c.requires)

pub unreachable-requires : goal.unreachable-requires
unreachable-requires c =
    let q = c.args.pair.now in
    no-room _ (sym (c.in-None.ensures.value ∙ found-fifo c.self.inside.fifos.entries q)) (subst (λ ls. 0 < room_at ls c.args.pair.now.from c.args.pair.now.to) (sym c.self.view_is) c.requires)

pub returns : goal.returns
returns c = λ x y.
    let w = c.get_mut.follows.holds c.push.new.self in
    let u = w.3 (sym (ap is_some c.in-Some.ensures.value)) in
    let old = c.self.inside.fifos.entries in
    let new = (c.get_mut.follows.lender c.push.new.self).entries in
    let q = c.args.pair.now in
    let is = c.push.ensures.messages ∙ ap (λ o. messages_of o ++ c.args.message ∷ []) (c.in-Some.ensures.value ∙ found-fifo old q) in
    written old new c.args.pair.now.from c.args.pair.now.to c.push.new.self (messages_at old c.args.pair.now.from c.args.pair.now.to ++ c.args.message ∷ []) (update-written old new q c.push.new.self u.0) is x y
    ∙ ap (λ ls. set_pair (messages_at ls) c.args.pair.now.from c.args.pair.now.to (messages_at ls c.args.pair.now.from c.args.pair.now.to ++ c.args.message ∷ []) x y) c.self.view_is
