-- The fifo is found in its place.
use Rattle.std.proofs.Common.{◌∙◌, ap, sym}
use Rattle.std.specs.Option.{is_some}
use Rattle.cq_chain.specs.Fifos.{messages_of}
use Rattle.cq_world.specs.within.Kept.{messages_at}
use Rattle.cq_world.proofs.OfSim.LinksKept.{kept}
use Rattle.cq_world.proofs.OfSim.LinkKeys.{update-written, found-fifo}
use Rattle.cq_world.proofs.links.Links.reserve.Goals as goal

pub returns-in-Some-clause-messages : goal.returns-in-Some-clause-messages
returns-in-Some-clause-messages c = λ x y.
    let w = c.get_mut.follows.holds c.reserve.new.self in
    let u = w.3 (sym (ap is_some c.in-Some.ensures.value)) in
    let old = c.self.inside.fifos.entries in
    let new = (c.get_mut.follows.lender c.reserve.new.self).entries in
    let q = c.args.pair.now in
    kept old new c.args.pair.now.from c.args.pair.now.to c.reserve.new.self (update-written old new q c.reserve.new.self u.0) (c.reserve.ensures.messages ∙ ap messages_of (c.in-Some.ensures.value ∙ found-fifo old q)) x y ∙ ap (λ ls. messages_at ls x y) c.self.view_is
