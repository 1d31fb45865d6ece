-- The fifo that is added has no messages.
use Rattle.std.proofs.Common.{◌∙◌, ap, sym}
use Rattle.cq_world.specs.within.Kept.{messages_at}
use Rattle.cq_world.proofs.OfSim.LinksKept.{kept}
use Rattle.cq_world.proofs.OfSim.LinkKeys.{update-written}
use Rattle.cq_world.proofs.links.Links.reserve_new.Goals as goal

pub returns-clause-messages : goal.returns-clause-messages
returns-clause-messages c = λ x y.
    let old = c.self.inside.fifos.entries in
    let new = c.insert.new.self.entries in
    let q = c.args.pair.now in
    let none = c.reserve.ensures.messages ∙ c.new-fifo.ensures ∙ sym (ap (λ ls. messages_at ls q.from q.to) c.self.view_is ∙ c.requires) in
    kept old new q.from q.to c.reserve.new.self (update-written old new q c.reserve.new.self c.in_ok-insert.ensures.updates.0) none x y ∙ ap (λ ls. messages_at ls x y) c.self.view_is
