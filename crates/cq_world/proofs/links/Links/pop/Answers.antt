-- The fifo is found in its place.
use Rattle.std.proofs.Common.{◌∙◌, drop, ap, sym}
use Rattle.std.specs.Option.{is_some}
use Rattle.cq_chain.specs.Fifos.{messages_of}
use Rattle.cq_world.specs.within.Kept.{messages_at}
use Rattle.cq_events.specs.Worlds.{set_pair}
use Rattle.cq_world.proofs.OfSim.LinksKept.{written, set-same}
use Rattle.cq_world.proofs.OfSim.LinkKeys.{update-written, found-fifo}
use Rattle.cq_world.proofs.links.Links.pop.Goals as goal
use Rattle.cq_world.proofs.links.Links.pop.Goals.{in-Some, in-None}

pub returns : goal.returns
returns c = λ x y.
    let old = c.self.inside.fifos.entries in
    let q = c.args.pair.now in
    let seen = ap (λ ls. set_pair (messages_at ls) c.args.pair.now.from c.args.pair.now.to (drop 1 (messages_at ls c.args.pair.now.from c.args.pair.now.to)) x y) c.self.view_is in
    elim c.match-get_mut.branch [
      | in-Some w ↦
          let h = c.get_mut.follows.holds w.pop.new.self in
          let new = (c.get_mut.follows.lender w.pop.new.self).entries in
          let u = h.3 (sym (ap is_some w.in-Some.ensures.value)) in
          let is = w.pop.ensures.rest ∙ ap (λ o. drop 1 (messages_of o)) (w.in-Some.ensures.value ∙ found-fifo old q) in
          ap (λ i. messages_at i.fifos.entries x y) w.self-inside-is ∙ written old new c.args.pair.now.from c.args.pair.now.to w.pop.new.self (drop 1 (messages_at old c.args.pair.now.from c.args.pair.now.to)) (update-written old new q w.pop.new.self u.0) is x y ∙ seen
      | in-None w ↦
          let none = ap messages_of (w.in-None.ensures.value ∙ found-fifo old q) in
          ap (λ i. messages_at i.fifos.entries x y) w.self-inside-is ∙ ap (λ m. messages_at m.entries x y) c.get_mut.follows.holds-at-none ∙ sym (set-same (messages_at old) c.args.pair.now.from c.args.pair.now.to (drop 1 (messages_at old c.args.pair.now.from c.args.pair.now.to)) (sym none ∙ ap (drop 1) none) x y) ∙ seen
    ]
