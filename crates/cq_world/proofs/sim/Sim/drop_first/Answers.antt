-- The first message leaves the link.
use Rattle.std.proofs.Common.{◌∙◌, sym, refl}
use Rattle.cq_events.specs.Events.{without_first}
use Rattle.cq_world.specs.within.Kept.{messages_at}
use Rattle.cq_world.specs.declared.sim.Sim.{Sim}
use Rattle.cq_world.proofs.OfSim.Meanings.{all-length, none-of, filled-of}
use Rattle.cq_world.proofs.OfSim.Stands.{holds, stands, without-stands}
use Rattle.cq_world.proofs.sim.Sim.drop_first.Goals as goal

pub returns-then-waiting-eq0-clause-err : goal.returns-then-waiting-eq0-clause-err
returns-then-waiting-eq0-clause-err c = λ w h.
    let from = c.args.pair.now.from in
    let to = c.args.pair.now.to in
    let same = c.waiting.ensures ∙ all-length (messages_at c.args.self.now.links from to) (w.link from to) ((holds c.args.self.now w h).links from to) in
    (refl, none-of (w.link from to) (sym same ∙ c.if-waiting-eq0.true), h)

pub returns-clause-ok : goal.returns-clause-ok
returns-clause-ok c = λ w h.
    let from = c.args.pair.now.from in
    let to = c.args.pair.now.to in
    let old = c.args.self.now in
    let new : Sim = record { alloc = old.alloc; servers = old.servers; links = c.pop.new.self; master = old.master } in
    let same = c.waiting.ensures ∙ all-length (messages_at old.links from to) (w.link from to) ((holds old w h).links from to) in
    (filled-of (w.link from to) (λ none. c.if-waiting-eq0.false (same ∙ none)), stands new (without_first w from to) (without-stands old c.pop.new.self w from to c.pop.ensures (holds old w h)))
