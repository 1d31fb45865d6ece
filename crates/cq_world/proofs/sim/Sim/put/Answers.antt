-- By whether both ends are known, and whether the sender lives.
use Rattle.std.proofs.Common.{◌≡◌, ◌∙◌, sym, subst, None, IfOk, IfErr}
use Rattle.cq_chain.specs.Faults.{IsRefusal}
use Rattle.cq_events.specs.Events.{has_party, given_by, next}
use Rattle.cq_world.specs.Stands.{StandsFor}
use Rattle.cq_events.specs.declared.event.Event.TheVariants as events
use Rattle.cq_events.proofs.Parties.{both}
use Rattle.cq_world.proofs.OfSim.Refused.{put-known, put-dead, put-unknown}
use Rattle.cq_world.proofs.sim.Sim.put.Goals as goal

pub returns-then-not-has_parties-clause-err : goal.returns-then-not-has_parties-clause-err
returns-then-not-has_parties-clause-err c = λ w h. (put-unknown w c.args.pair.now.from c.args.pair.now.to (sym (c.has_parties.ensures w h) ∙ c.if-not-has_parties.true), h)

pub returns-then-is_down-clause-err : goal.returns-then-is_down-clause-err
returns-then-is_down-clause-err c = λ w h.
    let from = c.args.pair.now.from in
    let to = c.args.pair.now.to in
    let there = sym (c.has_parties.ensures w h) ∙ c.if-not-has_parties.false in
    (put-dead w from to there (sym (c.is_down.ensures w h (both (has_party w from) (has_party w to) there).0) ∙ c.if-is_down.true), h)

pub returns-in-Clients-clause-ok : goal.returns-in-Clients-clause-ok
returns-in-Clients-clause-ok c = λ w h.
    let from = c.args.pair.now.from in
    let to = c.args.pair.now.to in
    let there = sym (c.has_parties.ensures w h) ∙ c.if-not-has_parties.false in
    let same = put-known w from to there (sym (c.is_down.ensures w h (both (has_party w from) (has_party w to) there).0) ∙ c.if-is_down.false) in
    subst (λ r. IfOk c.give.result (λ given. (r ≡ None) × (given ≡ given_by w (events.Put from to)) × StandsFor c.give.new.self (next w (events.Put from to)))) (sym same) (c.give.ensures.ok w h)

pub returns-in-Clients-clause-err : goal.returns-in-Clients-clause-err
returns-in-Clients-clause-err c = λ w h.
    let from = c.args.pair.now.from in
    let to = c.args.pair.now.to in
    let there = sym (c.has_parties.ensures w h) ∙ c.if-not-has_parties.false in
    let same = put-known w from to there (sym (c.is_down.ensures w h (both (has_party w from) (has_party w to) there).0) ∙ c.if-is_down.false) in
    subst (λ r. IfErr c.give.result (λ fault. IsRefusal fault r × StandsFor c.give.new.self w)) (sym same) (c.give.ensures.err w h)

pub returns-in_default : goal.returns-in_default
returns-in_default c = record {
  ok = λ w h.
      let from = c.args.pair.now.from in
      let to = c.args.pair.now.to in
      let there = sym (c.has_parties.ensures w h) ∙ c.if-not-has_parties.false in
      let same = put-known w from to there (sym (c.is_down.ensures w h (both (has_party w from) (has_party w to) there).0) ∙ c.if-is_down.false) in
      subst (λ r. IfOk c.post.result (λ given. (r ≡ None) × (given ≡ given_by w (events.Put from to)) × StandsFor c.post.new.self (next w (events.Put from to)))) (sym same) (c.post.ensures.ok w h);
  err = λ w h.
      let from = c.args.pair.now.from in
      let to = c.args.pair.now.to in
      let there = sym (c.has_parties.ensures w h) ∙ c.if-not-has_parties.false in
      let same = put-known w from to there (sym (c.is_down.ensures w h (both (has_party w from) (has_party w to) there).0) ∙ c.if-is_down.false) in
      subst (λ r. IfErr c.post.result (λ fault. IsRefusal fault r × StandsFor c.post.new.self w)) (sym same) (c.post.ensures.err w h);
}
