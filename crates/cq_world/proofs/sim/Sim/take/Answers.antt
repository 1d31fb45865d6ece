-- By whether both ends are known, whether the taker lives, and who it is.
use Rattle.std.proofs.Common.{◌≡◌, ◌∙◌, sym, subst, None, true, OnOk, IfErr}
use Rattle.cq_chain.specs.Faults.{IsRefusal}
use Rattle.cq_events.specs.Events.{has_party, next, refusal_of}
use Rattle.cq_world.specs.Stands.{StandsFor}
use Rattle.cq_events.specs.declared.event.Event.TheVariants as events
use Rattle.cq_events.proofs.Parties.{both}
use Rattle.cq_world.proofs.OfSim.Refused.{IsDropped, next-take, take-known, take-dead, take-unknown, take-filled, take-dropped, take-nothing}
use Rattle.cq_world.proofs.OfSim.Calls.{on-ok, if-err}
use Rattle.cq_world.proofs.sim.Sim.take.Goals as goal

pub returns-then-not-has_parties-clause-err : goal.returns-then-not-has_parties-clause-err
returns-then-not-has_parties-clause-err c = λ w h. (take-unknown w c.args.pair.now.from c.args.pair.now.to (sym (c.has_parties.ensures w h) ∙ c.if-not-has_parties.true), h)

pub returns-then-is_down-clause-err : goal.returns-then-is_down-clause-err
returns-then-is_down-clause-err c = λ w h.
    let from = c.args.pair.now.from in
    let to = c.args.pair.now.to in
    let there = sym (c.has_parties.ensures w h) ∙ c.if-not-has_parties.false in
    (take-dead w from to there (sym (c.is_down.ensures w h (both (has_party w from) (has_party w to) there).1) ∙ c.if-is_down.true), h)

pub returns-in-Server-clause-ok : goal.returns-in-Server-clause-ok
returns-in-Server-clause-ok c = λ w h.
    let from = c.args.pair.now.from in
    let to = c.args.pair.now.to in
    let there = sym (c.has_parties.ensures w h) ∙ c.if-not-has_parties.false in
    let same = take-known w from to there (sym (c.is_down.ensures w h (both (has_party w from) (has_party w to) there).1) ∙ c.if-is_down.false) in
    subst (λ r. OnOk c.take_at.result ((r ≡ None) × StandsFor c.take_at.new.self (next w (events.Take from to)))) (sym same) (c.take_at.ensures.ok w h)

pub returns-in-Server-clause-err : goal.returns-in-Server-clause-err
returns-in-Server-clause-err c = λ w h.
    let from = c.args.pair.now.from in
    let to = c.args.pair.now.to in
    let there = sym (c.has_parties.ensures w h) ∙ c.if-not-has_parties.false in
    let same = take-known w from to there (sym (c.is_down.ensures w h (both (has_party w from) (has_party w to) there).1) ∙ c.if-is_down.false) in
    let id = subst (λ p. has_party w p ≡ true) c.in-Server.is (both (has_party w from) (has_party w to) there).1 in
    subst (λ r. IfErr c.take_at.result (λ fault. IsRefusal fault r × StandsFor c.take_at.new.self w)) (sym same) (c.take_at.ensures.err w h id)

pub returns-in-Master-clause-ok : goal.returns-in-Master-clause-ok
returns-in-Master-clause-ok c = λ w h.
    let from = c.args.pair.now.from in
    let to = c.args.pair.now.to in
    let there = sym (c.has_parties.ensures w h) ∙ c.if-not-has_parties.false in
    let same = take-known w from to there (sym (c.is_down.ensures w h (both (has_party w from) (has_party w to) there).1) ∙ c.if-is_down.false) in
    subst (λ r. OnOk c.take_by_master.result ((r ≡ None) × StandsFor c.take_by_master.new.self (next w (events.Take from to)))) (sym same) (c.take_by_master.ensures.ok w h)

pub returns-in-Master-clause-err : goal.returns-in-Master-clause-err
returns-in-Master-clause-err c = λ w h.
    let from = c.args.pair.now.from in
    let to = c.args.pair.now.to in
    let there = sym (c.has_parties.ensures w h) ∙ c.if-not-has_parties.false in
    let same = take-known w from to there (sym (c.is_down.ensures w h (both (has_party w from) (has_party w to) there).1) ∙ c.if-is_down.false) in
    subst (λ r. IfErr c.take_by_master.result (λ fault. IsRefusal fault r × StandsFor c.take_by_master.new.self w)) (sym same) (c.take_by_master.ensures.err w h)

pub returns-in-Clients-clause-ok : goal.returns-in-Clients-clause-ok
returns-in-Clients-clause-ok c = λ w h.
    let from = c.args.pair.now.from in
    let to = c.args.pair.now.to in
    let there = sym (c.has_parties.ensures w h) ∙ c.if-not-has_parties.false in
    let same = take-known w from to there (sym (c.is_down.ensures w h (both (has_party w from) (has_party w to) there).1) ∙ c.if-is_down.false) in
    let dropped : IsDropped from to = subst (λ p. IsDropped from p) (sym c.in-Clients.is) tt in
    on-ok c.drop_first.result (λ r. (
      same ∙ take-filled w from to (w.link from to) dropped r.0,
      subst (λ v. StandsFor c.drop_first.new.self v) (sym (next-take w from to ∙ take-dropped w from to (w.link from to) dropped r.0)) r.1,
    )) (c.drop_first.ensures.ok w h)

pub returns-in-Clients-clause-err : goal.returns-in-Clients-clause-err
returns-in-Clients-clause-err c = λ w h.
    let from = c.args.pair.now.from in
    let to = c.args.pair.now.to in
    let there = sym (c.has_parties.ensures w h) ∙ c.if-not-has_parties.false in
    let same = take-known w from to there (sym (c.is_down.ensures w h (both (has_party w from) (has_party w to) there).1) ∙ c.if-is_down.false) in
    if-err _ (λ fault. IsRefusal fault (refusal_of w (events.Take from to)) × StandsFor c.drop_first.new.self w) c.drop_first.result
    (λ fault r. (subst (λ o. IsRefusal fault o) (sym same) (take-nothing w from to (w.link from to) fault r.0 r.1), r.2)) (c.drop_first.ensures.err w h)
