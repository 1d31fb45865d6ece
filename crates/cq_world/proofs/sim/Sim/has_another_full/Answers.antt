-- One server more.
use Rattle.std.proofs.Common.{◌≡◌, ◌+◌, ◌<◌, ◌≤◌, ◌∙◌, ◌++◌, ◌∷◌, [], ap, sym, refl, subst, take, length, slice_get, suc, arith}
use Rattle.std.specs.Map.{keys_of}
use Rattle.std.proofs.Math.Seq.{take-suc}
use Rattle.std.proofs.lemmas.List.{take_all}
use Rattle.std.proofs.lemmas.Option.{slice_get_read}
use Rattle.cq_world.proofs.OfSim.Remaining.{NoneRemains, none-at-first, none-more, none-remains, one-remains, key-there, same-number, serves-not}
use Rattle.cq_world.proofs.OfSim.Stands.{holds}
use Rattle.cq_world.proofs.sim.Sim.has_another_full.Goals as goal
use Rattle.cq_world.proofs.sim.Sim.has_another_full.Goals.{else-ne-via-then-ne+else-serves, else-ne-via-else-ne}

pub loop-other-init : goal.loop-other-init
loop-other-init c = none-at-first c.args.self.now c.args.id

pub loop-other-preserved : goal.loop-other-preserved
loop-other-preserved c =
    let sim = c.args.self.now in
    let id = c.args.id in
    let i = c.loop-other.other-index in
    let ids = c.as_slice-other-items.result.now in
    let other = c.other-item.result in
    let inside : i < length ids = c.loop-other-test.true in
    let one : i + 1 ≡ suc i = omega arith in
    let so : take (i + 1) ids ≡ take i ids ++ other ∷ [] = ap (λ k. take k ids) one ∙ take-suc ids i other inside ∙ ap (λ e. take i ids ++ e ∷ []) (sym c.other-item.is) in
    let are : ids ≡ keys_of sim.servers.entries = c.as_slice-other-items.ensures ∙ c.keys.ensures.rest in
    let is = sym (ap (λ xs. slice_get xs i) are) ∙ slice_get_read ids (length ids) i other refl inside c.other-item.is in
    subst (λ xs. NoneRemains sim id xs) (sym so) (none-more sim id (take i ids) other c.loop-other.invariant (λ w h. elim c.else-ne.branch [
      | else-ne-via-then-ne+else-serves b ↦ serves-not w id other (key-there sim w i other (holds sim w h) is) (sym (b.serves.ensures w h) ∙ b.if-serves.false)
      | else-ne-via-else-ne b ↦ same-number w id other (sym c.ne.ensures ∙ b.if-ne.false)
    ]))

pub returns-then-serves : goal.returns-then-serves
returns-then-serves c = λ w h. sym (one-remains w c.args.id c.other-item.result (sym c.ne.ensures ∙ c.if-ne.true) (sym (c.serves.ensures w h) ∙ c.if-serves.true))

pub returns : goal.returns
returns c = λ w h.
    let sim = c.args.self.now in
    let i = c.loop-other.other-index in
    let ids = c.as_slice-other-items.result.now in
    let all : length ids ≤ i = c.loop-other-test.false in
    let are : ids ≡ keys_of sim.servers.entries = c.as_slice-other-items.ensures ∙ c.keys.ensures.rest in
    let seen : take i ids ≡ keys_of sim.servers.entries = take_all i ids all ∙ are in
    sym (none-remains sim w c.args.id h (subst (λ xs. NoneRemains sim c.args.id xs) seen c.loop-other.invariant))
