-- One party more.
use Rattle.std.proofs.Common.{◌≡◌, ◌+◌, ◌<◌, ◌≤◌, ◌∙◌, ◌++◌, ◌∷◌, [], ap, sym, subst, take, length, suc, arith}
use Rattle.std.specs.Map.{keys_of}
use Rattle.std.proofs.Math.Seq.{take-suc}
use Rattle.std.proofs.lemmas.List.{take_all}
use Rattle.cq_chain.proofs.Next.{Least, least-of-none, least-party, least-next}
use Rattle.cq_chain.specs.within.Boxes.{nearer_party}
use Rattle.cq_chain.proofs.outboxes.Outboxes.next_waiting.Goals as goal

pub loop-party-init : goal.loop-party-init
loop-party-init c = least-of-none c.args.self.now c.args.after

pub loop-party-preserved : goal.loop-party-preserved
loop-party-preserved c =
    let i = c.loop-party.party-index in
    let parties = c.as_slice-party-items.result.now in
    let inside : i < length parties = c.loop-party-test.true in
    let one : i + 1 ≡ suc i = omega arith in
    let so : take (i + 1) parties ≡ take i parties ++ c.party-item.result ∷ [] = ap (λ k. take k parties) one ∙ take-suc parties i c.party-item.result inside ∙ ap (λ e. take i parties ++ e ∷ []) (sym c.party-item.is) in
    subst (λ next. Least c.args.self.now c.args.after next (take (i + 1) parties)) (sym c.nearer_party-next.ensures) (subst (λ seen. Least c.args.self.now c.args.after (nearer_party c.args.self.now c.args.after c.loop-party.next c.party-item.result) seen) (sym so)
    (least-party c.args.self.now c.args.after c.loop-party.next (take i parties) c.party-item.result c.loop-party.invariant))

pub returns : goal.returns
returns c = λ outbox h.
    let i = c.loop-party.party-index in
    let parties = c.as_slice-party-items.result.now in
    let all : length parties ≤ i = c.loop-party-test.false in
    let are : parties ≡ keys_of c.self.inside.fifos.entries = c.as_slice-party-items.ensures ∙ c.keys.ensures.rest in
    let seen : take i parties ≡ keys_of c.args.self.now = take_all i parties all ∙ are ∙ ap (λ es. keys_of es) c.self.view_is in
    least-next c.args.self.now c.args.after c.loop-party.next outbox (subst (λ xs. Least c.args.self.now c.args.after c.loop-party.next xs) seen c.loop-party.invariant) h
