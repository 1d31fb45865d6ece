-- One more entry at its place.
use Rattle.std.proofs.Common.{◌≡◌, ◌≤◌, ◌<◌, ◌+◌, ◌∙◌, ◌++◌, ◌∷◌, [], ap, sym, subst, arith, get_or, length}
use Rattle.cq_chain.specs.declared.message.Message.TheVariants as stored
use Rattle.cq_chain.specs.within.Replicas.{IsEntryAfter}
use Rattle.cq_chain.proofs.Repairs.{sent-start, sent-next, sent-all}
use Rattle.cq_chain.proofs.server.repair.missing.Goals as goal

pub loop-before-init : goal.loop-before-init
loop-before-init c = λ history floor h to. sent-start to c.args.have history c.new-fifo.result.messages c.new-fifo.ensures

pub loop-before-preserved : goal.loop-before-preserved
loop-before-preserved c = λ history floor h to.
    let e = c.in_ok-entry.entry in
    let before = c.loop-before.before in
    let is : e ≡ get_or history before e = subst (λ d. IsEntryAfter history before d) (sym c.in_ok-entry.ensures) (c.entry_after.ensures history floor h) in
    let within : before < length history = omega (arith, c.loop-before-test.true, c.count-before-end.ensures, h.store.count) in
    let more = c.push.ensures.messages ∙ ap (λ xs. xs ++ stored.Fwd (before + 1) e ∷ []) c.reserve.ensures.messages in
    sent-next to c.args.have before (before + 1) history e c.loop-before.fifo.messages c.push.new.self.messages (omega (arith, c.loop-before.auto.before)) within is (c.loop-before.invariant history floor h to) (omega arith) more

pub returns : goal.returns
returns c = λ history floor h to.
    let end : length history ≤ c.loop-before.before = omega (arith, c.loop-before-test.false, c.count-before-end.ensures, h.store.count) in
    sent-all to c.args.have c.loop-before.before history c.loop-before.fifo.messages end (c.loop-before.invariant history floor h to)
