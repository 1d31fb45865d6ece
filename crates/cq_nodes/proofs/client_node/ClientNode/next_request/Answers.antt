-- What the core makes is one of the asks.
use Rattle.std.proofs.Common.{List, sym, subst, length, IfOk}
use Rattle.std.specs.Option.{IfSome}
use Rattle.cq_base.specs.declared.ask.Ask.{Ask}
use Rattle.cq_chain.specs.declared.message.Answer.{Answer}
use Rattle.cq_nodes.specs.ClientMoves.{IsDueAsk, IsAlong}
use Rattle.cq_nodes.proofs.client_node.ClientNode.next_request.Goals as goal

pub returns-in-Next-clause-asked : goal.returns-in-Next-clause-asked
returns-in-Next-clause-asked g c =
    let old = c.self.inside in
    let asks = c.deref.ensures.value in
    let closed = c.deref-in-Next.ensures.value in
    subst (λ (ys : List Answer). IfOk c.ask_next.result (λ request. IfSome request (IsDueAsk old.id old.asks.items (length ys)))) closed
    (subst (λ (xs : List Ask). IfOk c.ask_next.result (λ request. IfSome request (IsDueAsk old.id xs (length c.deref-in-Next.result.now)))) asks
    (c.ask_next.ensures.asked old.id (subst (λ xs. IsAlong old.id xs old.core c.deref-in-Next.result.now) (sym asks) (subst (IsAlong old.id old.asks.items old.core) (sym closed) c.self.invariant.along))))
