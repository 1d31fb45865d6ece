-- A message was taken, or none.
use Rattle.std.proofs.Common.{arith, ◌∙◌, ◌++◌, ◌∷◌, [], ap, Ok}
use Rattle.cq_base.specs.declared.party.Party.TheVariants as parties
use Rattle.cq_nodes.specs.Ends.{party_at, back_of}
use Rattle.std.proofs.lemmas.Result.{err_from_is_err_and}
use Rattle.cq_nodes.specs.Turns.{faults_of}
use Rattle.cq_nodes.proofs.Growing.{crash_kept, crash_more}
use Rattle.cq_nodes.proofs.MasterSteps.{same_count}
use Rattle.cq_nodes.proofs.NodeSteps.{ran_taken, ran_waiting, not_taken, none_taken, room_if}
use Rattle.cq_events.specs.Actions.{taken_from}
use Rattle.cq_events.specs.declared.event.Event.TheVariants as events
use Rattle.cq_nodes.proofs.ServerTurns.{up_still, seen_unread}
use Rattle.cq_nodes.proofs.server_node.ServerNode.take_from.Goals as goal

pub invariant_of-self-in_err-taken : goal.invariant_of-self-in_err-taken
invariant_of-self-in_err-taken g c =
    let old = c.self.inside in (
      ran_waiting g.P.PutEnd.list g.T.TakeEnd.list g.I.TakeEnd.list old.size old.id old.core c.take_at.new.core old.outs.items old.clients old.ins.items old.inbox old.trace.items c.reserve.new.self.items old.crash_after old.starved c.self.invariant.0 c.take_at.new.ins.items (same_count (λ end. end.end) g.T.TakeEnd.link c.take_at.new.ins.items old.ins.items c.take_at.ensures.links)
          (c.take_at.ensures.idle (not_taken c.take_at.result _ c.in_err-taken.was)) (λ seen taken. c.take_at.ensures.lists seen taken (not_taken c.take_at.result _ c.in_err-taken.was)) c.in_ok-reserve.ensures.items,
      room_if old.ended _ _ (omega (arith, c.in_ok-reserve.ensures.ok)),
      crash_kept old.id old.trace.items c.reserve.new.self.items old.starved old.ended c.self.invariant.2 c.in_ok-reserve.ensures.items,
    )

pub invariant_of-self-then-taken : goal.invariant_of-self-then-taken
invariant_of-self-then-taken g c =
    let old = c.self.inside in
    let was = c.self.invariant.0 in
    let own = parties.Server old.id in (
      ran_taken g.P.PutEnd.list g.T.TakeEnd.list g.I.TakeEnd.list old.size old.id old.core c.take_at.new.core old.outs.items old.clients old.ins.items old.inbox old.trace.items c.push_reserved.new.self.items old.crash_after old.starved was c.take_at.new.ins.items c.args.place (same_count (λ end. end.end) g.T.TakeEnd.link c.take_at.new.ins.items old.ins.items c.take_at.ensures.links)
          (c.take_at.ensures.taken (back_of old.outs.items old.clients.kept) (λ at. taken_from (party_at at) was.actions) was.takes (c.in_ok-taken.was ∙ ap Ok c.if-taken.true))
          (c.push_reserved.ensures.items ∙ ap (λ us. us ++ events.Take c.party_at.result own ∷ []) c.in_ok-reserve.ensures.items ∙ ap (λ from. old.trace.items ++ events.Take from own ∷ []) c.party_at.ensures),
      room_if old.ended _ _ (omega (arith, c.in_ok-reserve.ensures.ok, c.push_reserved.ensures.len, c.push_reserved.ensures.capacity)),
      crash_more old.id old.trace.items c.push_reserved.new.self.items old.starved old.ended c.self.invariant.2 (up_still _ c.args.self.now c.self.view_is c.requires.up) (events.Take (party_at c.args.place) own)
          (c.push_reserved.ensures.items ∙ ap (λ us. us ++ events.Take c.party_at.result own ∷ []) c.in_ok-reserve.ensures.items ∙ ap (λ from. old.trace.items ++ events.Take from own ∷ []) c.party_at.ensures) (λ same. absurd (cc)),
    )

pub invariant_of-self-else-taken : goal.invariant_of-self-else-taken
invariant_of-self-else-taken g c =
    let old = c.self.inside in (
      ran_waiting g.P.PutEnd.list g.T.TakeEnd.list g.I.TakeEnd.list old.size old.id old.core c.take_at.new.core old.outs.items old.clients old.ins.items old.inbox old.trace.items c.reserve.new.self.items old.crash_after old.starved c.self.invariant.0 c.take_at.new.ins.items (same_count (λ end. end.end) g.T.TakeEnd.link c.take_at.new.ins.items old.ins.items c.take_at.ensures.links)
          (c.take_at.ensures.idle (none_taken c.take_at.result _ c.in_ok-taken.was c.if-taken.false)) (λ seen taken. c.take_at.ensures.lists seen taken (none_taken c.take_at.result _ c.in_ok-taken.was c.if-taken.false)) c.in_ok-reserve.ensures.items,
      room_if old.ended _ _ (omega (arith, c.in_ok-reserve.ensures.ok)),
      crash_kept old.id old.trace.items c.reserve.new.self.items old.starved old.ended c.self.invariant.2 c.in_ok-reserve.ensures.items,
    )

pub returns-in_err-taken-clause-unread : goal.returns-in_err-taken-clause-unread
returns-in_err-taken-clause-unread g c = seen_unread _ c.args.self.now _ _ c.self.view_is (let fault = err_from_is_err_and c.from_residual-in_err-taken.result c.from_residual-in_err-taken.ensures.1 in let told = ap faults_of fault.1 in let few = c.take_at.ensures.unread in let was = ap faults_of c.in_err-taken.was in omega arith)

pub returns-then-taken-clause-unread : goal.returns-then-taken-clause-unread
returns-then-taken-clause-unread g c = seen_unread _ c.args.self.now _ _ c.self.view_is (let few = c.take_at.ensures.unread in let was = ap faults_of c.in_ok-taken.was in omega arith)

pub returns-else-taken-clause-unread : goal.returns-else-taken-clause-unread
returns-else-taken-clause-unread g c = seen_unread _ c.args.self.now _ _ c.self.view_is (let few = c.take_at.ensures.unread in let was = ap faults_of c.in_ok-taken.was in omega arith)
