-- A message was taken, or none.
use Rattle.std.proofs.Common.{◌∙◌, ◌+◌, ap, arith, Ok}
use Rattle.std.proofs.lemmas.Result.{err_from_is_err_and}
use Rattle.cq_nodes.specs.Turns.{faults_of}
use Rattle.cq_base.specs.declared.party.Party.TheVariants as parties
use Rattle.cq_nodes.specs.MasterMoves.{back_of_servers}
use Rattle.cq_nodes.proofs.MasterSteps.{noted, same_count, master_took, master_waiting}
use Rattle.cq_nodes.proofs.NodeSteps.{not_taken, none_taken}
use Rattle.cq_events.specs.Actions.{taken_from}
use Rattle.cq_events.specs.declared.event.Event.TheVariants as events
use Rattle.cq_nodes.proofs.MasterTurns.{seen_unread}
use Rattle.cq_nodes.proofs.master_node.MasterNode.take_from.Goals as goal

pub invariant_of-self-in_err-taken : goal.invariant_of-self-in_err-taken
invariant_of-self-in_err-taken g c =
    let old = c.self.inside in
    let none = not_taken c.take_at.result _ c.in_err-taken.was in
    master_waiting g.P.PutEnd.list g.T.TakeEnd.list old.size old.joins.items old.core c.take_at.new.core old.outs.items old.ins.items old.trace.items c.reserve.new.self.items c.self.invariant c.take_at.new.ins.items (same_count (λ end. end.end) g.T.TakeEnd.link c.take_at.new.ins.items old.ins.items c.take_at.ensures.links)
    (c.take_at.ensures.idle none) (λ seen taken. c.take_at.ensures.lists seen taken none) c.in_ok-reserve.ensures.items

pub invariant_of-self-then-taken : goal.invariant_of-self-then-taken
invariant_of-self-then-taken g c =
    let old = c.self.inside in
    let was = c.self.invariant in
    master_took g.P.PutEnd.list g.T.TakeEnd.list old.size old.joins.items old.core c.take_at.new.core old.outs.items old.ins.items old.trace.items c.push_reserved.new.self.items was c.take_at.new.ins.items c.args.from (same_count (λ end. end.end) g.T.TakeEnd.link c.take_at.new.ins.items old.ins.items c.take_at.ensures.links)
    (c.take_at.ensures.taken (back_of_servers old.outs.items) (λ at. taken_from (parties.Server (at + 1)) was.actions) was.takes (c.in_ok-taken.was ∙ ap Ok c.if-taken.true))
    (noted old.trace.items c.reserve.new.self.items c.push_reserved.new.self.items (events.Take (parties.Server c.args.from) parties.Master) c.push_reserved.ensures.items c.in_ok-reserve.ensures.items)

pub invariant_of-self-else-taken : goal.invariant_of-self-else-taken
invariant_of-self-else-taken g c =
    let old = c.self.inside in
    let none = none_taken c.take_at.result _ c.in_ok-taken.was c.if-taken.false in
    master_waiting g.P.PutEnd.list g.T.TakeEnd.list old.size old.joins.items old.core c.take_at.new.core old.outs.items old.ins.items old.trace.items c.reserve.new.self.items c.self.invariant c.take_at.new.ins.items (same_count (λ end. end.end) g.T.TakeEnd.link c.take_at.new.ins.items old.ins.items c.take_at.ensures.links)
    (c.take_at.ensures.idle none) (λ seen taken. c.take_at.ensures.lists seen taken none) c.in_ok-reserve.ensures.items

pub returns-in_err-taken-clause-unread : goal.returns-in_err-taken-clause-unread
returns-in_err-taken-clause-unread g c = seen_unread _ c.args.self.now _ _ c.self.view_is (let fault = err_from_is_err_and c.from_residual-in_err-taken.result c.from_residual-in_err-taken.ensures.1 in let told = ap faults_of fault.1 in let few = c.take_at.ensures.unread in let was = ap faults_of c.in_err-taken.was in omega arith)

pub returns-then-taken-clause-unread : goal.returns-then-taken-clause-unread
returns-then-taken-clause-unread g c = seen_unread _ c.args.self.now _ _ c.self.view_is (let few = c.take_at.ensures.unread in let was = ap faults_of c.in_ok-taken.was in omega arith)

pub returns-else-taken-clause-unread : goal.returns-else-taken-clause-unread
returns-else-taken-clause-unread g c = seen_unread _ c.args.self.now _ _ c.self.view_is (let few = c.take_at.ensures.unread in let was = ap faults_of c.in_ok-taken.was in omega arith)
