-- What was done by the steps before one that found no memory, or by all.
use Rattle.std.proofs.Common.{◌∙◌, ap, arith}
use Rattle.std.proofs.lemmas.Result.{err_from_is_err_and}
use Rattle.cq_nodes.specs.Turns.{is_done, faults_of}
use Rattle.cq_nodes.proofs.ServerTurns.{worked_one, worked_two, worked_three, worked_four}
use Rattle.cq_nodes.proofs.server_node.ServerNode.work.Goals as goal

pub returns-in_err-taken-clause-worked : goal.returns-in_err-taken-clause-worked
returns-in_err-taken-clause-worked g c = worked_one c.args.self.now c.take_all.new.self c.take_all.ensures.taken

pub returns-in_err-arrived-clause-worked : goal.returns-in_err-arrived-clause-worked
returns-in_err-arrived-clause-worked g c = worked_two c.args.self.now c.take_all.new.self c.take_request.new.self c.take_all.ensures.same.id c.take_all.ensures.turn.turns c.take_all.ensures.taken c.take_request.ensures.arrived

pub returns-in_err-put-clause-worked : goal.returns-in_err-put-clause-worked
returns-in_err-put-clause-worked g c = worked_three c.args.self.now c.take_all.new.self c.take_request.new.self c.put_all.new.self c.take_all.ensures.same.id c.take_all.ensures.turn.turns c.take_request.ensures.same.id
    c.take_all.ensures.taken c.take_request.ensures.arrived c.put_all.ensures.put

pub returns-in_err-answered-clause-worked : goal.returns-in_err-answered-clause-worked
returns-in_err-answered-clause-worked g c = worked_four c.args.self.now c.take_all.new.self c.take_request.new.self c.put_all.new.self c.put_to_clients.new.self (is_done c.put_to_clients.result) c.take_all.ensures.same.id c.take_all.ensures.turn.turns c.take_request.ensures.same.id c.put_all.ensures.same.id
    c.take_all.ensures.taken c.take_request.ensures.arrived c.put_all.ensures.put c.put_to_clients.ensures.noted

pub returns-clause-worked : goal.returns-clause-worked
returns-clause-worked g c = worked_four c.args.self.now c.take_all.new.self c.take_request.new.self c.put_all.new.self c.put_to_clients.new.self (is_done c.put_to_clients.result) c.take_all.ensures.same.id c.take_all.ensures.turn.turns c.take_request.ensures.same.id c.put_all.ensures.same.id
    c.take_all.ensures.taken c.take_request.ensures.arrived c.put_all.ensures.put c.put_to_clients.ensures.noted

pub returns-in_err-taken-clause-unread : goal.returns-in_err-taken-clause-unread
returns-in_err-taken-clause-unread g c = let fault = err_from_is_err_and c.from_residual.result c.from_residual.ensures.1 in let told = ap faults_of fault.1 in let few = c.take_all.ensures.unread in let was = ap faults_of c.in_err-taken.was in omega arith

pub returns-in_err-arrived-clause-unread : goal.returns-in_err-arrived-clause-unread
returns-in_err-arrived-clause-unread g c = let few = c.take_all.ensures.unread in let was = ap faults_of c.in_ok-taken.was in let still = c.take_request.ensures.unread in omega arith

pub returns-in_err-put-clause-unread : goal.returns-in_err-put-clause-unread
returns-in_err-put-clause-unread g c = let few = c.take_all.ensures.unread in let was = ap faults_of c.in_ok-taken.was in let still = c.put_all.ensures.unread ∙ c.take_request.ensures.unread in omega arith

pub returns-in_err-answered-clause-unread : goal.returns-in_err-answered-clause-unread
returns-in_err-answered-clause-unread g c = let few = c.take_all.ensures.unread in let was = ap faults_of c.in_ok-taken.was in let still = c.put_to_clients.ensures.unread ∙ c.put_all.ensures.unread ∙ c.take_request.ensures.unread in omega arith

pub returns-clause-unread : goal.returns-clause-unread
returns-clause-unread g c = let few = c.take_all.ensures.unread in let was = ap faults_of c.in_ok-taken.was in let still = c.put_to_clients.ensures.unread ∙ c.put_all.ensures.unread ∙ c.take_request.ensures.unread in omega arith
