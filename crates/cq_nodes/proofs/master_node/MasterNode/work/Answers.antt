-- What was done by the steps before one that found no memory, or by all.
use Rattle.std.proofs.Common.{◌∙◌, ap, arith}
use Rattle.std.proofs.lemmas.Result.{err_from_is_err_and}
use Rattle.cq_nodes.specs.Turns.{faults_of}
use Rattle.cq_nodes.proofs.MasterTurns.{ordered_one, ordered_two, ordered_three, ordered_four}
use Rattle.cq_nodes.proofs.master_node.MasterNode.work.Goals as goal

pub returns-in_err-taken-clause-worked : goal.returns-in_err-taken-clause-worked
returns-in_err-taken-clause-worked g c = ordered_one c.args.self.now c.take_all.new.self c.take_all.ensures.taken

pub returns-in_err-detected-clause-worked : goal.returns-in_err-detected-clause-worked
returns-in_err-detected-clause-worked g c = ordered_two c.args.self.now c.take_all.new.self c.detect_all.new.self c.take_all.ensures.taken c.detect_all.ensures.detected

pub returns-in_err-joined-clause-worked : goal.returns-in_err-joined-clause-worked
returns-in_err-joined-clause-worked g c = ordered_three c.args.self.now c.take_all.new.self c.detect_all.new.self c.join_all.new.self (c.detect_all.ensures.same.joins ∙ c.take_all.ensures.same.joins) (c.detect_all.ensures.moment.turns ∙ c.take_all.ensures.moment.turns)
    c.take_all.ensures.taken c.detect_all.ensures.detected c.join_all.ensures.joined

pub returns-in_err-put-clause-worked : goal.returns-in_err-put-clause-worked
returns-in_err-put-clause-worked g c = ordered_four c.args.self.now c.take_all.new.self c.detect_all.new.self c.join_all.new.self c.put_all.new.self (c.detect_all.ensures.same.joins ∙ c.take_all.ensures.same.joins) (c.detect_all.ensures.moment.turns ∙ c.take_all.ensures.moment.turns)
    c.take_all.ensures.taken c.detect_all.ensures.detected c.join_all.ensures.joined c.put_all.ensures.put

pub returns-clause-worked : goal.returns-clause-worked
returns-clause-worked g c = ordered_four c.args.self.now c.take_all.new.self c.detect_all.new.self c.join_all.new.self c.put_all.new.self (c.detect_all.ensures.same.joins ∙ c.take_all.ensures.same.joins) (c.detect_all.ensures.moment.turns ∙ c.take_all.ensures.moment.turns)
    c.take_all.ensures.taken c.detect_all.ensures.detected c.join_all.ensures.joined c.put_all.ensures.put

pub returns-in_err-taken-clause-unread : goal.returns-in_err-taken-clause-unread
returns-in_err-taken-clause-unread g c = let fault = err_from_is_err_and c.from_residual.result c.from_residual.ensures.1 in let told = ap faults_of fault.1 in let few = c.take_all.ensures.unread in let was = ap faults_of c.in_err-taken.was in omega arith

pub returns-in_err-detected-clause-unread : goal.returns-in_err-detected-clause-unread
returns-in_err-detected-clause-unread g c = let few = c.take_all.ensures.unread in let was = ap faults_of c.in_ok-taken.was in let still = c.detect_all.ensures.unread in omega arith

pub returns-in_err-joined-clause-unread : goal.returns-in_err-joined-clause-unread
returns-in_err-joined-clause-unread g c = let few = c.take_all.ensures.unread in let was = ap faults_of c.in_ok-taken.was in let still = c.join_all.ensures.unread ∙ c.detect_all.ensures.unread in omega arith

pub returns-in_err-put-clause-unread : goal.returns-in_err-put-clause-unread
returns-in_err-put-clause-unread g c = let few = c.take_all.ensures.unread in let was = ap faults_of c.in_ok-taken.was in let still = c.put_all.ensures.unread ∙ c.join_all.ensures.unread ∙ c.detect_all.ensures.unread in omega arith

pub returns-clause-unread : goal.returns-clause-unread
returns-clause-unread g c = let few = c.take_all.ensures.unread in let was = ap faults_of c.in_ok-taken.was in let still = c.put_all.ensures.unread ∙ c.join_all.ensures.unread ∙ c.detect_all.ensures.unread in omega arith
