-- There are not more accepted sends than answers.
use Rattle.std.proofs.Common.{ap, arith, length}
use Rattle.cq_live.proofs.Reporting.{sends_few}
use Rattle.cq_live.proofs.report.accepted_of.Goals as goal

pub overflow_add-result : goal.overflow_add-result
overflow_add-result c =
    let first = c.args.ended.now.first in
    let second = c.args.ended.now.second in
    let one = sends_few c.args.first.now c.deref.result.now in
    let two = sends_few c.args.second.now c.deref-2.result.now in
    let first_len = ap length c.deref.ensures.value in
    let second_len = ap length c.deref-2.ensures.value in
    omega (arith, one, two, first_len, second_len, first.ok.0, first.ok.1, second.ok.0, second.ok.1, first.small, second.small, c.sends_closed-of_first.ensures, c.sends_closed-of_second.ensures)
