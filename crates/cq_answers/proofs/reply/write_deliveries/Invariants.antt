-- So far the values of the deliveries that the loop has passed were sent.
use Rattle.std.proofs.Common.{map, take}
use Rattle.cq_answers.specs.Answers.{delivery_data}
use Rattle.cq_answers.specs.within.Parts.{SendsEach}
use Rattle.cq_answers.proofs.reply.write_deliveries.Given as goal

abbrev pub invariant-loop-delivery : goal.invariant-loop-delivery
invariant-loop-delivery g l = SendsEach (map delivery_data (take l.delivery-index l.deliveries)) (g.S.Serializer.written l.initial.out) (g.S.Serializer.written l.out)
