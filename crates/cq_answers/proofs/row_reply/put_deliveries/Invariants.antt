-- So far the deliveries that the loop has passed were written: with the text of the others it is the text of them all.
use Rattle.std.proofs.Common.{◌≡◌, ◌++◌, false, map, drop}
use Rattle.serde_json.specs.View.{items_of}
use Rattle.serde_json.specs.Written.{items_text}
use Rattle.cq_answers.specs.Answers.{delivery_data}
use Rattle.cq_answers.proofs.row_reply.put_deliveries.Given as goal

abbrev pub invariant-loop-delivery : goal.invariant-loop-delivery
invariant-loop-delivery l =
    (l.row.before ≡ l.initial.row.before)
    × (l.row.told ++ items_text l.later (items_of (map delivery_data (drop l.delivery-index l.deliveries)))
    ≡ l.initial.row.told ++ items_text false (items_of (map delivery_data l.deliveries)))
