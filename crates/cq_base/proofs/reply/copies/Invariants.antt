-- So far the copy holds the deliveries that the loop has passed.
use Rattle.std.proofs.Common.{◌≡◌, take}
use Rattle.cq_base.proofs.reply.copies.Given as goal

abbrev pub invariant-loop-delivery : goal.invariant-loop-delivery
invariant-loop-delivery l = l.copy.items ≡ take l.delivery-index l.deliveries
