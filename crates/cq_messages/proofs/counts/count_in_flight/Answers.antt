-- The small numbers beside the slots are those of messages in flight.
use Rattle.std.proofs.Common.{◌<◌, ◌∙◌, arith}
use Rattle.cq_messages.specs.declared.slot.TheConstants.{NEVER}
use Rattle.cq_messages.proofs.Flying.{flying-count}
use Rattle.cq_messages.proofs.counts.count_in_flight.Goals as goal

pub returns : goal.returns
returns c = let small : c.args.moment < NEVER = omega arith in rw (← c.get.ensures.value) c.count_at_most.ensures ∙ flying-count c.args.slots.now c.args.flight_ends.now c.args.moment c.requires small
