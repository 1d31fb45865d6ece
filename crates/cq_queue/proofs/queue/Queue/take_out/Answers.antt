-- The other messages stay.
use Rattle.cq_queue.proofs.Sounds.{sound-without}
use Rattle.cq_queue.proofs.queue.Queue.take_out.Goals as goal

pub invariant_of-self : goal.invariant_of-self
invariant_of-self c = rw c.take_out.ensures (sound-without _ _ _ _ _ _ _ c.self.invariant)
