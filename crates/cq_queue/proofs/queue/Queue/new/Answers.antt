-- A new queue stands for no entries.
use Rattle.cq_queue.proofs.Stands.{stands-none}
use Rattle.cq_queue.proofs.queue.Queue.new.Goals as goal

pub returns-clause-stands : goal.returns-clause-stands
returns-clause-stands c = rw (c.new.ensures, c.new-2.ensures, c.zero.ensures) (stands-none c.args.incarnation (record { visibility = c.args.visibility; content = c.args.content }))
