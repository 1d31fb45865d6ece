use Rattle.cq_journal.proofs.Copies.{rests_self}
use Rattle.cq_kept_base.proofs.writer.make_room.Goals as goal

pub returns-then-not-is_full-clause-rests : goal.returns-then-not-is_full-clause-rests
returns-then-not-is_full-clause-rests g c = rests_self c.args.journal.now (λ f. g.met.D.Device.only_now c.args.journal.now.root.log.device.device f) c.requires.journal.regions
