-- Of what is known one part changes.
use Rattle.std.proofs.Common.{refl, true}
use Rattle.cq_master_process.specs.declared.link.Link.{Link}
use Rattle.cq_master_process.specs.Links.{put_in, taken_in}
use Rattle.cq_master_process.proofs.Counting.{gone-too, part-same}
use Rattle.cq_master_process.proofs.links.Links.note_gone.Goals as goal

pub returns-clause-taken : goal.returns-clause-taken
returns-clause-taken c = let link : Link = record { taken = c.link-link.result.taken; put = c.link-link.result.put; is_gone = true } in λ i other. part-same taken_in c.args.self.now c.set.new.self c.args.id link c.set.ensures.writes c.link-link.ensures.taken other i

pub returns-clause-put : goal.returns-clause-put
returns-clause-put c = let link : Link = record { taken = c.link-link.result.taken; put = c.link-link.result.put; is_gone = true } in λ i other. part-same put_in c.args.self.now c.set.new.self c.args.id link c.set.ensures.writes c.link-link.ensures.put other i

pub returns-clause-gone : goal.returns-clause-gone
returns-clause-gone c = let link : Link = record { taken = c.link-link.result.taken; put = c.link-link.result.put; is_gone = true } in λ i other. gone-too c.args.self.now c.set.new.self c.args.id link c.set.ensures.writes refl other i
