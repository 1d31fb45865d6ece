-- Of what is known one part changes.
use Rattle.std.proofs.Common.{◌+◌, ap}
use Rattle.cq_master_process.specs.declared.link.Link.{Link}
use Rattle.cq_master_process.specs.Links.{gone_in, put_in, taken_in}
use Rattle.cq_master_process.proofs.Counting.{part-counts, part-same}
use Rattle.cq_master_process.proofs.links.Links.count_taken.Goals as goal

pub returns-clause-taken : goal.returns-clause-taken
returns-clause-taken c = let link : Link = record { taken = c.link-link.result.taken + 1; put = c.link-link.result.put; is_gone = c.link-link.result.is_gone } in λ i other. part-counts taken_in c.args.self.now c.set.new.self c.args.id link c.set.ensures.writes (ap (λ n. n + 1) c.link-link.ensures.taken) other i

pub returns-clause-put : goal.returns-clause-put
returns-clause-put c = let link : Link = record { taken = c.link-link.result.taken + 1; put = c.link-link.result.put; is_gone = c.link-link.result.is_gone } in λ i other. part-same put_in c.args.self.now c.set.new.self c.args.id link c.set.ensures.writes c.link-link.ensures.put other i

pub returns-clause-gone : goal.returns-clause-gone
returns-clause-gone c = let link : Link = record { taken = c.link-link.result.taken + 1; put = c.link-link.result.put; is_gone = c.link-link.result.is_gone } in λ i other. part-same gone_in c.args.self.now c.set.new.self c.args.id link c.set.ensures.writes c.link-link.ensures.gone other i
