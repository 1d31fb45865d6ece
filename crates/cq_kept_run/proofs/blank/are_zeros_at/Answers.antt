-- The bytes that were read.
use Rattle.std.proofs.Common.{◌∙◌, ap}
use Rattle.cq_disk.specs.Region.{part}
use Rattle.cq_records.specs.Frames.{are_zeros}
use Rattle.cq_kept_run.proofs.blank.are_zeros_at.Goals as goal

pub returns-clause-zeros : goal.returns-clause-zeros
returns-clause-zeros g c = λ honest. c.are_zeros.ensures ∙ ap are_zeros (c.in_ok-read_at.ensures.bytes honest) ∙ ap (λ n. are_zeros (part c.args.at n (g.D.Device.seen c.args.device.now))) c.requires.count
