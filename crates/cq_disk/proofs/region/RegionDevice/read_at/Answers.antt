use Rattle.std.proofs.Common.{◌≡◌, ◌+◌, ◌∙◌, length, take, drop, arith}
use Rattle.std.proofs.lemmas.Result.{on_ok_weaker}
use Rattle.cq_disk.specs.Region.{part}
use Rattle.cq_disk.proofs.Parts.{part_fits, part_range}
use Rattle.cq_disk.proofs.region.RegionDevice.read_at.Goals as goal

pub returns-clause-bytes : goal.returns-clause-bytes
returns-clause-bytes g c =
    let s = c.args.self.now in
    let seen = g.D.Device.seen s.device in
    let n = length c.args.bytes.now in
    let fits = part_fits s.start c.args.at s.len n seen s.within c.requires in
    let same : take n (drop (s.start + c.args.at) seen) ≡ take n (drop c.args.at (part s.start s.len seen)) = part_range seen s.start c.args.at n s.len fits (omega (arith, fits, s.within)) in
    on_ok_weaker c.read_at.result (λ bytes honest. bytes honest ∙ same) c.read_at.ensures.bytes
