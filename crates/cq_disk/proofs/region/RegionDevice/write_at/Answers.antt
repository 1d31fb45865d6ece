use Rattle.std.proofs.Common.{length}
use Rattle.std.proofs.lemmas.Result.{on_ok_weaker}
use Rattle.cq_disk.proofs.Parts.{part_follows, part_overlaid, part_torn, part_fits, write_keeps}
use Rattle.cq_disk.proofs.region.RegionDevice.write_at.Goals as goal

pub returns-clause-written : goal.returns-clause-written
returns-clause-written g c =
    let s = c.args.self.now in
    let fits = part_fits s.start c.args.at s.len (length c.args.bytes.now) (g.D.Device.seen s.device) s.within c.requires in
    on_ok_weaker c.write_at.result (λ written. part_overlaid s.start c.args.at s.len c.args.bytes.now (g.D.Device.seen s.device) (g.D.Device.seen c.write_at.new.self) fits s.within written) c.write_at.ensures.written

pub returns-clause-crash : goal.returns-clause-crash
returns-clause-crash g c =
    let s = c.args.self.now in
    part_follows (g.D.Device.torn s.device) s.start c.args.at s.len c.args.bytes.now (g.D.Device.may_leave s.device) (g.D.Device.may_leave c.write_at.new.self)
    (part_fits s.start c.args.at s.len (length c.args.bytes.now) (g.D.Device.seen s.device) s.within c.requires) c.write_at.ensures.crash

pub returns-clause-keeps : goal.returns-clause-keeps
returns-clause-keeps g c =
    let s = c.args.self.now in
    write_keeps g.D.Device.moment g.D.Device.left_since g.D.Device.may_leave g.D.Device.keeps g.D.Device.seen g.met.D.Device.only_now (g.D.Device.torn s.device) s.start c.args.at s.len c.args.bytes.now s.device c.write_at.new.self
    (part_fits s.start c.args.at s.len (length c.args.bytes.now) (g.D.Device.seen s.device) s.within c.requires) c.write_at.ensures.crash c.write_at.ensures.time c.write_at.ensures.keeps c.write_at.ensures.range

pub returns-clause-range : goal.returns-clause-range
returns-clause-range g c =
    let s = c.args.self.now in
    part_torn (g.D.Device.torn s.device) s.start c.args.at s.len c.args.bytes.now (g.D.Device.seen s.device) (g.D.Device.seen c.write_at.new.self)
    (part_fits s.start c.args.at s.len (length c.args.bytes.now) (g.D.Device.seen s.device) s.within c.requires) c.write_at.ensures.range
