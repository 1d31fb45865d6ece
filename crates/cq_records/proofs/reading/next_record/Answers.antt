-- A record is looked for, then the end of the log, and then a record once more.
use Rattle.cq_records.proofs.Steps.{reads_on}
use Rattle.cq_records.proofs.reading.next_record.Goals as goal

pub returns-in_err-found-2-clause-any_moment : goal.returns-in_err-found-2-clause-any_moment
returns-in_err-found-2-clause-any_moment g c =
    let d = g.D.Device in
    let now = g.met.D.Device.counts_now in
    let old = c.args.device.now in
    reads_on d.moment d.left_since d.may_leave now old c.ends_at.new.device c.read_record-2.new.device
    (reads_on d.moment d.left_since d.may_leave now old c.read_record.new.device c.ends_at.new.device c.read_record.ensures.any_moment c.ends_at.ensures.any_moment)
    c.read_record-2.ensures.any_moment

pub returns-in_err-found-2-clause-keeps : goal.returns-in_err-found-2-clause-keeps
returns-in_err-found-2-clause-keeps g c =
    g.met.D.Device.keeps_on _ _ _ (g.met.D.Device.keeps_on _ _ _ c.read_record.ensures.keeps c.ends_at.ensures.keeps) c.read_record-2.ensures.keeps

pub returns-in-Some-2-clause-any_moment : goal.returns-in-Some-2-clause-any_moment
returns-in-Some-2-clause-any_moment g c =
    let d = g.D.Device in
    let now = g.met.D.Device.counts_now in
    let old = c.args.device.now in
    reads_on d.moment d.left_since d.may_leave now old c.ends_at.new.device c.read_record-2.new.device
    (reads_on d.moment d.left_since d.may_leave now old c.read_record.new.device c.ends_at.new.device c.read_record.ensures.any_moment c.ends_at.ensures.any_moment)
    c.read_record-2.ensures.any_moment

pub returns-in-Some-2-clause-keeps : goal.returns-in-Some-2-clause-keeps
returns-in-Some-2-clause-keeps g c =
    g.met.D.Device.keeps_on _ _ _ (g.met.D.Device.keeps_on _ _ _ c.read_record.ensures.keeps c.ends_at.ensures.keeps) c.read_record-2.ensures.keeps

pub returns-in-None-clause-any_moment : goal.returns-in-None-clause-any_moment
returns-in-None-clause-any_moment g c =
    let d = g.D.Device in
    let now = g.met.D.Device.counts_now in
    let old = c.args.device.now in
    reads_on d.moment d.left_since d.may_leave now old c.ends_at.new.device c.read_record-2.new.device
    (reads_on d.moment d.left_since d.may_leave now old c.read_record.new.device c.ends_at.new.device c.read_record.ensures.any_moment c.ends_at.ensures.any_moment)
    c.read_record-2.ensures.any_moment

pub returns-in-None-clause-keeps : goal.returns-in-None-clause-keeps
returns-in-None-clause-keeps g c =
    g.met.D.Device.keeps_on _ _ _ (g.met.D.Device.keeps_on _ _ _ c.read_record.ensures.keeps c.ends_at.ensures.keeps) c.read_record-2.ensures.keeps
