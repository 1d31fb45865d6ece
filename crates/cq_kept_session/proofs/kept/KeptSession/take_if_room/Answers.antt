-- The lines were taken, or nothing has changed.
use Rattle.std.proofs.Common.{◌≡◌, ◌++◌, ◌∙◌, ap, subst}
use Rattle.std.specs.Prelude.{Result, Err, OnOk}
use Rattle.cq_kept_session.specs.Kept.{told_text}
use Rattle.cq_kept_session.specs.Outcomes.{OnNotKept}
use Rattle.cq_kept_session.specs.Texts.{as_kept}
use Rattle.cq_kept_session.specs.declared.fault.TakeFault.{TakeFault}
use Rattle.cq_kept_session.specs.declared.fault.TakeFault.TheVariants.{NotKept}
use Rattle.cq_kept_session.proofs.Pieces.{serves_nothing, serves_took}
use Rattle.cq_kept_session.proofs.Stopped.{stops_took}
use Rattle.cq_kept_session.proofs.kept.KeptSession.take_if_room.Goals as goal

abbrev faulty : TakeFault → Result (Unit {0}) TakeFault
faulty f = Err f

pub returns-in-Ok-clause-serves : goal.returns-in-Ok-clause-serves
returns-in-Ok-clause-serves g c =
    let e = c.take.ensures in
    serves_took c.args.self.now c.take.new.self (g.W.KeptSink.taken c.args.writer.now) (g.W.KeptSink.taken c.take.new.writer) (as_kept c.args.chunk.now) e.size e.tries.honest
    c.in-Ok.ensures.stands
    (λ honest bytes stands. let w = c.in-Ok.ensures.told honest bytes stands in (w.0, w.1, w.3))

pub returns-in-Err-NotKept-Full-clause-serves : goal.returns-in-Err-NotKept-Full-clause-serves
returns-in-Err-NotKept-Full-clause-serves g c =
    let e = c.take.ensures in
    let k = c.in-Err-NotKept-Full in
    let same : c.take.new.writer ≡ c.args.writer.now = subst (λ f. OnNotKept (faulty f) (c.take.new.writer ≡ c.args.writer.now)) k.field-0-is k.ensures.not_told in
    serves_nothing c.args.self.now c.take.new.self (g.W.KeptSink.taken c.args.writer.now) (g.W.KeptSink.taken c.take.new.writer)
    (ap g.W.KeptSink.taken same) e.size (e.full (k.is ∙ ap faulty (k.field-0-is ∙ ap NotKept k.field-0-0-is))).1 e.tries.honest

pub returns-in-Err-clause-stops : goal.returns-in-Err-clause-stops
returns-in-Err-clause-stops g c =
    let old = c.args.self.now in
    let new = c.take.new.self in
    let chunk = as_kept c.args.chunk.now in
    let e = c.in-Err.ensures in
    stops_took (λ bytes output. OnOk (faulty c.in-Err.fault) (told_text new (bytes ++ chunk) ≡ told_text old bytes ++ output)) c.in-Err.fault old new (g.W.KeptSink.taken c.args.writer.now) (g.W.KeptSink.taken c.take.new.writer) chunk c.requires.kept c.take.ensures.tries.honest
    e.journal e.stands e.told e.not_told (λ same. ap g.W.KeptSink.taken same)
