-- Where nothing was taken, the line is refused.
use Rattle.std.proofs.Common.{[], Bool, subst}
use Rattle.std.specs.Prelude.{if◌then◌else◌}
use Rattle.cq_kept_session.specs.Served.{Serves}
use Rattle.cq_kept_session.specs.Texts.{as_kept}
use Rattle.cq_kept_session.proofs.Pieces.{serves_both, serves_refused}
use Rattle.cq_kept_session.proofs.Stopped.{on_err, stops_behind, stops_none, stops_refusing}
use Rattle.cq_kept_session.proofs.kept.KeptSession.take_or_refuse.Goals as goal

pub returns-clause-serves : goal.returns-clause-serves
returns-clause-serves g c =
    let old = c.args.self.now in
    let new = c.take_if_room.new.self in
    let a = g.W.KeptSink.taken c.args.writer.now in
    let b = g.W.KeptSink.taken c.take_if_room.new.writer in
    let whole = c.args.whole.now in
    let told = c.in_ok-refuse.ensures.told in
    let none : Serves old new a b [] = subst (λ (is : Bool). Serves old new a b (if is then as_kept whole else [])) c.if-branch.false c.in_ok-take_if_room.ensures.serves in
    serves_both old new new a b (g.W.KeptSink.taken c.refuse.new.self) [] (as_kept whole) none (serves_refused new b _ told.0 (as_kept whole) told.1)

pub returns-in_err-class-clause-stops : goal.returns-in_err-class-clause-stops
returns-in_err-class-clause-stops g c = on_err c.from_residual.result (stops_none c.args.self.now (g.W.KeptSink.taken c.args.writer.now) (as_kept c.args.whole.now) c.requires.kept)

pub returns-in_err-refuse-clause-stops : goal.returns-in_err-refuse-clause-stops
returns-in_err-refuse-clause-stops g c =
    let old = c.args.self.now in
    let new = c.take_if_room.new.self in
    let a = g.W.KeptSink.taken c.args.writer.now in
    let b = g.W.KeptSink.taken c.take_if_room.new.writer in
    let whole = c.args.whole.now in
    let none : Serves old new a b [] = subst (λ (is : Bool). Serves old new a b (if is then as_kept whole else [])) c.if-branch.false c.in_ok-take_if_room.ensures.serves in
    on_err c.from_residual-in_err-refuse.result (stops_behind old new new a b (g.W.KeptSink.taken c.refuse.new.self) [] (as_kept whole) none (stops_refusing new b _ (as_kept whole) c.in_ok-take_if_room.ensures.kept c.in_err-refuse.ensures.stops))
