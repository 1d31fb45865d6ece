-- Where they weren't taken as a whole, they were taken by their classes.
use Rattle.std.proofs.Common.{[], Bool, subst}
use Rattle.std.specs.Prelude.{if◌then◌else◌}
use Rattle.cq_kept_session.specs.Served.{Serves}
use Rattle.cq_kept_session.specs.Texts.{as_kept}
use Rattle.cq_kept_session.proofs.Pieces.{if_ok, serves_both}
use Rattle.cq_kept_session.proofs.Stopped.{if_err, stops_behind}
use Rattle.cq_kept_session.proofs.kept.KeptSession.take_lines.Goals as goal

pub returns-clause-serves : goal.returns-clause-serves
returns-clause-serves g c =
    let old = c.args.self.now in
    let mid = c.take_if_room.new.self in
    let a = g.W.KeptSink.taken c.args.writer.now in
    let b = g.W.KeptSink.taken c.take_if_room.new.writer in
    let lines = c.args.lines.now in
    if_ok c.take_by_class.result c.take_by_class.ensures.serves (λ rest.
    let none : Serves old mid a b [] = subst (λ (is : Bool). Serves old mid a b (if is then as_kept lines else [])) c.if-branch.false c.in_ok-take_if_room.ensures.serves in
    serves_both old mid c.take_by_class.new.self a b _ [] (as_kept lines) none rest)

pub returns-clause-stops : goal.returns-clause-stops
returns-clause-stops g c =
    let old = c.args.self.now in
    let mid = c.take_if_room.new.self in
    let a = g.W.KeptSink.taken c.args.writer.now in
    let b = g.W.KeptSink.taken c.take_if_room.new.writer in
    let lines = c.args.lines.now in
    if_err c.take_by_class.result c.take_by_class.ensures.stops (λ rest.
    let none : Serves old mid a b [] = subst (λ (is : Bool). Serves old mid a b (if is then as_kept lines else [])) c.if-branch.false c.in_ok-take_if_room.ensures.serves in
    stops_behind old mid c.take_by_class.new.self a b _ [] (as_kept lines) none rest)
