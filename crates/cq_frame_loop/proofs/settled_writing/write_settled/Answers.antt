-- One text behind the other.
use Rattle.std.proofs.Common.{[], ◌++◌, refl}
use Rattle.std.proofs.KnownBytes.{Appends-trans}
use Rattle.cq_frame_loop.proofs.Passing.{both_passed, prefix_more}
use Rattle.cq_frame_loop.proofs.Waiting.{answered_end, answered_front}
use Rattle.cq_frame_loop.proofs.settled_writing.write_settled.Goals as goal

pub returns-in-Ok-clause-takes : goal.returns-in-Ok-clause-takes
returns-in-Ok-clause-takes g c =
    let first = c.in-Ok.ensures.takes in
    let second = c.tell-in-Ok.ensures.takes in
    (first.0 ++ second.0, Appends-trans _ _ _ first.0 second.0 first.1 second.1, both_passed c.tell-in-Ok.result c.args.out.now.items c.args.end.now.items first.0 second.0 [] first.2 refl second.2)

pub returns-in-Err-clause-takes : goal.returns-in-Err-clause-takes
returns-in-Err-clause-takes g c =
    let took = c.in-Err.ensures.takes in
    (took.0, took.1, (took.2.0, prefix_more c.args.out.now.items c.args.end.now.items took.0 took.2.1))

pub tell-requires-clause-answered : goal.tell-requires-clause-answered
tell-requires-clause-answered g c = answered_front g.H.SettlingHandler.answers c.args.handler.now c.args.out.now.items c.args.end.now.items c.requires.waits

pub tell-requires-in-Ok-clause-answered : goal.tell-requires-in-Ok-clause-answered
tell-requires-in-Ok-clause-answered g c = answered_end g.H.SettlingHandler.answers c.args.handler.now c.args.out.now.items c.args.end.now.items c.requires.waits
