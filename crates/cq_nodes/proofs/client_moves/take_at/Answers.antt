-- The end at the place is changed, and no other.
use Rattle.std.proofs.Common.{refl, length}
use Rattle.std.proofs.lemmas.Option.{slice_get_read, IfSome_then}
use Rattle.cq_nodes.proofs.ClientEnds.{grew_set, grew_nowhere, taken_last, taken_more, taken_here, taken_set}
use Rattle.cq_nodes.proofs.Places.{links_set}
use Rattle.cq_nodes.proofs.client_moves.take_at.Goals as goal

pub returns-in-Some-clause-links : goal.returns-in-Some-clause-links
returns-in-Some-clause-links g c =
    let ins = c.args.ins.now.items in
    let item = c.in-Some.ensures.item in
    links_set _ ins c.args.place c.in-Some.end.now c.take_one.new.end (slice_get_read ins (length ins) c.args.place c.in-Some.end.now refl item.3.0 item.1) c.take_one.ensures.link

pub returns-in-Some-clause-taken : goal.returns-in-Some-clause-taken
returns-in-Some-clause-taken g c =
    let ins = c.args.ins.now.items in
    let item = c.in-Some.ensures.item in
    let list = g.T.TakeEnd.list in
    IfSome_then c.take_one.result (taken_last c.take_one.result (list c.in-Some.end.now) (list c.take_one.new.end) c.take_one.ensures.taken)
    (λ message among. taken_here list ins c.args.place c.in-Some.end.now c.take_one.new.end (slice_get_read ins (length ins) c.args.place c.in-Some.end.now refl item.3.0 item.1) message among)

pub returns-in-Some-clause-kept : goal.returns-in-Some-clause-kept
returns-in-Some-clause-kept g c = λ message.
    let ins = c.args.ins.now.items in
    let item = c.in-Some.ensures.item in
    let list = g.T.TakeEnd.list in
    taken_set list ins c.args.place c.in-Some.end.now c.take_one.new.end (slice_get_read ins (length ins) c.args.place c.in-Some.end.now refl item.3.0 item.1) message
    (taken_more c.take_one.result (list c.in-Some.end.now) (list c.take_one.new.end) c.take_one.ensures.taken message)

pub returns-in-Some-clause-grew : goal.returns-in-Some-clause-grew
returns-in-Some-clause-grew g c =
    let ins = c.args.ins.now.items in
    let item = c.in-Some.ensures.item in
    grew_set g.T.TakeEnd.list ins c.args.place c.in-Some.end.now c.take_one.new.end (slice_get_read ins (length ins) c.args.place c.in-Some.end.now refl item.3.0 item.1) c.take_one.result c.take_one.ensures.taken

pub returns-in-None-clause-grew : goal.returns-in-None-clause-grew
returns-in-None-clause-grew g c = grew_nowhere g.T.TakeEnd.list c.args.ins.now.items c.args.place
