-- The end at the place is changed, and no other.
use Rattle.std.proofs.Common.{refl, length}
use Rattle.std.proofs.lemmas.Option.{slice_get_read}
use Rattle.cq_nodes.proofs.ClientEnds.{asked_set}
use Rattle.cq_nodes.proofs.Places.{links_set}
use Rattle.cq_nodes.proofs.client_moves.put_at.Goals as goal

pub returns-in-Some-clause-links : goal.returns-in-Some-clause-links
returns-in-Some-clause-links g c =
    let outs = c.args.outs.now.items in
    let item = c.in-Some.ensures.item in
    links_set _ outs c.args.place c.in-Some.out.now c.put_one.new.out (slice_get_read outs (length outs) c.args.place c.in-Some.out.now refl item.3.0 item.1) c.put_one.ensures.link

pub returns-in-Some-clause-asked : goal.returns-in-Some-clause-asked
returns-in-Some-clause-asked g c = λ id asks closed ask.
    let outs = c.args.outs.now.items in
    let item = c.in-Some.ensures.item in
    asked_set g.P.PutEnd.list id asks closed outs c.args.place c.in-Some.out.now c.put_one.new.out (slice_get_read outs (length outs) c.args.place c.in-Some.out.now refl item.3.0 item.1) (c.put_one.ensures.asked id asks closed ask)
