-- The end at the place of that server is changed, and no other.
use Rattle.std.proofs.Common.{refl, length}
use Rattle.std.proofs.lemmas.Option.{slice_get_read}
use Rattle.cq_nodes.proofs.MasterMoving.{puts_for, passes_for, puts_stay, links_stay}
use Rattle.cq_nodes.proofs.master_moves.put_at.Goals as goal

pub returns-in-Some-clause-links : goal.returns-in-Some-clause-links
returns-in-Some-clause-links g c =
    let outs = c.args.outs.now.items in
    let item = c.in-Some.ensures.item in
    links_stay (λ out. out.end) g.P.PutEnd.link outs c.place_of.result c.in-Some.out.now c.put_one.new.out (slice_get_read outs (length outs) c.place_of.result c.in-Some.out.now refl item.3.0 item.1) c.put_one.ensures.link

pub returns-in-Some-clause-put : goal.returns-in-Some-clause-put
returns-in-Some-clause-put g c = λ sent put is.
    let outs = c.args.outs.now.items in
    let item = c.in-Some.ensures.item in
    puts_for g.P.PutEnd.list c.args.core.now c.put_one.new.core outs c.place_of.result c.in-Some.out.now c.put_one.new.out (slice_get_read outs (length outs) c.place_of.result c.in-Some.out.now refl item.3.0 item.1) c.args.to c.place_of.ensures sent
    (λ back here. c.put_one.ensures.put back here is) put

pub returns-in-Some-clause-idle : goal.returns-in-Some-clause-idle
returns-in-Some-clause-idle g c = λ is.
    let outs = c.args.outs.now.items in
    let item = c.in-Some.ensures.item in
    passes_for g.P.PutEnd.list c.args.core.now c.put_one.new.core outs c.place_of.result c.in-Some.out.now c.put_one.new.out (slice_get_read outs (length outs) c.place_of.result c.in-Some.out.now refl item.3.0 item.1) c.args.to c.place_of.ensures
    (λ back here. c.put_one.ensures.idle back here is)

pub returns-in-Some-clause-lists : goal.returns-in-Some-clause-lists
returns-in-Some-clause-lists g c = λ sent put is.
    let outs = c.args.outs.now.items in
    let item = c.in-Some.ensures.item in
    puts_stay g.P.PutEnd.list outs c.place_of.result c.in-Some.out.now c.put_one.new.out (slice_get_read outs (length outs) c.place_of.result c.in-Some.out.now refl item.3.0 item.1) sent (c.put_one.ensures.unchanged is) put
