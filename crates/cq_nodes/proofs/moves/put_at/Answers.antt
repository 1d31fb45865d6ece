-- The end at the place is changed, and no other.
use Rattle.std.proofs.Common.{refl, length}
use Rattle.std.proofs.lemmas.Option.{slice_get_read}
use Rattle.cq_nodes.proofs.Places.{puts_at, passes_at, puts_kept, ends_set}
use Rattle.cq_nodes.proofs.moves.put_at.Goals as goal

pub returns-in-Some-clause-links : goal.returns-in-Some-clause-links
returns-in-Some-clause-links g c =
    let outs = c.args.outs.now.items in
    let item = c.in-Some.ensures.item in
    ends_set (λ out. out.end) _ outs c.args.place c.in-Some.out.now c.put_one.new.out (slice_get_read outs (length outs) c.args.place c.in-Some.out.now refl item.3.0 item.1) c.put_one.ensures.link

pub returns-in-Some-clause-put : goal.returns-in-Some-clause-put
returns-in-Some-clause-put g c = λ kept sent put is.
    let outs = c.args.outs.now.items in
    let item = c.in-Some.ensures.item in
    puts_at g.P.PutEnd.list c.args.core.now c.put_one.new.core outs c.args.place c.in-Some.out.now c.put_one.new.out (slice_get_read outs (length outs) c.args.place c.in-Some.out.now refl item.3.0 item.1) c.party_at.result c.party_at.ensures kept sent
    (λ back here. c.put_one.ensures.put back here is) put

pub returns-in-Some-clause-idle : goal.returns-in-Some-clause-idle
returns-in-Some-clause-idle g c = λ kept is.
    let outs = c.args.outs.now.items in
    let item = c.in-Some.ensures.item in
    passes_at g.P.PutEnd.list c.args.core.now c.put_one.new.core outs c.args.place c.in-Some.out.now c.put_one.new.out (slice_get_read outs (length outs) c.args.place c.in-Some.out.now refl item.3.0 item.1) c.party_at.result c.party_at.ensures kept
    (λ back here. c.put_one.ensures.idle back here is)

pub returns-in-Some-clause-lists : goal.returns-in-Some-clause-lists
returns-in-Some-clause-lists g c = λ sent put is.
    let outs = c.args.outs.now.items in
    let item = c.in-Some.ensures.item in
    puts_kept g.P.PutEnd.list c.args.core.now c.put_one.new.core outs c.args.place c.in-Some.out.now c.put_one.new.out (slice_get_read outs (length outs) c.args.place c.in-Some.out.now refl item.3.0 item.1) c.party_at.result c.party_at.ensures sent (c.put_one.ensures.unchanged is) put
