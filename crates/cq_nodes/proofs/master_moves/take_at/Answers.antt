-- The end at the place of that server is changed, and no other.
use Rattle.std.proofs.Common.{refl, length}
use Rattle.std.proofs.lemmas.Option.{slice_get_read}
use Rattle.cq_nodes.proofs.MasterMoving.{takes_of, takes_stay, links_stay}
use Rattle.cq_nodes.proofs.Places.{unread_set}
use Rattle.cq_nodes.specs.Turns.{faults_of}
use Rattle.cq_nodes.proofs.master_moves.take_at.Goals as goal

pub returns-in-Some-clause-links : goal.returns-in-Some-clause-links
returns-in-Some-clause-links g c =
    let ins = c.args.ins.now.items in
    let item = c.in-Some.ensures.item in
    links_stay (λ end. end.end) g.T.TakeEnd.link ins c.place_of.result c.in-Some.end.now c.take_one.new.end (slice_get_read ins (length ins) c.place_of.result c.in-Some.end.now refl item.3.0 item.1) c.take_one.ensures.link

pub returns-in-Some-clause-taken : goal.returns-in-Some-clause-taken
returns-in-Some-clause-taken g c = λ back seen taken is.
    let ins = c.args.ins.now.items in
    let item = c.in-Some.ensures.item in
    takes_of g.T.TakeEnd.list c.args.core.now c.take_one.new.core ins c.place_of.result c.in-Some.end.now c.take_one.new.end (slice_get_read ins (length ins) c.place_of.result c.in-Some.end.now refl item.3.0 item.1) seen c.args.from c.place_of.ensures back
    (λ told. c.take_one.ensures.taken back (seen c.place_of.result) told is) taken

pub returns-in-Some-clause-lists : goal.returns-in-Some-clause-lists
returns-in-Some-clause-lists g c = λ seen taken is.
    let ins = c.args.ins.now.items in
    let item = c.in-Some.ensures.item in
    takes_stay g.T.TakeEnd.list ins c.place_of.result c.in-Some.end.now c.take_one.new.end (slice_get_read ins (length ins) c.place_of.result c.in-Some.end.now refl item.3.0 item.1) seen
    (λ told. c.take_one.ensures.list (seen c.place_of.result) told is) taken

pub returns-in-Some-clause-unread : goal.returns-in-Some-clause-unread
returns-in-Some-clause-unread g c =
    let ins = c.args.ins.now.items in
    let item = c.in-Some.ensures.item in
    unread_set ins c.place_of.result c.in-Some.end.now c.take_one.new.end (faults_of c.take_one.result) (slice_get_read ins (length ins) c.place_of.result c.in-Some.end.now refl item.3.0 item.1) c.take_one.ensures.unread
