-- The next ask is made.
use Rattle.std.proofs.Common.{refl, length}
use Rattle.std.proofs.lemmas.Option.{slice_get_read}
use Rattle.cq_nodes.proofs.ClientAsks.{along_asked, asked_due}
use Rattle.cq_nodes.proofs.client_moves.ask_next.Goals as goal

pub returns-in_ok-ask-in-Some-clause-along : goal.returns-in_ok-ask-in-Some-clause-along
returns-in_ok-ask-in-Some-clause-along c = λ id h.
    let asks = c.args.asks.now in
    let closed = c.args.closed.now in
    let at = c.in-Some.ensures.lookup in
    let told = c.in_ok-ask-in-Some.ensures.ok h.client h.stands in
    along_asked id asks c.args.core.now c.ask.new.self closed h c.in-Some.ask.now (slice_get_read asks (length asks) (length closed) c.in-Some.ask.now refl at.3.0 at.1) told.0 told.2

pub returns-in_ok-ask-in-Some-clause-asked : goal.returns-in_ok-ask-in-Some-clause-asked
returns-in_ok-ask-in-Some-clause-asked c = λ id h.
    let asks = c.args.asks.now in
    let closed = c.args.closed.now in
    let at = c.in-Some.ensures.lookup in
    let told = c.in_ok-ask-in-Some.ensures.ok h.client h.stands in
    asked_due id asks c.args.core.now c.ask.new.self closed h c.in-Some.ask.now (slice_get_read asks (length asks) (length closed) c.in-Some.ask.now refl at.3.0 at.1) told.0 _ told.1
