-- By the kind of the event.
use Rattle.cq_events.specs.declared.event.Event.TheVariants.{Arrive, Ask, Take, Crash, Detect, Join}
use Rattle.cq_world.proofs.OfSim.Refused.{given-arrive, given-ask, given-take, given-crash, given-detect, given-join, silent-same}
use Rattle.cq_world.proofs.sim.Sim.step.Goals as goal

pub returns-in_ok-arrive-in-Arrive-clause-ok : goal.returns-in_ok-arrive-in-Arrive-clause-ok
returns-in_ok-arrive-in-Arrive-clause-ok c = λ w h.
    let done = c.in_ok-arrive-in-Arrive.ensures.ok w h in
    silent-same c.arrive.new.self w c.args.event.now (Arrive c.in-Arrive.at c.in-Arrive.clock c.in-Arrive.request) c.in-Arrive.is (done.0, given-arrive w c.in-Arrive.at c.in-Arrive.clock c.in-Arrive.request, done.1)

pub returns-in_ok-ask-in-Ask-clause-ok : goal.returns-in_ok-ask-in-Ask-clause-ok
returns-in_ok-ask-in-Ask-clause-ok c = λ w h.
    let done = c.in_ok-ask-in-Ask.ensures.ok w h in
    silent-same c.ask.new.self w c.args.event.now (Ask c.in-Ask.at c.in-Ask.query) c.in-Ask.is (done.0, given-ask w c.in-Ask.at c.in-Ask.query, done.1)

pub returns-in_ok-take-in-Take-clause-ok : goal.returns-in_ok-take-in-Take-clause-ok
returns-in_ok-take-in-Take-clause-ok c = λ w h.
    let done = c.in_ok-take-in-Take.ensures.ok w h in
    silent-same c.take.new.self w c.args.event.now (Take c.in-Take.from c.in-Take.to) c.in-Take.is (done.0, given-take w c.in-Take.from c.in-Take.to, done.1)

pub returns-in_ok-crash-in-Crash-clause-ok : goal.returns-in_ok-crash-in-Crash-clause-ok
returns-in_ok-crash-in-Crash-clause-ok c = λ w h.
    let done = c.in_ok-crash-in-Crash.ensures.ok w h in
    silent-same c.crash.new.self w c.args.event.now (Crash c.in-Crash.server) c.in-Crash.is (done.0, given-crash w c.in-Crash.server, done.1)

pub returns-in_ok-detect-in-Detect-clause-ok : goal.returns-in_ok-detect-in-Detect-clause-ok
returns-in_ok-detect-in-Detect-clause-ok c = λ w h.
    let done = c.in_ok-detect-in-Detect.ensures.ok w h in
    silent-same c.detect.new.self w c.args.event.now (Detect c.in-Detect.server) c.in-Detect.is (done.0, given-detect w c.in-Detect.server, done.1)

pub returns-in_ok-join-in-Join-clause-ok : goal.returns-in_ok-join-in-Join-clause-ok
returns-in_ok-join-in-Join-clause-ok c = λ w h.
    let done = c.in_ok-join-in-Join.ensures.ok w h in
    silent-same c.join.new.self w c.args.event.now (Join c.in-Join.server) c.in-Join.is (done.0, given-join w c.in-Join.server, done.1)
