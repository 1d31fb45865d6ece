-- What was run is the session.
use Rattle.cq_script.proofs.Answered.{sessions_of, session_ended_prefix, session_headlines}
use Rattle.cq_script.proofs.sessions.session.Goals as goal

pub returns-clause-sessions : goal.returns-clause-sessions
returns-clause-sessions g c =
    let r = c.run_lines.ensures.runs in
    (r.0, r.1, r.2, r.3, sessions_of c.args.size _ r.0 _ r.1 r.4 r.5, λ failed. session_ended_prefix c.args.size r.0 r.1 (r.6 failed))

pub returns-clause-headline : goal.returns-clause-headline
returns-clause-headline g c = λ some.
    let r = c.run_lines.ensures.runs in
    (r.0, r.1, r.2, r.3, session_headlines c.args.size r.0 _ r.1 some r.5)
