-- What was run is the script.
use Rattle.cq_script.proofs.Answered.{replays_of, script_headlines}
use Rattle.cq_script.proofs.run.replay.Goals as goal

pub returns-clause-replays : goal.returns-clause-replays
returns-clause-replays g c =
    let r = c.run_lines.ensures.runs in
    (r.0, r.1, r.2, r.3, replays_of c.args.size _ r.0 _ r.1 r.4, r.6)

pub returns-clause-headline : goal.returns-clause-headline
returns-clause-headline g c = λ some.
    let r = c.run_lines.ensures.runs in
    (r.0, r.1, r.2, r.3, script_headlines c.args.size r.0 _ r.1 some r.5)
