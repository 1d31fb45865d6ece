-- What was run behind the rest is the session's.
use Rattle.std.proofs.Common.{ℕ, List, ◌++◌, subst}
use Rattle.cq_script.specs.within.Played.{session_limits}
use Rattle.cq_script.specs.Sessions.{Sessions, SessionHeadlines}
use Rattle.cq_script.proofs.Answered.{sessions_of, session_headlines, written_of_ended}
use Rattle.cq_script.proofs.resumed.ResumedSession.go_on.Goals as goal

pub returns-clause-goes_on : goal.returns-clause-goes_on
returns-clause-goes_on g c = λ size before ran.
    let r = c.run_on.ensures.runs session_limits size before ran.written ran.played in
    let text = written_of_ended size before ran.written _ _ ran.played in
    let all = sessions_of size c.run_on.result (before ++ r.0) (g.R.Read.remaining c.run_on.new.reader) (ran.written ++ r.1) r.4 r.5 in
    (r.0, r.1, r.2, r.3, subst (λ (t : List ℕ). Sessions size c.run_on.result (before ++ r.0) (g.R.Read.remaining c.run_on.new.reader) (t ++ r.1)) text all)

pub returns-clause-headline : goal.returns-clause-headline
returns-clause-headline g c = λ size before ran some.
    let r = c.run_on.ensures.runs session_limits size before ran.written ran.played in
    let text = written_of_ended size before ran.written _ _ ran.played in
    let all = session_headlines size (before ++ r.0) (g.R.Read.remaining c.run_on.new.reader) (ran.written ++ r.1) some r.5 in
    (r.0, r.1, r.2, r.3, subst (λ (t : List ℕ). SessionHeadlines size (before ++ r.0) (g.R.Read.remaining c.run_on.new.reader) (t ++ r.1)) text all)
