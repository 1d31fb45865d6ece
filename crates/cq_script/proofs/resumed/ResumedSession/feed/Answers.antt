-- One chunk was run.
use Rattle.std.proofs.Common.{◌≡◌, ℕ, List, ◌++◌, sym, subst}
use Rattle.std.specs.Prelude.{Result, Ok, Err, OnOk}
use Rattle.cq_lines.specs.Lines.{ended_part}
use Rattle.cq_lines.specs.Progress.{Progress}
use Rattle.cq_lines.specs.declared.fault.ScriptFault.{ScriptFault}
use Rattle.cq_world.specs.declared.sim.Sim.{Sim}
use Rattle.cq_script.specs.Lines.{session_grammar}
use Rattle.cq_script.specs.Resumed.{HasRun}
use Rattle.cq_script.specs.Sessions.{IsSessionEndedPrefix, session_text}
use Rattle.cq_script.specs.declared.resumed.ResumedSession.{ResumedSession}
use Rattle.cq_script.specs.declared.script_line.ScriptLine.{ScriptLine}
use Rattle.cq_script.specs.within.Played.{Plays, session_limits}
use Rattle.cq_script.proofs.Answered.{session_ended_prefix, written_of_ended}
use Rattle.cq_script.proofs.Played.{prefix_of_all}
use Rattle.cq_script.proofs.resumed.ResumedSession.feed.Goals as goal

if_played : (size : ℕ) (r : Result (Unit {0}) ScriptFault) (input output : List ℕ) (session : ResumedSession) → Plays session_grammar session_limits size r input session.lines session.sim output → OnOk r (HasRun size input session)
if_played size (Ok x) input output session plays = record { written = output; played = plays }
if_played size (Err f) input output session plays = tt

-- all that was written so far is a prefix of the text, or all of it
so_far : (size : ℕ) (r : Result (Unit {0}) ScriptFault) (input output : List ℕ) (progress : Progress ScriptLine) (sim : Sim) → Plays session_grammar session_limits size r input progress sim output
    → IsSessionEndedPrefix size input output × OnOk r (session_text size (ended_part input) ≡ output)
so_far size (Ok x) input output progress sim plays =
    let all = written_of_ended size input output progress sim plays in
    (prefix_of_all (session_text size (ended_part input)) output all, sym all)
so_far size (Err f) input output progress sim plays = (session_ended_prefix size input output plays.ended, tt)

pub returns-clause-runs : goal.returns-clause-runs
returns-clause-runs g c = λ size before ran.
    let more = c.run_chunk.ensures.plays session_limits size before ran.written ran.played in
    if_played size c.run_chunk.result (before ++ c.args.chunk.now) (ran.written ++ more.0) (record { alloc = c.args.self.now.alloc; parser = c.run_chunk.new.parser; lines = c.run_chunk.new.lines; sim = c.run_chunk.new.sim }) more.2

pub returns-clause-writes : goal.returns-clause-writes
returns-clause-writes g c = λ size before ran.
    let more = c.run_chunk.ensures.plays session_limits size before ran.written ran.played in
    let text = written_of_ended size before ran.written _ _ ran.played in
    let input = before ++ c.args.chunk.now in
    let all = so_far size c.run_chunk.result input (ran.written ++ more.0) c.run_chunk.new.lines c.run_chunk.new.sim more.2 in (
      more.0,
      more.1,
      subst (λ (t : List ℕ). IsSessionEndedPrefix size input (t ++ more.0)) text all.0,
      subst (λ (t : List ℕ). OnOk c.run_chunk.result (session_text size (ended_part input) ≡ t ++ more.0)) text all.1,
    )
