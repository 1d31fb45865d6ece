-- One chunk was run.
use Rattle.std.proofs.Common.{ℕ, List, ◌++◌}
use Rattle.std.specs.Prelude.{Result, Ok, Err, OnOk}
use Rattle.cq_lines.specs.declared.fault.ScriptFault.{ScriptFault}
use Rattle.cq_script.specs.Lines.{session_grammar}
use Rattle.cq_script.specs.Resumed.{HasRun}
use Rattle.cq_script.specs.declared.resumed.ResumedSession.{ResumedSession}
use Rattle.cq_script.specs.within.Played.{Plays, session_limits}
use Rattle.cq_script.proofs.resumed.ResumedSession.restore.Goals as goal

if_played : (size : ℕ) (r : Result (Unit {0}) ScriptFault) (input output : List ℕ) (session : ResumedSession) → Plays session_grammar session_limits size r input session.lines session.sim output → OnOk r (HasRun size input session)
if_played size (Ok x) input output session plays = record { written = output; played = plays }
if_played size (Err f) input output session plays = tt

pub returns : goal.returns
returns c = λ size before ran.
    let more = c.run_chunk.ensures.plays session_limits size before ran.written ran.played in
    if_played size c.run_chunk.result (before ++ c.args.bytes.now) (ran.written ++ more.0) (record { alloc = c.args.self.now.alloc; parser = c.run_chunk.new.parser; lines = c.run_chunk.new.lines; sim = c.run_chunk.new.sim }) more.2
