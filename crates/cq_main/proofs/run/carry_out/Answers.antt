-- Each invocation is carried out by its own function.
use Rattle.std.proofs.Common.{subst}
use Rattle.cq_main.specs.Invocations.{IsSound}
use Rattle.cq_main.proofs.run.carry_out.Goals as goal

pub returns-in-Replay : goal.returns-in-Replay
returns-in-Replay g c = rw c.in-Replay.is c.run_script.ensures

pub returns-in-Session : goal.returns-in-Session
returns-in-Session g c = rw c.in-Session.is c.run_session.ensures

pub returns-in-Live : goal.returns-in-Live
returns-in-Live g c = rw c.in-Live.is c.run_live.ensures

pub returns-in-Kept : goal.returns-in-Kept
returns-in-Kept g c = rw c.in-Kept.is c.run_journal.ensures

pub returns-in-Verify : goal.returns-in-Verify
returns-in-Verify g c = rw c.in-Verify.is c.run_verify.ensures

pub returns-in-Copy : goal.returns-in-Copy
returns-in-Copy g c = rw c.in-Copy.is c.run_copy.ensures

pub returns-in-Dump : goal.returns-in-Dump
returns-in-Dump g c = rw c.in-Dump.is c.run_dump.ensures

pub returns-in-First : goal.returns-in-First
returns-in-First g c = rw c.in-First.is c.run_first.ensures

pub returns-in-Joining : goal.returns-in-Joining
returns-in-Joining g c = rw c.in-Joining.is c.run_joining.ensures

pub returns-in-Master : goal.returns-in-Master
returns-in-Master g c = rw c.in-Master.is c.run_master.ensures

pub run_first-requires : goal.run_first-requires
run_first-requires g c = subst (λ it. IsSound it) c.in-First.is c.requires.sound

pub returns-in-Loaded : goal.returns-in-Loaded
returns-in-Loaded g c = rw c.in-Loaded.is c.run_loaded.ensures

pub returns-in-Explain : goal.returns-in-Explain
returns-in-Explain g c = rw c.in-Explain.is c.run_explain.ensures

pub returns-in-Watch : goal.returns-in-Watch
returns-in-Watch g c = rw c.in-Watch.is c.run_watch.ensures

pub returns-in-KeptServer : goal.returns-in-KeptServer
returns-in-KeptServer g c = rw c.in-KeptServer.is c.run_server.ensures
