-- The server that was begun ran.
use Rattle.std.proofs.Common.{inl, inr}
use Rattle.std.proofs.KnownBytes.{Appends-nil}
use Rattle.cq_kept_run.proofs.Stopping.{err_then, ok_then, on_err}
use Rattle.cq_kept_run.proofs.server.run_kept_server.Goals as goal

pub returns-clause-serves : goal.returns-clause-serves
returns-clause-serves g c = ok_then c.serve_frames.result c.serve_frames.ensures.serves (λ served. (c.in_ok-server.server, c.serve_frames.new.server, c.in_ok-server.ensures.begins, served))

pub returns-clause-stops : goal.returns-clause-stops
returns-clause-stops g c = err_then c.serve_frames.result c.serve_frames.ensures.stops (λ stopped. inr (c.in_ok-server.server, c.serve_frames.new.server, c.in_ok-server.ensures.begins, stopped))

pub returns-in_err-server-clause-stops : goal.returns-in_err-server-clause-stops
returns-in_err-server-clause-stops g c = on_err c.from_residual.result (inl (Appends-nil _))
