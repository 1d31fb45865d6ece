-- Nothing was run before.
use Rattle.std.proofs.lemmas.Result.{err_from_is_err_and}
use Rattle.std.proofs.Common.{[]}
use Rattle.std.proofs.KnownBytes.{Consumes-nil, Appends-nil}
use Rattle.cq_script.proofs.Played.{nothing_played, nothing_run}
use Rattle.cq_script.proofs.running.run_lines.Goals as goal

pub returns-in_err-sim-clause-runs : goal.returns-in_err-sim-clause-runs
returns-in_err-sim-clause-runs g c =
    let none = nothing_run g.P.LineParser.grammar c.args.limits c.args.size _ in
    let fault = err_from_is_err_and c.from_residual.result c.from_residual.ensures.1 in
    rw (fault.1, fault.2) ([], [], Consumes-nil _, Appends-nil _, none.0, none.1, λ failed. none.2)

pub returns-clause-runs : goal.returns-clause-runs
returns-clause-runs g c =
    c.run_on.ensures.runs c.args.limits c.args.size [] [] (rw c.new-lines.ensures (nothing_played g.P.LineParser.grammar c.args.limits c.args.size _ c.in_ok-sim.ensures))
