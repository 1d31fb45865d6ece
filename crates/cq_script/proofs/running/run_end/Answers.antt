-- By whether the last line was read, and run.
use Rattle.std.proofs.Common.{◌≡◌, true, false, [], Err}
use Rattle.std.proofs.lemmas.Result.{err_from_is_err_and}
use Rattle.std.proofs.KnownBytes.{Appends-nil}
use Rattle.cq_events.specs.Worlds.{first_world}
use Rattle.cq_script.specs.Output.{text_from}
use Rattle.cq_lines.specs.Faults.{ends_by_memory}
use Rattle.cq_script.specs.Runs.{WritesPrefix}
use Rattle.cq_script.specs.within.Played.{after_lines}
use Rattle.cq_script.proofs.Played.{ends_unread, ends_prefix, ends_whole}
use Rattle.cq_script.proofs.running.run_end.Goals as goal

pub returns-then-ran_out-clause-runs : goal.returns-then-ran_out-clause-runs
returns-then-ran_out-clause-runs g c = λ limits size input written left end played.
    let out : ends_by_memory c.finish-read.result ≡ true = cc in
    let ends = ends_unread g.P.LineParser.grammar limits size c.finish-read.result input written left c.args.lines.now c.args.sim.now out played in
    ([], Appends-nil _, ends.0, ends.1)

pub returns-in_err-run_batch-clause-runs : goal.returns-in_err-run_batch-clause-runs
returns-in_err-run_batch-clause-runs g c = λ limits size input written left end played.
    let lasts : ends_by_memory c.finish-read.result ≡ false = cc in
    let first = after_lines (first_world size) played.lines in
    let took = c.in_err-run_batch.ensures.takes first played.stands in
    let part : WritesPrefix (Err c.in_err-run_batch.field-0.0) (text_from first c.finish-read.new.self.values) took.0 = rw c.values.ensures at took.2 in
    let ends = ends_prefix g.P.LineParser.grammar limits size c.finish-read.result c.in_err-run_batch.field-0.0 input written took.0 left c.args.lines.now c.finish-read.new.self c.args.sim.now end lasts c.finish-read.ensures played part in
    let fault = err_from_is_err_and c.from_residual.result c.from_residual.ensures.1 in
    rw (fault.1, fault.2) (took.0, took.1, ends.0, ends.1)

pub returns-in_err-run_batch-clause-not_read : goal.returns-in_err-run_batch-clause-not_read
returns-in_err-run_batch-clause-not_read g c =
    let fault = err_from_is_err_and c.from_residual.result c.from_residual.ensures.1 in
    rw (fault.1, fault.2) c.in_err-run_batch.ensures.not_read

pub returns-clause-runs : goal.returns-clause-runs
returns-clause-runs g c = λ limits size input written left end played.
    let lasts : ends_by_memory c.finish-read.result ≡ false = cc in
    let first = after_lines (first_world size) played.lines in
    let took = c.in_ok-run_batch.ensures.takes first played.stands in
    let all : took.0 ≡ text_from first c.finish-read.new.self.values = rw c.values.ensures at took.2 in
    let ends = ends_whole g.P.LineParser.grammar limits size c.finish-read.result input written took.0 left c.args.lines.now c.finish-read.new.self c.args.sim.now end lasts c.finish-read.ensures played all in
    (took.0, took.1, ends.0, ends.1)
