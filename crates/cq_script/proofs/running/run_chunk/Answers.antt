-- By whether the chunk was read, and its lines were run.
use Rattle.std.proofs.Common.{◌≡◌, true, false, [], Err}
use Rattle.std.proofs.lemmas.Result.{err_from_is_err_and}
use Rattle.std.proofs.KnownBytes.{Appends-nil}
use Rattle.cq_events.specs.Worlds.{first_world}
use Rattle.cq_script.specs.Output.{text_from}
use Rattle.cq_lines.specs.Faults.{ends_by_memory}
use Rattle.cq_script.specs.Runs.{WritesPrefix}
use Rattle.cq_script.specs.within.Played.{after_lines}
use Rattle.cq_script.proofs.Played.{plays_none, plays_prefix, plays_chunk}
use Rattle.cq_script.proofs.running.run_chunk.Goals as goal

pub returns-then-ran_out-clause-plays : goal.returns-then-ran_out-clause-plays
returns-then-ran_out-clause-plays g c = λ limits size input written played.
    let out : ends_by_memory c.feed-read.result ≡ true = cc in
    ([], Appends-nil _, plays_none g.P.LineParser.grammar limits size c.feed-read.result input c.args.chunk.now written c.args.lines.now c.feed-read.new.self c.args.sim.now c.args.sim.now out played)

pub returns-in_err-run_batch-clause-plays : goal.returns-in_err-run_batch-clause-plays
returns-in_err-run_batch-clause-plays g c = λ limits size input written played.
    let lasts : ends_by_memory c.feed-read.result ≡ false = cc in
    let first = after_lines (first_world size) played.lines in
    let took = c.in_err-run_batch.ensures.takes first played.stands in
    let part : WritesPrefix (Err c.in_err-run_batch.field-0.0) (text_from first c.feed-read.new.self.values) took.0 = rw c.values.ensures at took.2 in
    let fault = err_from_is_err_and c.from_residual.result c.from_residual.ensures.1 in
    rw (fault.1, fault.2) (
      took.0,
      took.1,
      plays_prefix g.P.LineParser.grammar limits size c.feed-read.result c.in_err-run_batch.field-0.0 input c.args.chunk.now written took.0 c.args.lines.now c.feed-read.new.self c.args.sim.now lasts c.feed-read.ensures played part,
    )

pub returns-in_err-run_batch-clause-not_read : goal.returns-in_err-run_batch-clause-not_read
returns-in_err-run_batch-clause-not_read g c =
    let fault = err_from_is_err_and c.from_residual.result c.from_residual.ensures.1 in
    rw (fault.1, fault.2) c.in_err-run_batch.ensures.not_read

pub returns-clause-plays : goal.returns-clause-plays
returns-clause-plays g c = λ limits size input written played.
    let lasts : ends_by_memory c.feed-read.result ≡ false = cc in
    let first = after_lines (first_world size) played.lines in
    let took = c.in_ok-run_batch.ensures.takes first played.stands in
    let all : took.0 ≡ text_from first c.feed-read.new.self.values = rw c.values.ensures at took.2 in
    let stands = rw c.values.ensures at (c.in_ok-run_batch.ensures.runs first played.stands) in
    rw c.clear_values.ensures (
      took.0,
      took.1,
      plays_chunk g.P.LineParser.grammar limits size c.feed-read.result input c.args.chunk.now written took.0 c.args.lines.now c.feed-read.new.self c.args.sim.now c.run_batch.new.sim lasts c.feed-read.ensures played all stands,
    )
