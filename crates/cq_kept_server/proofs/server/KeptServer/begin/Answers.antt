-- The only server of a chain, at rest.
use Rattle.std.proofs.Common.{sym, subst}
use Rattle.cq_chain.specs.Servers.{alone}
use Rattle.cq_server_process.specs.Answers.{IsNewProcess}
use Rattle.cq_server_process.specs.Processes.{process_of}
use Rattle.cq_kept_server.proofs.server.KeptServer.begin.Goals as goal

pub returns-clause-new : goal.returns-clause-new
returns-clause-new g c = λ all stands. record {
  new = subst (λ p. IsNewProcess (alone all) (process_of p)) (sym c.new-process.ensures.process) (c.alone.ensures all stands);
  copy = c.new-process.ensures.copy;
  ended = c.new-streams.ensures;
}
