-- A run of the nodes of a chain, from their making to what is known once all is settled.
use Rattle.std.proofs.Common.{ℕ, List, Bool}
use Rattle.cq_live.specs.declared.apart.Apart.{Apart}
use Rattle.cq_live.proofs.Leaving.{still_crossed, still_tied, has_ended}
use Rattle.cq_live.proofs.Staying.{still_chain}
use Rattle.cq_live.specs.declared.nodes.LiveNodes.{LiveNodes}
use Rattle.cq_live.specs.declared.settle.Ended.{Ended}
use Rattle.cq_live.specs.within.Chains.{IsChain}
use Rattle.cq_live.specs.within.Runs.{WasRun, IsSettled, HasEnded}
use Rattle.cq_live_plan.specs.declared.step.LiveStep.{LiveStep}
use Rattle.cq_link.specs.Clients.{AreTied}
use Rattle.cq_link.specs.Wirings.{AreCrossed, wiring}

module _ (count size : ℕ) (steps : List LiveStep) (live : LiveNodes) (apart : Apart) (chain : IsChain count size steps live.own live.nodes.master live.nodes.servers.items live.nodes.first live.nodes.second) (short : Bool) (run : WasRun live apart short) where
  after_run : IsChain count size steps live.own run.master run.servers run.first run.second
  after_run = still_chain count size steps live.own live.nodes.master run.master live.nodes.servers.items run.servers live.nodes.first run.first live.nodes.second run.second run.same_master run.same_servers run.same_first run.same_second chain

  pub run_crossed : AreCrossed (wiring apart.ports.items)
  run_crossed = still_crossed count size steps live.own run.master run.servers run.first run.second apart after_run run.left

  pub run_tied : AreTied apart.wires
  run_tied = still_tied count size steps live.own run.master run.servers run.first run.second apart after_run run.left

  pub run_ended : (ended : Ended) → IsSettled apart ended → HasEnded size steps ended
  run_ended ended settled = has_ended count size steps live.own run.master run.servers run.first run.second apart after_run run.left ended settled
