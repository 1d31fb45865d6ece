-- The server crashes, since it found no memory.
use Rattle.std.proofs.Common.{true, inr, refl}
use Rattle.cq_nodes.specs.Ends.{back_of}
use Rattle.cq_nodes.proofs.ActionRuns.{server-crashed}
use Rattle.cq_nodes.proofs.Growing.{crash_now}
use Rattle.cq_nodes.proofs.NodeSteps.{ran_crashed, ran_starved}
use Rattle.cq_nodes.proofs.ServerTurns.{seen_crash}
use Rattle.cq_nodes.proofs.server_node.ServerNode.starve.Goals as goal

pub invariant_of-self : goal.invariant_of-self
invariant_of-self g c =
    let old = c.self.inside in
    let count = c.count-count.result in
    let was = ran_starved g.P.PutEnd.list g.T.TakeEnd.list g.I.TakeEnd.list old.size old.id old.core old.outs.items old.clients old.ins.items old.inbox old.trace.items old.crash_after old.starved c.self.invariant.0 in (
      ran_crashed g.P.PutEnd.list g.T.TakeEnd.list g.I.TakeEnd.list old.size old.id old.core c.crash.new.core old.outs.items old.clients old.ins.items old.inbox old.trace.items c.crash.new.trace.items old.crash_after true was count
          (server-crashed old.core c.crash.new.core (back_of old.outs.items old.clients.kept) count c.crash.ensures.core c.count-count.ensures) (inr refl) c.crash.ensures.trace,
      tt,
      crash_now old.id old.trace.items c.crash.new.trace.items true (c.self.invariant.2.none c.if-self.false) c.crash.ensures.trace,
    )

pub returns-clause-crashed : goal.returns-clause-crashed
returns-clause-crashed g c = λ up. seen_crash _ c.args.self.now _ c.self.view_is (record { trace = c.crash.ensures.trace; before = c.if-self.false; ended = refl })
