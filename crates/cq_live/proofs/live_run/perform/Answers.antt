-- From the making of the nodes to what is known of them once all is settled.
use Rattle.cq_live.proofs.Performing.{run_crossed, run_tied, run_ended}
use Rattle.cq_live.proofs.live_run.perform.Goals as goal

pub settle-requires-clause-crossed : goal.settle-requires-clause-crossed
settle-requires-clause-crossed g c = run_crossed c.servers_in-servers.result c.args.size c.args.steps.now c.in_ok-live.live c.in_ok-done.done.apart c.in_ok-live.ensures c.in_ok-done.done.is_starved c.in_ok-done.ensures.run

pub settle-requires-clause-tied : goal.settle-requires-clause-tied
settle-requires-clause-tied g c = run_tied c.servers_in-servers.result c.args.size c.args.steps.now c.in_ok-live.live c.in_ok-done.done.apart c.in_ok-live.ensures c.in_ok-done.done.is_starved c.in_ok-done.ensures.run

pub returns-clause-ended : goal.returns-clause-ended
returns-clause-ended g c = run_ended c.servers_in-servers.result c.args.size c.args.steps.now c.in_ok-live.live c.in_ok-done.done.apart c.in_ok-live.ensures c.in_ok-done.done.is_starved c.in_ok-done.ensures.run c.in_ok-settle.field-0 c.in_ok-settle.ensures.settled
