-- Each node keeps what its thread promised.
use Rattle.std.proofs.Common.{◌∙◌, sym}
use Rattle.cq_threads.proofs.Promises.{kept_at, same_each}
use Rattle.cq_threads.proofs.threads.join_servers.Goals as goal

pub returns-in-Ok : goal.returns-in-Ok
returns-in-Ok g c =
    let threads = c.args.threads in
    let nodes = c.in-Ok.nodes in
    same_each g.P.PutEnd.link g.T.TakeEnd.link g.I.TakeEnd.link (λ thread. thread.promise.was.value) threads.items nodes.items (sym nodes.ok.0 ∙ c.in-Ok.ensures.len ∙ threads.ok.0)
    (λ place thread node here there. kept_at _ _ threads.items nodes.items threads.ok.0 c.in-Ok.ensures.each place thread node here there)
