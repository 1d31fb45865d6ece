-- What the session did, and how its fault is told.
use Rattle.cq_main.proofs.run.run_watch.Goals as goal

pub returns : goal.returns
returns g c = let did = c.watch.ensures in (c.watch.result, did.0, did.1, did.2, did.3, did.4, c.end.ensures)
