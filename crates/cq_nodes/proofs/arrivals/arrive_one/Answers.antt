-- The next request of the inbox arrives.
use Rattle.std.proofs.Common.{◌∙◌, ◌++◌, ◌∷◌, [], ap, sym, subst}
use Rattle.cq_chain.specs.Stands.{Does}
use Rattle.cq_chain.specs.Steps.{arrived}
use Rattle.cq_nodes.specs.Moves.{Part}
use Rattle.cq_nodes.proofs.Bounds.{part_end}
use Rattle.cq_nodes.proofs.ActionRuns.{server-arrived}
use Rattle.cq_nodes.proofs.arrivals.arrive_one.Goals as goal

pub returns-in-Some-clause-arrived : goal.returns-in-Some-clause-arrived
returns-in-Some-clause-arrived g c = λ back r is.
    let old = c.args.core.now in
    let new = c.arrive.new.core in
    record {
      done = server-arrived old new back c.args.clock r (subst (λ q. Does old new (arrived c.args.clock q)) (sym (c.arrive.ensures.same r is)) (c.arrive.ensures.arrived r is)) (c.arrive.ensures.admitted r is);
      list = c.in-Some.ensures.taken ∙ ap (λ q. g.I.TakeEnd.list c.args.inbox.now ++ q ∷ []) (sym (c.arrive.ensures.same r is));
    }

pub returns-in-Some-clause-list : goal.returns-in-Some-clause-list
returns-in-Some-clause-list g c = λ xs part. subst (Part xs) (sym c.in-Some.ensures.taken) (part_end xs (g.I.TakeEnd.list c.args.inbox.now) c.in-Some.request part)
