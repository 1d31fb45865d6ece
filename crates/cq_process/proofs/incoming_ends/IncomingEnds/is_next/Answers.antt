-- The end of the party is found, or nothing came.
use Rattle.std.proofs.Common.{◌∙◌, ap, sym, None, Some}
use Rattle.cq_process.specs.Links.{received}
use Rattle.cq_process.specs.Taking.{is_next}
use Rattle.cq_process.proofs.Ends.{found}
use Rattle.cq_process.proofs.incoming_ends.IncomingEnds.is_next.Goals as goal

pub returns-in-Some : goal.returns-in-Some
returns-in-Some c =
    let was = found c.self.inside.ends.entries c.args.self.now c.args.from.now (Some c.in-Some.end.now) c.self.view_is c.in-Some.ensures.value in
    c.is_next.ensures ∙ sym (ap (λ o. is_next c.args.number (received o).taken (received o).pieces) was)

pub returns-in-None : goal.returns-in-None
returns-in-None c =
    let was = found c.self.inside.ends.entries c.args.self.now c.args.from.now None c.self.view_is c.in-None.ensures.value in
    c.is_behind.ensures ∙ sym (ap (λ o. is_next c.args.number (received o).taken (received o).pieces) was)
