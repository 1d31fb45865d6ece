-- The end of the party is found, or nothing is held.
use Rattle.std.proofs.Common.{◌∙◌, ap, sym, None, Some, is_some}
use Rattle.cq_process.specs.Links.{held_at}
use Rattle.cq_process.proofs.Ends.{found}
use Rattle.cq_process.proofs.outgoing_ends.OutgoingEnds.is_held.Goals as goal

pub returns-in-Some : goal.returns-in-Some
returns-in-Some c =
    let was = found c.self.inside.ends.entries c.args.self.now c.args.to.now (Some c.in-Some.end.now) c.self.view_is c.in-Some.ensures.value in
    c.is_held.ensures ∙ sym (ap (λ o. is_some (held_at o)) was)

pub returns-in-None : goal.returns-in-None
returns-in-None c =
    let was = found c.self.inside.ends.entries c.args.self.now c.args.to.now None c.self.view_is c.in-None.ensures.value in
    sym (ap (λ o. is_some (held_at o)) was)
