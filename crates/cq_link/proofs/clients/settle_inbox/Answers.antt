use Rattle.std.proofs.Common.{◌∙◌, ap, sym}
use Rattle.std.proofs.lemmas.Option.{same_Some}
use Rattle.cq_link.specs.Inboxes.{put_in, taken_in}
use Rattle.cq_link.proofs.ClientSettling.{both_settled}
use Rattle.cq_link.proofs.clients.settle_inbox.Goals as goal

pub returns-in-Some-Some : goal.returns-in-Some-Some
returns-in-Some-Some c one two is-one is-two =
    let first = same_Some _ _ (sym c.in-Some-Some.is-0 ∙ is-one) in
    let second = same_Some _ _ (sym c.in-Some-Some.is-1 ∙ is-two) in
    both_settled (taken_in c.args.inbox) (put_in one) (put_in two) _ _ (c.settle.ensures.first ∙ ap put_in first) (c.settle.ensures.second ∙ ap put_in second)
