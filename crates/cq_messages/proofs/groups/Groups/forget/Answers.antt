-- The entry of the group is taken out.
use Rattle.std.proofs.Common.{◌∙◌, ap, None, cond}
use Rattle.std.specs.Str.{bytes_eq}
use Rattle.cq_messages.specs.within.Groups.{group_at}
use Rattle.cq_messages.proofs.groups.Groups.forget.Goals as goal

pub returns : goal.returns
returns c = λ g. c.remove.ensures.updates.0 g ∙ ap (λ es. cond (bytes_eq c.args.group.now g) None (group_at es g)) c.self.view_is
