-- A group without messages is forgotten.
use Rattle.std.proofs.Common.{◌≡◌, ◌∙◌, arith, []}
use Rattle.std.proofs.lemmas.List.{nil_from_length}
use Rattle.cq_messages.specs.within.Groups.{numbers_at}
use Rattle.cq_messages.proofs.GroupsAt.{numbers-gone, handed-gone}
use Rattle.cq_messages.proofs.groups.Groups.take_out.Goals as goal

pub returns-then-left-eq0-clause-numbers : goal.returns-then-left-eq0-clause-numbers
returns-then-left-eq0-clause-numbers c = λ g.
    let empty : numbers_at c.shrink-left.new.self c.args.group.now ≡ [] = nil_from_length _ (omega arith) in
    numbers-gone c.shrink-left.new.self c.forget.new.self c.args.group.now g empty (c.forget.ensures g) ∙ c.shrink-left.ensures.numbers g

pub returns-then-left-eq0-clause-handed : goal.returns-then-left-eq0-clause-handed
returns-then-left-eq0-clause-handed c = λ g some. handed-gone c.shrink-left.new.self c.forget.new.self c.args.group.now g (c.forget.ensures g) some ∙ c.shrink-left.ensures.handed g
