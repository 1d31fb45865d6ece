-- The copy has the same entries.
use Rattle.std.proofs.Common.{◌∙◌, ap}
use Rattle.std.proofs.lemmas.Map.Entries.{entries_from_clone}
use Rattle.cq_messages.specs.within.Groups.{group_at}
use Rattle.cq_messages.proofs.groups.Groups.try_copy.Goals as goal

pub returns : goal.returns
returns c = λ group. ap (λ es. group_at es group) (entries_from_clone _ _ (λ x y h. h) (λ v w h. h) c.self.inside.kept.entries c.in_ok-clone.field-0.entries c.in_ok-clone.ensures.cases ∙ c.self.view_is)
