-- The members so far are those of the text so far.
use Rattle.std.proofs.Common.{ℕ, ◌-◌, List, ◌++◌, length}
use denote.Text.{Utf8}
use denote.Shadow.{shadow}
use Rattle.cq_json.specs.within.FlatText.{Same, IsWhole, members_text, AreInRange}
use Rattle.cq_json.proofs.flat_text.take_members.Given as goal

abbrev pub invariant-members : goal.invariant-members
invariant-members l =
    shadow (Utf8 l.rest)
    × (((inner : List ℕ) → IsWhole inner → AreInRange l.initial.members.items
    → Same (members_text inner 123 l.initial.members.items ++ l.fn.text) (members_text inner 123 l.members.items ++ l.rest))
    × (AreInRange l.initial.members.items → AreInRange l.members.items))

abbrev pub decreases-members : goal.decreases-members
decreases-members l = 8 - length l.members.items
