-- Which entries find room when little is left.
use Rattle.std.specs.Prelude.{ℕ, ◌/◌}
use Rattle.cq_base.specs.declared.ask.Ask.{Ask}
use Rattle.cq_base.specs.declared.ask.Ask.TheVariants.{Create, Remove, Send, Receive, Delete, Change}
use Rattle.cq_kept_entries.specs.declared.class.EntryClass.{EntryClass}
use Rattle.cq_kept_entries.specs.declared.class.EntryClass.TheVariants.{Adds, Changes, Frees}

-- what an ask does to what a store holds
abbrev pub class_of : Ask → EntryClass
class_of (Create queue visibility content) = Adds
class_of (Send queue group dedup body) = Adds
class_of (Receive queue size visibility) = Changes
class_of (Change queue receipt visibility) = Changes
class_of (Remove queue) = Frees
class_of (Delete queue receipt) = Frees

-- how many bytes of the last region are kept from entries of this class, for those of the later ones
abbrev pub reserve_of : EntryClass → ℕ → ℕ
reserve_of Adds len = len / 2
reserve_of Changes len = len / 4
reserve_of Frees len = len / 64
