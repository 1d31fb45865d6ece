use Rattle.std.proofs.Common.{refl}
use Rattle.cq_wire.specs.Reading.{whole_at}
use Rattle.cq_kept_entries.proofs.laws.entries_are_read_so.Goals as goal

pub returns : goal.returns
unfolding whole_at
returns c = record { nothing = refl; none = refl; base = refl; chunk = refl; without_store = refl; line = refl; header = refl; short = refl }
