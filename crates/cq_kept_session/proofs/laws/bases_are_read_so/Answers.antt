use Rattle.std.proofs.Common.{refl}
use Rattle.cq_wire.specs.Reading.{number_at}
use Rattle.cq_kept_session.specs.Bases.{header_of}
use Rattle.cq_kept_session.proofs.laws.bases_are_read_so.Goals as goal

pub returns : goal.returns
unfolding header_of number_at
returns c = record { lines_alone = refl; of_three = refl; unended = refl; header = refl; chunk = refl; short = refl; without_store = refl }
