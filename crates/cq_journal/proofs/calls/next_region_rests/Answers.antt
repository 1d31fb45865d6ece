-- What the clauses of the call say.
use Rattle.std.specs.Prelude.{Result, Ok, Err, OnOk}
use Rattle.cq_journal.proofs.calls.next_region_rests.Goals as goal

if_ok : {T E P Q R : Type 0} (r : Result T E) → OnOk r P → OnOk r Q → (P → Q → R) → OnOk r R
if_ok (Ok x) p q step = step p q
if_ok (Err e) p q step = tt

pub returns-clause-tries : goal.returns-clause-tries
returns-clause-tries g c = record { honest = c.next_region.ensures.honest; moments = c.next_region.ensures.any_moment }

pub returns-clause-makes : goal.returns-clause-makes
returns-clause-makes g c =
    if_ok c.next_region.result c.next_region.ensures.lengths c.next_region.ensures.records (λ lengths records. record { half = lengths.0; len = lengths.1; records = λ _. records; tries = record { honest = c.next_region.ensures.honest; moments = c.next_region.ensures.any_moment } })

pub returns-clause-leaves : goal.returns-clause-leaves
returns-clause-leaves g c = record { honest = c.next_region.ensures.honest; moments = c.next_region.ensures.intact }

pub returns-clause-goes_on : goal.returns-clause-goes_on
returns-clause-goes_on g c =
    if_ok c.next_region.result (c.next_region.ensures.lengths) c.next_region.ensures.stays (λ lengths stays. record { half = lengths.0; len = lengths.1; honest = c.next_region.ensures.honest; stays = stays })

pub returns-clause-full : goal.returns-clause-full
returns-clause-full g c = λ full. record { half = (c.next_region.ensures.lengths_full full).0; len = (c.next_region.ensures.lengths_full full).1; honest = c.next_region.ensures.honest; stays = c.next_region.ensures.stays_full full }
