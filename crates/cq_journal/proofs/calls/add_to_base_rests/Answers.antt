-- What the clauses of the call say.
use Rattle.std.specs.Prelude.{Result, Ok, Err, OnOk}
use Rattle.cq_journal.proofs.calls.add_to_base_rests.Goals as goal

if_ok : {T E P Q R : Type 0} (r : Result T E) → OnOk r P → OnOk r Q → (P → Q → R) → OnOk r R
if_ok (Ok x) p q step = step p q
if_ok (Err e) p q step = tt

always : {T E P : Type 0} (r : Result T E) → P → OnOk r P
always (Ok x) p = p
always (Err e) p = tt

pub returns-clause-tries : goal.returns-clause-tries
returns-clause-tries g c = record { honest = c.add_to_base.ensures.honest; moments = c.add_to_base.ensures.any_moment }

pub returns-clause-makes : goal.returns-clause-makes
returns-clause-makes g c =
    if_ok c.add_to_base.result (always c.add_to_base.result c.add_to_base.ensures.lengths) (always c.add_to_base.result c.add_to_base.ensures.records) (λ lengths records. record { half = lengths.0; len = lengths.1; records = λ _. records; tries = record { honest = c.add_to_base.ensures.honest; moments = c.add_to_base.ensures.any_moment } })

pub returns-clause-leaves : goal.returns-clause-leaves
returns-clause-leaves g c = record { honest = c.add_to_base.ensures.honest; moments = c.add_to_base.ensures.intact }

pub returns-clause-goes_on : goal.returns-clause-goes_on
returns-clause-goes_on g c = record { half = c.add_to_base.ensures.lengths.0; len = c.add_to_base.ensures.lengths.1; honest = c.add_to_base.ensures.honest; stays = c.add_to_base.ensures.stays }
