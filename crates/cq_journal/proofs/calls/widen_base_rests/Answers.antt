-- What the clauses of the call say.
use Rattle.std.specs.Prelude.{Result, Ok, Err, OnOk}
use Rattle.cq_journal.proofs.calls.widen_base_rests.Goals as goal

if_ok : {T E P Q R : Type 0} (r : Result T E) → OnOk r P → OnOk r Q → (P → Q → R) → OnOk r R
if_ok (Ok x) p q step = step p q
if_ok (Err e) p q step = tt

always : {T E P : Type 0} (r : Result T E) → P → OnOk r P
always (Ok x) p = p
always (Err e) p = tt

pub returns-clause-tries : goal.returns-clause-tries
returns-clause-tries g c = record { honest = c.widen_base.ensures.honest; moments = c.widen_base.ensures.any_moment }

pub returns-clause-makes : goal.returns-clause-makes
returns-clause-makes g c =
    if_ok c.widen_base.result (always c.widen_base.result c.widen_base.ensures.lengths) (always c.widen_base.result c.widen_base.ensures.records) (λ lengths records. record { half = lengths.0; len = lengths.1; records = λ _. records; tries = record { honest = c.widen_base.ensures.honest; moments = c.widen_base.ensures.any_moment } })

pub returns-clause-leaves : goal.returns-clause-leaves
returns-clause-leaves g c = record { honest = c.widen_base.ensures.honest; moments = c.widen_base.ensures.intact }

pub returns-clause-goes_on : goal.returns-clause-goes_on
returns-clause-goes_on g c = record { half = c.widen_base.ensures.lengths.0; len = c.widen_base.ensures.lengths.1; honest = c.widen_base.ensures.honest; stays = c.widen_base.ensures.stays }
