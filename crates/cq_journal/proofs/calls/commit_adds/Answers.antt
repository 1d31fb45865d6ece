-- What the clauses of the call say.
use Rattle.std.proofs.Common.{sym, ◌∙◌}
use Rattle.std.specs.Prelude.{Result, Ok, Err, OnOk}
use Rattle.cq_journal.proofs.calls.commit_adds.Goals as goal

if_ok : {T E P Q R : Type 0} (r : Result T E) → OnOk r P → OnOk r Q → (P → Q → R) → OnOk r R
if_ok (Ok x) p q step = step p q
if_ok (Err e) p q step = tt

always : {T E P : Type 0} (r : Result T E) → P → OnOk r P
always (Ok x) p = p
always (Err e) p = tt

pub returns-clause-tries : goal.returns-clause-tries
returns-clause-tries g c = record { honest = λ honest. sym c.commit.ensures.honest ∙ honest; moments = c.commit.ensures.any_moment }

pub returns-clause-makes : goal.returns-clause-makes
returns-clause-makes g c =
    if_ok c.commit.result (always c.commit.result c.commit.ensures.lengths) c.commit.ensures.acknowledged (λ lengths records. record { half = lengths.0; len = lengths.1; records = λ _. records; tries = record { honest = λ honest. sym c.commit.ensures.honest ∙ honest; moments = c.commit.ensures.any_moment } })

pub returns-clause-leaves : goal.returns-clause-leaves
returns-clause-leaves g c = record { honest = (λ now. sym c.commit.ensures.honest ∙ now); moments = c.commit.ensures.intact }

pub returns-clause-goes_on : goal.returns-clause-goes_on
returns-clause-goes_on g c =
    if_ok c.commit.result (always c.commit.result c.commit.ensures.lengths) c.commit.ensures.stays (λ lengths stays. record { half = lengths.0; len = lengths.1; honest = (λ now. sym c.commit.ensures.honest ∙ now); stays = stays })

pub returns-clause-full : goal.returns-clause-full
returns-clause-full g c = λ full. record { half = c.commit.ensures.lengths.0; len = c.commit.ensures.lengths.1; honest = (λ now. sym c.commit.ensures.honest ∙ now); stays = c.commit.ensures.stays_full full }
