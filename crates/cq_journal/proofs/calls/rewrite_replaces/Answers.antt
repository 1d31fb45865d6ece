-- What the clauses of the call say.
use Rattle.std.specs.Prelude.{Result, Ok, Err, OnOk}
use Rattle.std.proofs.Common.{sym, subst, refl}
use Rattle.cq_journal.specs.Refusals.{GoesOn}
use Rattle.cq_journal.proofs.calls.rewrite_replaces.Goals as goal

if_ok : {T E P Q R : Type 0} (r : Result T E) → OnOk r P → OnOk r Q → (P → Q → R) → OnOk r R
if_ok (Ok x) p q step = step p q
if_ok (Err e) p q step = tt

pub returns-clause-tries : goal.returns-clause-tries
returns-clause-tries g c = record { honest = c.rewrite.ensures.honest; moments = c.rewrite.ensures.any_moment }

pub returns-clause-makes : goal.returns-clause-makes
returns-clause-makes g c =
    if_ok c.rewrite.result c.rewrite.ensures.lengths c.rewrite.ensures.rewritten (λ lengths records. record { half = lengths.0; len = lengths.1; records = λ _. records; tries = record { honest = c.rewrite.ensures.honest; moments = c.rewrite.ensures.any_moment } })

pub returns-clause-leaves : goal.returns-clause-leaves
returns-clause-leaves g c = record { honest = c.rewrite.ensures.honest; moments = c.rewrite.ensures.intact }

pub returns-clause-goes_on : goal.returns-clause-goes_on
returns-clause-goes_on g c =
    if_ok c.rewrite.result (c.rewrite.ensures.lengths) c.rewrite.ensures.stays (λ lengths stays. record { half = lengths.0; len = lengths.1; honest = c.rewrite.ensures.honest; stays = stays })

pub returns-clause-full : goal.returns-clause-full
returns-clause-full g c = λ full.
    let j = c.args.journal.now in
    subst (GoesOn j) (sym (c.rewrite.ensures.full full)) (record { half = refl; len = refl; honest = λ now. now; stays = λ now i. i })
