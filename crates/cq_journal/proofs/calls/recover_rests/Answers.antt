-- What the clauses of the call say.
use Rattle.std.proofs.Common.{◌≡◌, ◌⊎◌, inr, List, ℕ, sym, ◌∙◌}
use Rattle.std.specs.Prelude.{Result, Ok, Err, OnOk}
use Rattle.cq_disk.proofs.Moments.{runs_on, weakened}
use Rattle.cq_journal.specs.Regions.{kept}
use Rattle.cq_journal.specs.Intact.{IsIntact}
use Rattle.cq_journal.proofs.calls.recover_rests.Goals as goal

if_ok : {T E P Q R : Type 0} (r : Result T E) → OnOk r P → OnOk r Q → (P → Q → R) → OnOk r R
if_ok (Ok x) p q step = step p q
if_ok (Err e) p q step = tt

pub returns-clause-tries : goal.returns-clause-tries
returns-clause-tries g c = record { honest = c.recover.ensures.honest; moments = c.recover.ensures.any_moment }

pub returns-clause-makes : goal.returns-clause-makes
returns-clause-makes g c =
    if_ok c.recover.result c.recover.ensures.lengths c.recover.ensures.records (λ lengths records. record { half = lengths.0; len = lengths.1; records = records; tries = record { honest = c.recover.ensures.honest; moments = c.recover.ensures.any_moment } })

pub returns-clause-opens : goal.returns-clause-opens
returns-clause-opens g c = λ first so_far found honest.
    let d = g.D.Device in
    let j = c.args.journal.now in
    let half = j.root.log.device.len in
    let old = j.root.log.device.device in
    let new = c.recover.new.self.root.log.device.device in
    let Q : List ℕ → Type 0 = λ f. d.may_leave first f ⊎ (kept half j.len f ≡ kept half j.len (d.seen first)) in
    runs_on d.moment d.left_since first old new Q so_far (weakened d.moment d.left_since old new _ Q (c.recover.ensures.any_moment honest) (λ f is. inr (is ∙ sym found)))

pub returns-clause-leaves : goal.returns-clause-leaves
returns-clause-leaves g c = record { honest = c.recover.ensures.honest; moments = c.recover.ensures.intact }

pub returns-clause-goes_on : goal.returns-clause-goes_on
returns-clause-goes_on g c =
    if_ok c.recover.result (c.recover.ensures.lengths) c.recover.ensures.stays (λ lengths stays. record { half = lengths.0; len = lengths.1; honest = c.recover.ensures.honest; stays = stays })

pub returns-clause-opens_intact : goal.returns-clause-opens_intact
returns-clause-opens_intact g c = λ first so_far found honest i.
    let d = g.D.Device in
    let j = c.args.journal.now in
    let half = j.root.log.device.len in
    let old = j.root.log.device.device in
    let new = c.recover.new.self.root.log.device.device in
    let Q : List ℕ → Type 0 = λ f. d.may_leave first f ⊎ IsIntact half j.len f in
    runs_on d.moment d.left_since first old new Q (so_far i) (weakened d.moment d.left_since old new _ Q (c.recover.ensures.intact honest (found i)) (λ f is. inr is))
