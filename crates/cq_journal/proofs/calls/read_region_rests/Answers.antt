-- What the clauses of the call say.
use Rattle.cq_journal.proofs.calls.read_region_rests.Goals as goal

pub returns-clause-tries : goal.returns-clause-tries
returns-clause-tries g c = record { honest = c.read_region.ensures.rests.honest; moments = c.read_region.ensures.rests.moments }

pub returns-clause-makes : goal.returns-clause-makes
returns-clause-makes g c =
    let rests = c.read_region.ensures.rests in
    record { half = rests.half; len = rests.len; records = λ _. rests.records; tries = record { honest = rests.honest; moments = rests.moments } }

pub returns-clause-leaves : goal.returns-clause-leaves
returns-clause-leaves g c = record { honest = c.read_region.ensures.rests.honest; moments = c.read_region.ensures.rests.intact }

pub returns-clause-goes_on : goal.returns-clause-goes_on
returns-clause-goes_on g c =
    let rests = c.read_region.ensures.rests in
    record { half = rests.half; len = rests.len; honest = rests.honest; stays = rests.stays }
