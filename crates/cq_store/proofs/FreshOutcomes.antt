-- A filter of a filter is one filter by both tests.
use Rattle.std.proofs.Common.{◌≡◌, List, None, Some}
use Rattle.cq_base.specs.declared.ask.Entry.{Entry}
use Rattle.cq_base.specs.queue.Outcomes.{Outcome, on}
use Rattle.cq_base.specs.queue.History.{outcome_with, fresh_outcome}
use Rattle.cq_base.specs.queue.Effects.{effect_on, effect_off, effect_of, attributes_by}
use Rattle.cq_base.specs.queue.Lifetimes.{live}

-- what a fresh entry does to a queue that lives
pub fresh-live : (e : Entry) (own : List Outcome) (creation : Outcome) → live own ≡ Some creation → outcome_with e creation.count (effect_on creation.count (attributes_by creation) e.moment (on creation.count own) e.request.ask) ≡ fresh_outcome e own
unfolding fresh_outcome effect_of
fresh-live e own creation h = rw h

-- and to one that doesn't
pub fresh-dead : (e : Entry) (own : List Outcome) → live own ≡ None → outcome_with e 0 (effect_off e.moment own e.request.ask) ≡ fresh_outcome e own
unfolding fresh_outcome effect_of
fresh-dead e own h = rw h
