-- Inductions over lists of entries, from their first entry to their last.
use Rattle.std.proofs.Common.{List, [], ◌∷◌, ◌++◌}
use Rattle.std.specs.List.{fold}
use Rattle.cq_base.specs.declared.ask.Entry.{Entry}
use Rattle.cq_base.specs.queue.Outcomes.{Outcome}
use Rattle.cq_base.specs.queue.History.{history}
use Rattle.cq_base.proofs.Histories.{told}
use Rattle.cq_base.proofs.Lists.{by_last}

-- what stays when an entry more is told stays when any number are
after_more : (P : List Outcome → Type 0) → ((outcomes : List Outcome) (e : Entry) → P outcomes → P (told outcomes e)) → (outcomes : List Outcome) (entries : List Entry) → P outcomes → P (fold told outcomes entries)
after_more P more outcomes [] h = h
after_more P more outcomes (e ∷ entries) h = after_more P more (told outcomes e) entries (more outcomes e h)

-- what holds of no outcomes, and stays when an entry more is told, holds of every history
pub by_outcome : (P : List Outcome → Type 0) → P [] → ((outcomes : List Outcome) (e : Entry) → P outcomes → P (told outcomes e)) → (entries : List Entry) → P (history entries)
unfolding history
by_outcome P none more entries = after_more P more [] entries none

-- what holds of no entries, and stays with an entry more at the end, holds of every list
pub by_entry : (P : List Entry → Type 0) → P [] → ((entries : List Entry) (e : Entry) → P entries → P (entries ++ e ∷ [])) → (entries : List Entry) → P entries
by_entry P none more entries = by_last P none more entries
