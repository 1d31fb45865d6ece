-- What it means that an ask about a name is answered, by what is kept of the name before it and after it.
use Rattle.std.specs.Prelude.{◌≡◌, ℕ, ◌≤◌, List, [], ◌∷◌, ◌++◌}
use Rattle.cq_base.specs.declared.ask.Ask.{Ask}
use Rattle.cq_base.specs.declared.ask.Entry.{Entry}
use Rattle.cq_base.specs.declared.reply.Reply.{Reply}
use Rattle.cq_base.specs.queue.Asks.{queue_of}
use Rattle.cq_base.specs.queue.Effects.{counts_by}
use Rattle.cq_base.specs.queue.Outcomes.{Outcome, about}
use Rattle.cq_base.specs.queue.Lifetimes.{live}
use Rattle.cq_base.specs.queue.History.{fresh_outcome, history}
use Rattle.cq_store.specs.Stands.{QueueRecord, NameStandsFor}

-- the outcomes about the queue that the ask names
abbrev pub own_outcomes : List Entry → Ask → List Outcome
own_outcomes entries ask = about (queue_of ask) (history entries)

-- Whatever entries the old value stands for, a fresh one with this ask at this moment has this reply, and the
-- new value stands for them and this one.
abbrev pub IsAnswer : QueueRecord → QueueRecord → ℕ → Ask → Reply → Type 0
IsAnswer old new moment ask reply = (entries : List Entry) (last : ℕ) (e : Entry) → last ≤ moment → e.moment ≡ moment → e.request.ask ≡ ask
    → NameStandsFor last old (own_outcomes entries ask)
    → ((fresh_outcome e (own_outcomes entries ask)).reply ≡ reply)
    × NameStandsFor moment new (own_outcomes entries ask ++ fresh_outcome e (own_outcomes entries ask) ∷ [])

-- Whatever entries the value stands for, this is the answer to a query of the counts after them, at that
-- moment.
abbrev pub IsCount : QueueRecord → ℕ → Reply → Type 0
IsCount kept moment reply = (entries : List Entry) (queue : List ℕ) (last : ℕ) → NameStandsFor last kept (about queue (history entries))
    → counts_by (live (about queue (history entries))) moment (about queue (history entries)) ≡ reply
