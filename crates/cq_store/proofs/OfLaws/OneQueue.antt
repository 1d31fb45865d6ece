-- What the fresh entries that name a queue do follows from these alone.
use Rattle.std.proofs.Common.{◌≡◌, ℕ, ◌∙◌, ap, sym, List, [], ◌∷◌, ◌++◌, map, true, false, inl, inr, subst, refl}
use Rattle.std.specs.List.{filter}
use Rattle.std.specs.Str.{bytes_eq}
use Rattle.std.proofs.lemmas.Bool.{cases_Bool, and_parts, and_left}
use Rattle.std.proofs.lemmas.List.{map-append}
use Rattle.std.proofs.lemmas.List.Elements.{All-filter}
use Rattle.std.proofs.lemmas.List.Sums.{AllPass-from_list_all, list_all-from_AllPass}
use Rattle.std.proofs.lemmas.Slice.Eq.{bytes_eq-Decides}
use Rattle.cq_base.specs.declared.ask.Entry.{Entry}
use Rattle.cq_base.specs.queue.Asks.{queue_of}
use Rattle.cq_base.specs.queue.Clients.{is_of_client, is_numbered_below, of_client, is_fresh}
use Rattle.cq_base.specs.queue.Outcomes.{Outcome, is_about, about}
use Rattle.cq_base.specs.queue.History.{outcome_of, history, reply_to}
use Rattle.cq_base.proofs.Histories.{told, history-more, entry-outcome_of}
use Rattle.cq_store.specs.Laws.{naming, OthersDoNothing, EachQueueAlone, EachReplyAlone}
use Rattle.cq_base.proofs.Ends.{filter-passes, filter-fails}
use Rattle.cq_base.proofs.Filters.{filter-twice, filter-swapped}
use Rattle.cq_store.proofs.OfLaws.Alike.{idle_unseen}
use Rattle.cq_store.proofs.OfLaws.Inductions.{by_entry}
use Rattle.cq_store.proofs.OfLaws.Repeats.{fresh-outcome_of}

-- what is above all of a client's numbers is so among fewer entries
fresh-about : (queue : List ℕ) (outcomes : List Outcome) (client number : ℕ) → is_fresh client number outcomes ≡ true → is_fresh client number (about queue outcomes) ≡ true
unfolding is_fresh of_client about
fresh-about queue outcomes client number fresh = rw (filter-swapped (is_about queue) (is_of_client client) outcomes)
    (list_all-from_AllPass (is_numbered_below number) (filter (is_about queue) (filter (is_of_client client) outcomes))
    (All-filter (is_about queue) (λ f. is_numbered_below number f ≡ true) (filter (is_of_client client) outcomes)
    (AllPass-from_list_all (is_numbered_below number) (filter (is_of_client client) outcomes) fresh)))

-- the outcomes about a queue are all about it
about-twice : (queue : List ℕ) (outcomes : List Outcome) → about queue (about queue outcomes) ≡ about queue outcomes
unfolding about
about-twice queue outcomes = filter-twice (is_about queue) outcomes

-- what a fresh entry does follows from the outcomes about its queue
pub outcome-alone : (outcomes : List Outcome) (e : Entry) → is_fresh e.request.client e.request.number outcomes ≡ true → outcome_of outcomes e ≡ outcome_of (about (queue_of e.request.ask) outcomes) e
unfolding outcome_of
outcome-alone outcomes e fresh = let still = fresh-about (queue_of e.request.ask) outcomes e.request.client e.request.number fresh in
    let same = about-twice (queue_of e.request.ask) outcomes in
    rw (fresh, still, same)

-- one more entry that is fresh and names the queue
pub about-more : (queue : List ℕ) (outcomes : List Outcome) (e : Entry) → is_about queue (outcome_of outcomes e) ≡ true → about queue (told outcomes e) ≡ about queue outcomes ++ outcome_of outcomes e ∷ []
unfolding about
about-more queue outcomes e h = filter-passes (is_about queue) outcomes (outcome_of outcomes e) h

-- one more entry that isn't so
pub about-same : (queue : List ℕ) (outcomes : List Outcome) (e : Entry) → is_about queue (outcome_of outcomes e) ≡ false → about queue (told outcomes e) ≡ about queue outcomes
unfolding about
about-same queue outcomes e h = filter-fails (is_about queue) outcomes (outcome_of outcomes e) h

-- an entry that isn't fresh changes nothing that is seen later
pub others_do_nothing : OthersDoNothing
others_do_nothing = idle_unseen

-- an entry that isn't fresh is about no queue
pub idle-about : (entries : List Entry) (e : Entry) (queue : List ℕ) → is_fresh e.request.client e.request.number (history entries) ≡ false → about queue (history (entries ++ e ∷ [])) ≡ about queue (history entries)
idle-about entries e queue idle = let other = and_left (outcome_of (history entries) e).fresh (bytes_eq (queue_of (outcome_of (history entries) e).entry.request.ask) queue) (fresh-outcome_of (history entries) e ∙ idle) in
    ap (λ outcomes. about queue outcomes) (history-more entries e) ∙ about-same queue (history entries) e other

-- an entry whose outcome is about the queue is fresh and names it
pub names : (queue : List ℕ) (outcomes : List Outcome) (e : Entry) → is_about queue (outcome_of outcomes e) ≡ true → (is_fresh e.request.client e.request.number outcomes ≡ true) × (queue_of e.request.ask ≡ queue)
names queue outcomes e h = let parts = and_parts (outcome_of outcomes e).fresh (bytes_eq (queue_of (outcome_of outcomes e).entry.request.ask) queue) h in
    (sym (fresh-outcome_of outcomes e) ∙ parts.0, ap (λ d. queue_of d.request.ask) (sym (entry-outcome_of outcomes e)) ∙ (bytes_eq-Decides (queue_of (outcome_of outcomes e).entry.request.ask) queue).0 parts.1)

-- the entries of the outcomes about the queue
abbrev named_by : List ℕ → List Entry → List Entry
named_by queue entries = map (λ f. f.entry) (about queue (history entries))

-- they are those that name it
named-by : (queue : List ℕ) (entries : List Entry) → named_by queue entries ≡ naming queue entries
unfolding about
named-by queue entries = refl

-- the outcomes about the queue are the history of their entries
abbrev IsAlone : List ℕ → List Entry → Type 0
IsAlone queue entries = about queue (history entries) ≡ history (named_by queue entries)

-- the outcome of an entry that is fresh and names the queue
own_outcome : (queue : List ℕ) (outcomes : List Outcome) (e : Entry) → is_about queue (outcome_of outcomes e) ≡ true → outcome_of outcomes e ≡ outcome_of (about queue outcomes) e
own_outcome queue outcomes e own = let named = names queue outcomes e own in subst (λ q. outcome_of outcomes e ≡ outcome_of (about q outcomes) e) named.1 (outcome-alone outcomes e named.0)

-- so it is for no entries
alone-none : (queue : List ℕ) → IsAlone queue []
unfolding about history
alone-none queue = refl

-- the entry is the last of those that name the queue
naming-own : (queue : List ℕ) (entries : List Entry) (e : Entry) → is_about queue (outcome_of (history entries) e) ≡ true → named_by queue (entries ++ e ∷ []) ≡ named_by queue entries ++ e ∷ []
naming-own queue entries e own = rw (history-more entries e, about-more queue (history entries) e own) (map-append (λ f. f.entry) (about queue (history entries)) (outcome_of (history entries) e ∷ []) ∙ ap (λ d. named_by queue entries ++ d ∷ []) (entry-outcome_of (history entries) e))

-- with a fresh entry more that names it
alone-own : (queue : List ℕ) (entries : List Entry) (e : Entry) → is_about queue (outcome_of (history entries) e) ≡ true → IsAlone queue entries → IsAlone queue (entries ++ e ∷ [])
alone-own queue entries e own h =
    ap (λ outcomes. about queue outcomes) (history-more entries e)
    ∙ about-more queue (history entries) e own
    ∙ ap (λ f. about queue (history entries) ++ f ∷ []) (own_outcome queue (history entries) e own)
    ∙ ap (λ outcomes. told outcomes e) h
    ∙ sym (history-more (named_by queue entries) e)
    ∙ ap (λ es. history es) (sym (naming-own queue entries e own))

-- with any other entry more
alone-other : (queue : List ℕ) (entries : List Entry) (e : Entry) → is_about queue (outcome_of (history entries) e) ≡ false → IsAlone queue entries → IsAlone queue (entries ++ e ∷ [])
alone-other queue entries e other h = rw (history-more entries e, about-same queue (history entries) e other) h

-- with one entry more
alone-more : (queue : List ℕ) (entries : List Entry) (e : Entry) → IsAlone queue entries → IsAlone queue (entries ++ e ∷ [])
alone-more queue entries e h = elim (cases_Bool (is_about queue (outcome_of (history entries) e))) [ inl own ↦ alone-own queue entries e own h | inr other ↦ alone-other queue entries e other h ]

-- the outcomes about a queue are the history of the fresh entries that name it
pub queues_alone : EachQueueAlone
queues_alone entries queue = by_entry (IsAlone queue) (alone-none queue) (alone-more queue) entries ∙ ap (λ es. history es) (named-by queue entries)

-- a fresh entry is answered by those that name its queue alone
pub replies_alone : EachReplyAlone
unfolding reply_to
replies_alone entries e fresh = ap (λ f. f.reply) (outcome-alone (history entries) e fresh) ∙ ap (λ outcomes. (outcome_of outcomes e).reply) (queues_alone entries (queue_of e.request.ask))
