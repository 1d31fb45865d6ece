-- What a store keeps still stands after an entry more.
use Rattle.std.proofs.Common.{◌≡◌, ℕ, ◌+◌, ◌≤◌, ◌∙◌, ◌==◌, ◌⊎◌, ap, sym, List, [], ◌∷◌, ◌++◌, Option, Some, None, Bool, true, false, cond, eqb, arith, length-append, inl, inr, subst, refl}
use Rattle.std.specs.Prelude.{nat_lt, Result, Ok, Err, OnErr}
use Rattle.std.specs.Str.{bytes_eq}
use Rattle.std.proofs.lemmas.Bool.{cases_Bool, and_right, eqb-true, ltb-true, ltb-false}
use Rattle.std.proofs.lemmas.List.Sums.{fold-append}
use Rattle.std.proofs.lemmas.Slice.Eq.{bytes_eq-Decides}
use Rattle.cq_base.specs.declared.ask.Entry.{Entry}
use Rattle.cq_base.specs.declared.reply.Reply.{Reply}
use Rattle.cq_base.specs.declared.reply.Reply.TheVariants.{Refused}
use Rattle.cq_base.specs.declared.reply.Refusal.TheVariants.{StaleNumber}
use Rattle.cq_base.specs.queue.Asks.{queue_of}
use Rattle.cq_base.specs.queue.Clients.{is_fresh, of_client}
use Rattle.cq_base.specs.queue.Outcomes.{Outcome, is_about, about}
use Rattle.cq_base.specs.queue.History.{outcome_of, fresh_outcome, history, last_moment, reply_to, counts_after}
use Rattle.cq_base.proofs.Histories.{told, history-more, entry-outcome_of}
use Rattle.cq_store.specs.within.Asked.{IsAnswer, IsCount}
use Rattle.cq_base.specs.queue.Effects.{counts_by}
use Rattle.cq_base.specs.queue.Incarnations.{Incarnation}
use Rattle.cq_base.specs.queue.Lifetimes.{live, creations, removed_lately}
use Rattle.cq_store.specs.within.Rooms.{again_of, CameBy}
use Rattle.cq_store.specs.Parts.{IsWithin, IsQueueWithin}
use Rattle.cq_store.proofs.AsksStand.{within-later}
use Rattle.cq_store.specs.Stands.{ClientRecord, ClientKnown, ClientStands, QueueRecord, NameStandsFor, StoreKept, StandsFor, client_at, name_at, or_unknown, unknown}
use Rattle.cq_store.proofs.ClientsStand.{latest, client-fresh, client-other, client-idle, none_fresh, stale-reply, repeat-reply, idle-reply}
use Rattle.cq_store.proofs.OfLaws.Incarnations.{outcome-fresh}
use Rattle.cq_store.proofs.QueuesStand.{name-later}
use Rattle.cq_store.proofs.OfLaws.Lives.{some_same}
use Rattle.cq_store.proofs.OfLaws.OneQueue.{about-more, about-same, idle-about}
use Rattle.cq_store.proofs.OfLaws.Receipts.{about-own}

-- the last moment is that of the last entry
last-more : (entries : List Entry) (e : Entry) → last_moment (entries ++ e ∷ []) ≡ e.moment
unfolding last_moment
last-more entries e = fold-append (λ _ d. d.moment) 0 entries (e ∷ [])

-- an entry that names another queue is not about this one
about-other : (outcomes : List Outcome) (e : Entry) (queue : List ℕ) → bytes_eq (queue_of e.request.ask) queue ≡ false → is_about queue (outcome_of outcomes e) ≡ false
about-other outcomes e queue other = and_right (outcome_of outcomes e).fresh (bytes_eq (queue_of (outcome_of outcomes e).entry.request.ask) queue) (ap (λ d. bytes_eq (queue_of d.request.ask) queue) (entry-outcome_of outcomes e) ∙ other)

-- what is kept of a client, by whether it is the entry's
client_after : (client : ℕ) (kept after : Option ClientRecord) (outcomes : List Outcome) (e : Entry) (reply : Reply) → is_fresh e.request.client e.request.number outcomes ≡ true → (outcome_of outcomes e).reply ≡ reply
    → after ≡ cond (e.request.client == client) (Some (latest e reply)) kept → ClientKnown client kept outcomes → ClientKnown client after (told outcomes e)
client_after client kept after outcomes e reply fresh made is h = elim (cases_Bool (eqb e.request.client client)) [
  | inl own ↦ let fresh_here = ap (λ c. is_fresh c e.request.number outcomes) (sym (eqb-true e.request.client client own)) ∙ fresh in
      subst (λ k. ClientKnown client k (told outcomes e)) (sym (is ∙ ap (λ b. cond b (Some (latest e reply)) kept) own))
      (subst (λ r. ClientStands client (latest e r) (told outcomes e)) made (client-fresh client kept outcomes e own fresh_here h))
  | inr other ↦ subst (λ k. ClientKnown client k (told outcomes e)) (sym (is ∙ ap (λ b. cond b (Some (latest e reply)) kept) other)) (client-other client kept outcomes e other h)
]

-- what is kept of a name, by whether the entry names it
name_after : (queue : List ℕ) (last : ℕ) (before after own_after : Option QueueRecord) (outcomes : List Outcome) (e : Entry) → last ≤ e.moment → is_fresh e.request.client e.request.number outcomes ≡ true
    → (queue_of e.request.ask ≡ queue → after ≡ own_after) → (bytes_eq (queue_of e.request.ask) queue ≡ false → after ≡ before)
    → NameStandsFor e.moment (or_unknown own_after) (about (queue_of e.request.ask) outcomes ++ fresh_outcome e (about (queue_of e.request.ask) outcomes) ∷ [])
    → NameStandsFor last (or_unknown before) (about queue outcomes) → NameStandsFor e.moment (or_unknown after) (about queue (told outcomes e))
name_after queue last before after own_after outcomes e more fresh here there own h = elim (cases_Bool (bytes_eq (queue_of e.request.ask) queue)) [
  | inl same ↦ let name = (bytes_eq-Decides (queue_of e.request.ask) queue).0 same in
      let made = about-more (queue_of e.request.ask) outcomes e (about-own outcomes e fresh) ∙ ap (λ f. about (queue_of e.request.ask) outcomes ++ f ∷ []) (outcome-fresh outcomes e fresh) in
      subst (λ q. NameStandsFor e.moment (or_unknown after) (about q (told outcomes e))) name
      (subst (λ o. NameStandsFor e.moment (or_unknown o) (about (queue_of e.request.ask) (told outcomes e))) (sym (here name)) (subst (λ fs. NameStandsFor e.moment (or_unknown own_after) fs) (sym made) own))
  | inr other ↦ subst (λ fs. NameStandsFor e.moment (or_unknown after) fs) (sym (about-same queue outcomes e (about-other outcomes e queue other)))
      (subst (λ o. NameStandsFor e.moment (or_unknown o) (about queue outcomes)) (sym (there other)) (name-later last e.moment (or_unknown before) (about queue outcomes) more h))
]

-- What a store keeps after a fresh entry.
pub record IsAfter (old new : StoreKept) (e : Entry) (reply : Reply) : Type 0 where
  pub count : new.count ≡ old.count + 1
  pub last : new.last ≡ e.moment
  pub clients : (client : ℕ) → client_at new.clients client ≡ cond (e.request.client == client) (Some (latest e reply)) (client_at old.clients client)
  pub own : IsAnswer (or_unknown (name_at old.queues (queue_of e.request.ask))) (or_unknown (name_at new.queues (queue_of e.request.ask))) e.moment e.request.ask reply
  pub others : (queue : List ℕ) → bytes_eq (queue_of e.request.ask) queue ≡ false → name_at new.queues queue ≡ name_at old.queues queue

-- it stands for the entries with that one, and the reply is the definition's
pub fresh-stands : (old new : StoreKept) (entries : List Entry) (e : Entry) (reply : Reply) → StandsFor old entries → old.last ≤ e.moment → is_fresh e.request.client e.request.number (history entries) ≡ true → IsAfter old new e reply
    → (reply ≡ reply_to entries e) × StandsFor new (entries ++ e ∷ [])
unfolding reply_to
fresh-stands old new entries e reply h more fresh is =
    let outcomes = history entries in
    let own = queue_of e.request.ask in
    let answer = is.own entries old.last e more refl refl (h.queues own) in
    let replied : (outcome_of outcomes e).reply ≡ reply = ap (λ f. f.reply) (outcome-fresh outcomes e fresh) ∙ answer.0 in (
      sym replied,
      record {
        count = is.count ∙ ap (λ n. n + 1) h.count ∙ sym (length-append entries (e ∷ []));
        last = is.last ∙ sym (last-more entries e);
        clients = λ client. subst (λ fs. ClientKnown client (client_at new.clients client) fs) (sym (history-more entries e))
            (client_after client (client_at old.clients client) (client_at new.clients client) outcomes e reply fresh replied (is.clients client) (h.clients client));
        queues = λ queue. subst (λ m. NameStandsFor m (or_unknown (name_at new.queues queue)) (about queue (history (entries ++ e ∷ [])))) (sym is.last)
            (subst (λ fs. NameStandsFor e.moment (or_unknown (name_at new.queues queue)) (about queue fs)) (sym (history-more entries e))
            (name_after queue old.last (name_at old.queues queue) (name_at new.queues queue) (name_at new.queues own) outcomes e more fresh (λ same. ap (λ q. name_at new.queues q) (sym same)) (λ other. is.others queue other) answer.1 (h.queues queue)));
      },
    )

-- what is kept of a client after an entry that isn't fresh
client_idle : (client : ℕ) (kept : Option ClientRecord) (outcomes : List Outcome) (e : Entry) → is_fresh e.request.client e.request.number outcomes ≡ false → ClientKnown client kept outcomes → ClientKnown client kept (told outcomes e)
client_idle client kept outcomes e idle h = elim (cases_Bool (eqb e.request.client client)) [
  | inl own ↦ client-idle client kept outcomes e own (ap (λ c. is_fresh c e.request.number outcomes) (sym (eqb-true e.request.client client own)) ∙ idle) h
  | inr other ↦ client-other client kept outcomes e other h
]

-- after an entry that isn't fresh, the count and the last moment go on, and that is all
pub idle-stands : (old new : StoreKept) (entries : List Entry) (e : Entry) → StandsFor old entries → old.last ≤ e.moment → is_fresh e.request.client e.request.number (history entries) ≡ false
    → new.count ≡ old.count + 1 → new.last ≡ e.moment → new.clients ≡ old.clients → new.queues ≡ old.queues → StandsFor new (entries ++ e ∷ [])
idle-stands old new entries e h more idle count last clients queues =
    let outcomes = history entries in record {
      count = count ∙ ap (λ n. n + 1) h.count ∙ sym (length-append entries (e ∷ []));
      last = last ∙ sym (last-more entries e);
      clients = λ client. subst (λ cs. ClientKnown client (client_at cs client) (history (entries ++ e ∷ []))) (sym clients)
          (subst (λ fs. ClientKnown client (client_at old.clients client) fs) (sym (history-more entries e)) (client_idle client (client_at old.clients client) outcomes e idle (h.clients client)));
      queues = λ queue. subst (λ ns. NameStandsFor new.last (or_unknown (name_at ns queue)) (about queue (history (entries ++ e ∷ [])))) (sym queues)
          (subst (λ m. NameStandsFor m (or_unknown (name_at old.queues queue)) (about queue (history (entries ++ e ∷ [])))) (sym last)
          (subst (λ fs. NameStandsFor e.moment (or_unknown (name_at old.queues queue)) fs) (sym (idle-about entries e queue idle)) (name-later old.last e.moment (or_unknown (name_at old.queues queue)) (about queue outcomes) more (h.queues queue))));
    }

-- nothing isn't something
none_some : {X : Type 0} (x : X) → Some x ≡ None → ⊥
none_some x h = cc

-- where nothing is answered, the number is above
above : (over under : Bool) (stale kept : Reply) → cond over None (cond under (Some stale) (Some kept)) ≡ None → over ≡ true
above true under stale kept h = refl
above false true stale kept h = absurd (none_some stale h)
above false false stale kept h = absurd (none_some kept h)

-- an entry for which nothing is answered again is fresh
pub again-fresh : (kept : Option ClientRecord) (outcomes : List Outcome) (e : Entry) → ClientKnown e.request.client kept outcomes → again_of kept e.request.number ≡ None → is_fresh e.request.client e.request.number outcomes ≡ true
again-fresh None outcomes e h none = none_fresh e.request.client e.request.number outcomes h
again-fresh (Some kept) outcomes e h none = h.fresh e.request.number ∙ above (nat_lt kept.number e.request.number) (nat_lt e.request.number kept.number) (Refused StaleNumber) kept.reply none

-- What something is answered again is by the parts of the test.
said : (over under : Bool) (stale kept reply : Reply) → cond over None (cond under (Some stale) (Some kept)) ≡ Some reply → (over ≡ false) × ((under ≡ true × (stale ≡ reply)) ⊎ (under ≡ false × (kept ≡ reply)))
said true under stale kept reply h = absurd (none_some reply (sym h))
said false true stale kept reply h = (refl, inl (refl, some_same stale reply h))
said false false stale kept reply h = (refl, inr (refl, some_same kept reply h))

-- one for which something is isn't, and is answered so
pub again-idle : (kept : Option ClientRecord) (outcomes : List Outcome) (e : Entry) (reply : Reply) → ClientKnown e.request.client kept outcomes → again_of kept e.request.number ≡ Some reply
    → (is_fresh e.request.client e.request.number outcomes ≡ false) × ((outcome_of outcomes e).reply ≡ reply)
again-idle None outcomes e reply h some = absurd (none_some reply (sym some))
again-idle (Some kept) outcomes e reply h some =
    let parts = said (nat_lt kept.number e.request.number) (nat_lt e.request.number kept.number) (Refused StaleNumber) kept.reply reply some in
    let idle = h.fresh e.request.number ∙ parts.0 in
    let most = ltb-false kept.number e.request.number parts.0 in (
      idle,
      idle-reply outcomes e idle ∙ elim parts.1 [
        | inl stale ↦ stale-reply kept outcomes e h (ltb-true e.request.number kept.number stale.0) ∙ stale.1
        | inr again ↦ let least = ltb-false e.request.number kept.number again.0 in repeat-reply kept outcomes e h (omega (arith, most, least)) ∙ again.1
      ],
    )

-- every name stays, where the entry's does and the others do
pub every-name : (old new : List (List ℕ × QueueRecord)) (own : List ℕ) → name_at new own ≡ name_at old own → ((queue : List ℕ) → bytes_eq own queue ≡ false → name_at new queue ≡ name_at old queue) → (queue : List ℕ) → name_at new queue ≡ name_at old queue
every-name old new own same others queue = elim (cases_Bool (bytes_eq own queue)) [
  | inl e ↦ subst (λ q. name_at new q ≡ name_at old q) ((bytes_eq-Decides own queue).0 e) same
  | inr other ↦ others queue other
]

-- a store whose lookups are the same stands for the same
pub same-stands : (old new : StoreKept) (entries : List Entry) → new.count ≡ old.count → new.last ≡ old.last → ((client : ℕ) → client_at new.clients client ≡ client_at old.clients client) → ((queue : List ℕ) → name_at new.queues queue ≡ name_at old.queues queue) → StandsFor old entries → StandsFor new entries
same-stands old new entries count last clients queues h = record {
  count = count ∙ h.count;
  last = last ∙ h.last;
  clients = λ client. subst (λ k. ClientKnown client k (history entries)) (sym (clients client)) (h.clients client);
  queues = λ queue. subst (λ m. NameStandsFor m (or_unknown (name_at new.queues queue)) (about queue (history entries))) (sym last)
      (subst (λ k. NameStandsFor old.last (or_unknown k) (about queue (history entries))) (sym (queues queue)) (h.queues queue));
}

-- what is within bounds came by its last moment
pub came-by : (count last : ℕ) (living : Option Incarnation) → IsQueueWithin count last living → CameBy last living
came-by count last None h = tt
came-by count last (Some q) h = h.1

-- bounds at a moment are bounds at a later one
within_at : (count last later : ℕ) (living : Option Incarnation) → last ≤ later → IsQueueWithin count last living → IsQueueWithin count later living
within_at count last later None more h = tt
within_at count last later (Some q) more h = (h.0, omega (arith, h.1, more))

pub within-at : (count last later : ℕ) (kept : QueueRecord) → last ≤ later → IsWithin count last kept → IsWithin count later kept
within-at count last later kept more h = record { creations = h.creations; living = within_at count last later kept.living more h.living }

-- bounds of at most so many are bounds of more
within_most : (count more last : ℕ) (living : Option Incarnation) → count ≤ more → IsQueueWithin count last living → IsQueueWithin more last living
within_most count more last None most h = tt
within_most count more last (Some q) most h = (omega (arith, h.0, most), h.1)

pub within-most : (count more last : ℕ) (kept : QueueRecord) → count ≤ more → IsWithin count last kept → IsWithin more last kept
within-most count more last kept most h = record { creations = omega (arith, h.creations, most); living = within_most count more last kept.living most h.living }

-- every name is within bounds after an ask about one
pub within-all : (count last moment : ℕ) (old new : List (List ℕ × QueueRecord)) (own : List ℕ) → last ≤ moment → ((queue : List ℕ) → IsWithin count last (or_unknown (name_at old queue)))
    → ((n : ℕ) → IsWithin n moment (or_unknown (name_at old own)) → IsWithin (n + 1) moment (or_unknown (name_at new own)))
    → ((queue : List ℕ) → bytes_eq own queue ≡ false → name_at new queue ≡ name_at old queue) → (queue : List ℕ) → IsWithin (count + 1) moment (or_unknown (name_at new queue))
within-all count last moment old new own more within next others queue = elim (cases_Bool (bytes_eq own queue)) [
  | inl e ↦ subst (λ q. IsWithin (count + 1) moment (or_unknown (name_at new q))) ((bytes_eq-Decides own queue).0 e) (next count (within-at count last moment (or_unknown (name_at old own)) more (within own)))
  | inr other ↦ subst (λ o. IsWithin (count + 1) moment (or_unknown o)) (sym (others queue other)) (within-later count last moment (or_unknown (name_at old queue)) more (within queue))
]

-- what is kept of a client is nothing before the first entry
client_none : (client : ℕ) → of_client client (history []) ≡ []
unfolding of_client history
client_none client = refl

-- and of a name
name_none : (queue : List ℕ) → NameStandsFor 0 unknown (about queue (history []))
unfolding about history live creations removed_lately
name_none queue = record { creations = refl; past = tt; removed = λ moment later. refl; living = tt }

-- a store that keeps nothing stands for no entries
pub none-stands : (kept : StoreKept) → kept.count ≡ 0 → kept.last ≡ 0 → ((client : ℕ) → client_at kept.clients client ≡ None) → ((queue : List ℕ) → name_at kept.queues queue ≡ None) → StandsFor kept []
unfolding last_moment
none-stands kept count last clients queues = record {
  count = count;
  last = last;
  clients = λ client. subst (λ k. ClientKnown client k (history [])) (sym (clients client)) (client_none client);
  queues = λ queue. subst (λ m. NameStandsFor m (or_unknown (name_at kept.queues queue)) (about queue (history []))) (sym last) (subst (λ k. NameStandsFor 0 (or_unknown k) (about queue (history []))) (sym (queues queue)) (name_none queue));
}

-- the counts of a name are those of the definitions
pub counts-stand : (kept : StoreKept) (entries : List Entry) (queue : List ℕ) (reply : Reply) → IsCount (or_unknown (name_at kept.queues queue)) kept.last reply → StandsFor kept entries → reply ≡ counts_after entries queue
unfolding counts_after
counts-stand kept entries queue reply counted h = sym (ap (λ m. counts_by (live (about queue (history entries))) m (about queue (history entries))) (sym h.last) ∙ counted entries queue kept.last (h.queues queue))

-- what an outcome's entry is answered with is the definition's reply
pub replied : (entries : List Entry) (e : Entry) (reply : Reply) → (outcome_of (history entries) e).reply ≡ reply → reply ≡ reply_to entries e
unfolding reply_to
replied entries e reply h = sym h

-- what holds holds on an error
pub on_err : {A E : Type 0} (P : Type 0) (result : Result A E) → P → OnErr result P
on_err P (Ok x) h = tt
on_err P (Err e) h = h

-- with other lookups, it stands for the same
pub unchanged : (count last : ℕ) (clients more : List (ℕ × ClientRecord)) (old new : List (List ℕ × QueueRecord)) (own : List ℕ) (entries : List Entry) → more ≡ clients → name_at new own ≡ name_at old own → ((queue : List ℕ) → bytes_eq own queue ≡ false → name_at new queue ≡ name_at old queue)
    → StandsFor (record { count = count; last = last; clients = clients; queues = old }) entries → StandsFor (record { count = count; last = last; clients = more; queues = new }) entries
unchanged count last clients more old new own entries same here others h = same-stands (record { count = count; last = last; clients = clients; queues = old }) (record { count = count; last = last; clients = more; queues = new }) entries refl refl (λ client. ap (λ cs. client_at cs client) same) (every-name old new own here others) h
