-- A message is handed out only while none of its group is in flight.
use Rattle.std.proofs.Common.{◌≡◌, ℕ, ◌∙◌, ◌+◌, ◌&&◌, not, Bool, ap, sym, List, [], true, false, inl, inr, subst, refl}
use Rattle.std.specs.Prelude.{nat_lt, Option, Some, None}
use Rattle.std.specs.List.{filter, list_any}
use Rattle.std.specs.Str.{bytes_eq}
use Rattle.std.proofs.lemmas.Bool.{cases_Bool, and_parts, and_cases, not-true, not_from_false, both_ways}
use Rattle.std.proofs.lemmas.Slice.Eq.{bytes_eq-Decides}
use Rattle.cq_base.specs.declared.ask.Ask.{Ask}
use Rattle.cq_base.specs.declared.ask.Ask.TheVariants.{Create, Remove, Send, Receive, Delete, Change}
use Rattle.cq_base.specs.declared.ask.Entry.{Entry}
use Rattle.cq_base.specs.queue.Asks.{queue_of, group_of}
use Rattle.cq_base.specs.queue.Outcomes.{Outcome, about}
use Rattle.cq_base.specs.queue.Clients.{is_fresh}
use Rattle.cq_base.specs.queue.Lifetimes.{live, creations, removed_lately}
use Rattle.cq_base.specs.declared.reply.Reply.TheVariants.{Created, Refused}
use Rattle.cq_base.specs.declared.reply.Refusal.TheVariants.{QueueDeletedRecently}
use Rattle.cq_base.specs.queue.Effects.{only_replies, takes_effect, effect_off, visibility_by}
use Rattle.cq_base.specs.queue.History.{outcome_of, history}
use Rattle.cq_base.specs.queue.Messages.{Message, messages, is_deleted, is_kept, message_of, remaining, until}
use Rattle.cq_base.specs.queue.Receiving.{is_same_group, is_in_flight, is_blocked_by, is_oldest, is_open, leads, group_with, delivery_order, to_hand}
use Rattle.cq_base.proofs.Histories.{entry-outcome_of}
use Rattle.cq_store.specs.Laws.{IsFresh, LivesBy, so_far, handed_by, HandsWhatWasSent, NoneInFlight, NoneDeleted}
use Rattle.cq_base.specs.Relations.{Among}
use Rattle.cq_base.proofs.Among.{among-filter, among-kept, among-map, among-image, among-flat_map, among-take, none-any}
use Rattle.cq_base.proofs.Numbers.{same_number}
use Rattle.cq_store.proofs.OfLaws.Incarnations.{numbered, outcome-fresh, hands-live}
use Rattle.cq_store.proofs.FreshOutcomes.{fresh-dead}
use Rattle.cq_base.proofs.OneMoreOutcome.{IsHanding, chosen_handed}

-- texts that are equal by the test are equal
pub same-text : (xs ys : List ℕ) → bytes_eq xs ys ≡ true → xs ≡ ys
same-text xs ys h = (bytes_eq-Decides xs ys).0 h

-- equal texts are so by the test
pub text-same : (xs ys : List ℕ) → xs ≡ ys → bytes_eq xs ys ≡ true
text-same xs ys h = (bytes_eq-Decides xs ys).1 h

-- What stands in turn is a message of a group of which none is in flight.
pub record IsInTurn (moment : ℕ) (ms : List Message) (m : Message) : Type 0 where
  pub stands : Among m ms
  pub open_group : (y : Message) → Among y ms → m.group ≡ y.group → is_in_flight moment y ≡ false

-- none of the group of m is in flight, if m is of the group of l and that is open
open_with : (moment : ℕ) (ms : List Message) (l m y : Message) → is_open moment ms l ≡ true → is_same_group l m ≡ true → Among y ms → m.group ≡ y.group → is_in_flight moment y ≡ false
open_with moment ms l m y opens same at e = elim (and_cases (is_same_group l y) (is_in_flight moment y) (none-any (is_blocked_by moment l) y ms (not-true (list_any (is_blocked_by moment l) ms) opens) at)) [
  | inl apart ↦ absurd (both_ways (is_same_group l y) apart (text-same l.group y.group (same-text l.group m.group same ∙ e)))
  | inr landed ↦ landed
]

-- what stands in turn is so
pub turn-among : (moment : ℕ) (ms : List Message) (m : Message) → Among m (delivery_order moment ms) → IsInTurn moment ms m
unfolding delivery_order
turn-among moment ms m h = let found = among-flat_map (group_with ms) m (filter (leads moment ms) ms) h in
    let leading = among-filter (leads moment ms) found.0 ms found.1 in
    let own = among-filter (is_same_group found.0) m ms found.2 in
    let opens = (and_parts (is_oldest ms found.0) (is_open moment ms found.0) leading.1).1 in
    record { stands = own.0; open_group = λ y at e. open_with moment ms found.0 m y opens own.1 at e }

-- and so is what is handed out
pub to_hand-among : (size moment : ℕ) (ms : List Message) (m : Message) → Among m (to_hand size moment ms) → IsInTurn moment ms m
unfolding to_hand
to_hand-among size moment ms m h = turn-among moment ms m (among-take size m (delivery_order moment ms) h)

-- A number that is handed out is that of a message in turn.
pub record IsHandedOut (default moment : ℕ) (xs : List Outcome) (sequence : ℕ) (x : Outcome) : Type 0 where
  pub sent : Among x (messages xs)
  pub number : x.count ≡ sequence
  pub kept : is_kept xs x ≡ true
  pub turn : IsInTurn moment (remaining default xs) (message_of default xs x)

-- each number that is handed out is so
pub handed-among : (default : ℕ) (xs : List Outcome) (f : Outcome) (sequence : ℕ) → IsHanding default xs f → Among sequence f.handed → (x : Outcome) × IsHandedOut default f.entry.moment xs sequence x
unfolding remaining message_of
handed-among default xs f sequence hands h = let found = among-map (λ m. m.sequence) sequence (to_hand hands.size f.entry.moment (remaining default xs)) (subst (λ ns. Among sequence ns) hands.handed h) in
    let turn = to_hand-among hands.size f.entry.moment (remaining default xs) found.0 found.1 in
    let made = among-map (message_of default xs) found.0 (filter (is_kept xs) (messages xs)) turn.stands in
    let own = among-filter (is_kept xs) made.0 (messages xs) made.1 in
    (made.0, record { sent = own.0; number = sym (found.2 ∙ ap (λ m. m.sequence) made.2); kept = own.1; turn = subst (λ m. IsInTurn f.entry.moment (remaining default xs) m) made.2 turn })

-- what is handed out was sent to the incarnation by which the queue lives
sent_live : (entries : List Entry) (e : Entry) (creation : Outcome) (sequence : ℕ) → IsFresh entries e → LivesBy entries e creation → Among sequence (handed_by entries e) → (x : Outcome) × Among x (messages (so_far entries e creation)) × (x.count ≡ sequence)
sent_live entries e creation sequence fresh lives h = let found = handed-among (visibility_by creation) (so_far entries e creation) (outcome_of (history entries) e) sequence (hands-live (history entries) e creation fresh lives) h in
    (found.0, found.1.sent, found.1.number)

-- a queue that doesn't live hands out nothing
off_handed : (moment : ℕ) (own : List Outcome) (ask : Ask) → (effect_off moment own ask).handed ≡ []
unfolding effect_off
off_handed moment own (Create queue visibility content) = chosen_handed (removed_lately moment own) (only_replies (Refused QueueDeletedRecently)) (takes_effect (creations own + 1) (Created (creations own + 1))) refl refl
off_handed moment own (Remove queue) = refl
off_handed moment own (Send queue group dedup body) = refl
off_handed moment own (Receive queue size visibility) = refl
off_handed moment own (Delete queue receipt) = refl
off_handed moment own (Change queue receipt visibility) = refl

-- the outcome of a fresh entry while its queue doesn't live hands out nothing
dead_handed : (outcomes : List Outcome) (e : Entry) → is_fresh e.request.client e.request.number outcomes ≡ true → live (about (queue_of e.request.ask) outcomes) ≡ None → (outcome_of outcomes e).handed ≡ []
dead_handed outcomes e fresh dead = ap (λ f. f.handed) (outcome-fresh outcomes e fresh ∙ sym (fresh-dead e (about (queue_of e.request.ask) outcomes) dead)) ∙ off_handed e.moment (about (queue_of e.request.ask) outcomes) e.request.ask

-- an entry that isn't fresh hands out nothing
idle_handed : (outcomes : List Outcome) (e : Entry) → is_fresh e.request.client e.request.number outcomes ≡ false → (outcome_of outcomes e).handed ≡ []
unfolding outcome_of
idle_handed outcomes e idle = rw idle

-- a fresh entry hands out what was sent, by whether its queue lives
sent_fresh : (entries : List Entry) (e : Entry) (sequence : ℕ) (creation : Option Outcome) → IsFresh entries e → live (about (queue_of e.request.ask) (history entries)) ≡ creation → Among sequence (handed_by entries e) → (c : Outcome) × LivesBy entries e c × ((x : Outcome) × Among x (messages (so_far entries e c)) × (x.count ≡ sequence))
sent_fresh entries e sequence None fresh dead h = absurd (subst (λ ns. Among sequence ns) (dead_handed (history entries) e fresh dead) h)
sent_fresh entries e sequence (Some creation) fresh lives h = (creation, lives, sent_live entries e creation sequence fresh lives h)

-- what is handed out was sent
pub hands_sent : HandsWhatWasSent
hands_sent entries e sequence h = elim (cases_Bool (is_fresh e.request.client e.request.number (history entries))) [
  | inl fresh ↦ (fresh, sent_fresh entries e sequence (live (about (queue_of e.request.ask) (history entries))) fresh refl h)
  | inr idle ↦ absurd (subst (λ ns. Among sequence ns) (idle_handed (history entries) e idle) h)
]

-- where one that isn't deleted is in flight, none is that is deleted
landed_kept : (deleted hidden : Bool) → (deleted ≡ false → hidden ≡ false) → (not deleted && hidden) ≡ false
landed_kept true hidden h = refl
landed_kept false hidden h = h refl

-- a message in turn has no other of its group in flight
landed : (default moment : ℕ) (xs : List Outcome) (x y : Outcome) → IsInTurn moment (remaining default xs) (message_of default xs x) → Among y (messages xs) → group_of y.entry.request.ask ≡ group_of x.entry.request.ask → (not (is_deleted y.count xs) && nat_lt moment (until default y.count xs)) ≡ false
unfolding remaining message_of
landed default moment xs x y turn at e = landed_kept (is_deleted y.count xs) (nat_lt moment (until default y.count xs)) (λ kept.
    turn.open_group (message_of default xs y) (among-image (message_of default xs) y (filter (is_kept xs) (messages xs)) (among-kept (is_kept xs) y (messages xs) (not_from_false (is_deleted y.count xs) kept) at)) (sym e))

-- none of the group of what is handed out is in flight
pub none_in_flight : NoneInFlight
none_in_flight entries e creation x y fresh lives sent h at same = let xs = so_far entries e creation in
    let found = handed-among (visibility_by creation) xs (outcome_of (history entries) e) x.count (hands-live (history entries) e creation fresh lives) h in
    let one : found.0 ≡ x = same_number (messages xs) found.0 x (numbered (queue_of e.request.ask) creation.count entries).rising found.1.sent sent found.1.number in
    ap (λ d. not (is_deleted y.count xs) && nat_lt d.moment (until (visibility_by creation) y.count xs)) (sym (entry-outcome_of (history entries) e))
    ∙ landed (visibility_by creation) (outcome_of (history entries) e).entry.moment xs found.0 y found.1.turn at (same ∙ ap (λ f. group_of f.entry.request.ask) (sym one))

-- what is handed out isn't deleted
pub none_deleted : NoneDeleted
none_deleted entries e creation sequence fresh lives deleted h = let xs = so_far entries e creation in
    let found = handed-among (visibility_by creation) xs (outcome_of (history entries) e) sequence (hands-live (history entries) e creation fresh lives) h in
    both_ways (is_deleted found.0.count xs) (not-true (is_deleted found.0.count xs) found.1.kept) (ap (λ n. is_deleted n xs) found.1.number ∙ deleted)
