-- What one more outcome on an incarnation may be.
use Rattle.std.proofs.Common.{◌≡◌, ℕ, ◌+◌, ◌*◌, ◌&&◌, List, [], length, map, Option, Some, None, Bool, true, false, not, cond, eqb, refl}
use Rattle.std.specs.Prelude.{nat_lt}
use Rattle.std.proofs.lemmas.Bool.{and_parts, both_ways, false≢true}
use Rattle.cq_base.specs.declared.ask.Ask.{Ask}
use Rattle.cq_base.specs.declared.ask.Ask.TheVariants.{Create, Remove, Send, Receive, Delete, Change}
use Rattle.cq_base.specs.declared.ask.Entry.{Entry}
use Rattle.cq_base.specs.declared.limits.TheConstants.{SECOND, FLIGHT_LIMIT}
use Rattle.cq_base.specs.declared.reply.Reply.TheVariants.{Created, Deleted, Changed, Refused}
use Rattle.cq_base.specs.declared.reply.Refusal.TheVariants.{QueueNameExists, QueueDeletedRecently, ReceiptHandleIsInvalid, MessageNotInflight, VisibilityBeyondLimit, MissingDedupId}
use Rattle.cq_base.specs.queue.Asks.{Attributes, are_same, dedup_or_made, is_given_or_made, dedup_of}
use Rattle.cq_base.specs.queue.Effects.{Effect, only_replies, takes_effect, create_again, send, send_if, message_at, is_own, fits, delete_sent, delete, change_sent, change, create, effect_on, effect_off}
use Rattle.cq_base.specs.queue.Outcomes.{Outcome}
use Rattle.cq_base.specs.Handle.{Handle}
use Rattle.cq_base.specs.queue.History.{outcome_with}
use Rattle.cq_base.specs.queue.Lifetimes.{creations, removed_lately}
use Rattle.cq_base.specs.queue.Messages.{Message, messages, duplicate, remaining, is_accepted, deletes_it}
use Rattle.cq_base.specs.queue.Receiving.{is_in_flight, to_hand}
use Rattle.cq_base.proofs.Deletes.{is_delete_done, WasHanded, deleted_handed_out}

-- The outcome of an accepted send, after these on its incarnation: it has the next sequence number, its
-- deduplication id doesn't count, and it hands out nothing.
pub record IsNext (xs : List Outcome) (f : Outcome) : Type 0 where
  pub number : f.count ≡ length (messages xs) + 1
  pub new : duplicate (dedup_of f.entry.request.ask) f.entry.moment xs ≡ None
  pub handed : f.handed ≡ []

-- The outcome hands out the first so many messages in their turn, after these on its incarnation; none, if
-- it isn't of a receive.
pub record IsHanding (default : ℕ) (xs : List Outcome) (f : Outcome) : Type 0 where
  pub size : ℕ
  pub handed : f.handed ≡ map (λ m. m.sequence) (to_hand size f.entry.moment (remaining default xs))

-- what an outcome may be, after these on its incarnation; a message that it deletes was handed out
pub record IsStep (xs : List Outcome) (f : Outcome) : Type 0 where
  pub accepts : is_accepted f ≡ true → IsNext xs f
  pub visibility : ℕ
  pub hands : IsHanding visibility xs f
  pub deletes : (sequence : ℕ) → deletes_it sequence f ≡ true → WasHanded sequence xs

-- the entry of an ask
abbrev pub asked : ℕ → ℕ → ℕ → Ask → Entry
asked moment client number ask = record { moment = moment; request = record { client = client; number = number; ask = ask } }

-- an outcome that hands out nothing, as the first 0 messages
no_handing : (default : ℕ) (xs : List Outcome) (f : Outcome) → f.handed ≡ [] → IsHanding default xs f
unfolding to_hand
no_handing default xs f h = record { size = 0; handed = h }

-- what two tests have to be, that one of them fails
pub not_both : (b : Bool) → (b && false) ≡ false
not_both true = refl
not_both false = refl

-- what is no delete deletes nothing
no_delete : (b c : Bool) → ((b && false) && c) ≡ true → ⊥
no_delete b c h = both_ways _ (not_both b) (and_parts (b && false) c h).0

-- of two effects that hand out nothing, neither does the chosen one
pub chosen_handed : (b : Bool) (x y : Effect) → x.handed ≡ [] → y.handed ≡ [] → (cond b x y).handed ≡ []
chosen_handed true x y first second = first
chosen_handed false x y first second = second

-- a send hands out nothing
sent_handed : (sequence : ℕ) (earlier : Option Outcome) → (send sequence earlier).handed ≡ []
sent_handed sequence None = refl
sent_handed sequence (Some y) = refl

-- neither does a delete
deleted_handed : (receipt : Handle) (found : Option Message) → (delete_sent receipt found).handed ≡ []
deleted_handed receipt None = refl
deleted_handed receipt (Some x) = chosen_handed (nat_lt x.handings receipt.handing) (only_replies (Refused ReceiptHandleIsInvalid)) (cond (fits receipt x) (takes_effect x.sequence (Deleted true)) (only_replies (Deleted false))) refl
    (chosen_handed (fits receipt x) (takes_effect x.sequence (Deleted true)) (only_replies (Deleted false)) refl refl)

-- nor a change
changed_handed : (moment visibility : ℕ) (receipt : Handle) (found : Option Message) → (change_sent moment visibility receipt found).handed ≡ []
changed_handed moment visibility receipt None = refl
changed_handed moment visibility receipt (Some x) =
    let beyond = nat_lt (x.handed_at + FLIGHT_LIMIT) (moment + SECOND * visibility) in
    let last = cond beyond (only_replies (Refused VisibilityBeyondLimit)) (takes_effect x.sequence Changed) in
    let landed = cond (not (is_in_flight moment x)) (only_replies (Refused MessageNotInflight)) last in
    chosen_handed (not (fits receipt x)) (only_replies (Refused ReceiptHandleIsInvalid)) landed refl
    (chosen_handed (not (is_in_flight moment x)) (only_replies (Refused MessageNotInflight)) last refl
    (chosen_handed beyond (only_replies (Refused VisibilityBeyondLimit)) (takes_effect x.sequence Changed) refl refl))

-- what the outcome of a fresh entry hands out while its queue lives
pub hands-on : (incarnation : ℕ) (own : Attributes) (xs : List Outcome) (moment client number : ℕ) (ask : Ask) → IsHanding own.visibility xs (outcome_with (asked moment client number ask) incarnation (effect_on incarnation own moment xs ask))
unfolding effect_on
hands-on incarnation own xs moment client number (Create queue visibility content) = no_handing own.visibility xs _ (chosen_handed (are_same (record { visibility = visibility; content = content }) own) (only_replies (Created incarnation)) (only_replies (Refused QueueNameExists)) refl refl)
hands-on incarnation own xs moment client number (Remove queue) = no_handing own.visibility xs _ refl
hands-on incarnation own xs moment client number (Send queue group dedup body) = no_handing own.visibility xs _ (chosen_handed (is_given_or_made own.content dedup) (send (length (messages xs) + 1) (duplicate (dedup_or_made body dedup) moment xs)) (only_replies (Refused MissingDedupId)) (sent_handed (length (messages xs) + 1) (duplicate (dedup_or_made body dedup) moment xs)) refl)
hands-on incarnation own xs moment client number (Receive queue size visibility) = record { size = size; handed = refl }
hands-on incarnation own xs moment client number (Delete queue receipt) = no_handing own.visibility xs _ (chosen_handed (is_own incarnation xs receipt) (delete_sent receipt (message_at receipt.sequence (remaining own.visibility xs))) (only_replies (Refused ReceiptHandleIsInvalid)) (deleted_handed receipt (message_at receipt.sequence (remaining own.visibility xs))) refl)
hands-on incarnation own xs moment client number (Change queue receipt visibility) = no_handing own.visibility xs _ (chosen_handed (is_own incarnation xs receipt) (change_sent moment visibility receipt (message_at receipt.sequence (remaining own.visibility xs))) (only_replies (Refused ReceiptHandleIsInvalid)) (changed_handed moment visibility receipt (message_at receipt.sequence (remaining own.visibility xs))) refl)

-- a send is accepted only if it repeats none
accepted_new : (e : Entry) (n : ℕ) (earlier : Option Outcome) (xs : List Outcome) → duplicate (dedup_of e.request.ask) e.moment xs ≡ earlier → is_accepted (outcome_with e n (send (length (messages xs) + 1) earlier)) ≡ true → IsNext xs (outcome_with e n (send (length (messages xs) + 1) earlier))
accepted_new e n None xs new accepted = record { number = refl; new = new; handed = refl }
accepted_new e n (Some y) xs old accepted = absurd (both_ways _ refl accepted)

-- and only if it has a deduplication id
accepted_if : (has : Bool) (e : Entry) (n : ℕ) (earlier : Option Outcome) (xs : List Outcome) → duplicate (dedup_of e.request.ask) e.moment xs ≡ earlier → is_accepted (outcome_with e n (send_if has (length (messages xs) + 1) earlier)) ≡ true → IsNext xs (outcome_with e n (send_if has (length (messages xs) + 1) earlier))
accepted_if true e n earlier xs same accepted = accepted_new e n earlier xs same accepted
accepted_if false e n earlier xs same accepted = absurd (both_ways _ refl accepted)

-- what is no send isn't accepted
no_accept : {X : Type 0} (b : Bool) → (b && false) ≡ true → X
no_accept b h = absurd (both_ways _ (not_both b) h)

-- what the outcome of a fresh entry accepts while its queue lives
accepts_on : (incarnation : ℕ) (own : Attributes) (xs : List Outcome) (moment client number : ℕ) (ask : Ask) → is_accepted (outcome_with (asked moment client number ask) incarnation (effect_on incarnation own moment xs ask)) ≡ true → IsNext xs (outcome_with (asked moment client number ask) incarnation (effect_on incarnation own moment xs ask))
unfolding effect_on
accepts_on incarnation own xs moment client number (Create queue visibility content) h = no_accept (create_again incarnation own (record { visibility = visibility; content = content })).effective h
accepts_on incarnation own xs moment client number (Remove queue) h = no_accept true h
accepts_on incarnation own xs moment client number (Send queue group dedup body) h = accepted_if (is_given_or_made own.content dedup) (asked moment client number (Send queue group dedup body)) incarnation (duplicate (dedup_or_made body dedup) moment xs) xs refl h
accepts_on incarnation own xs moment client number (Receive queue size visibility) h = no_accept false h
accepts_on incarnation own xs moment client number (Delete queue receipt) h = no_accept (delete incarnation xs (remaining own.visibility xs) receipt).effective h
accepts_on incarnation own xs moment client number (Change queue receipt visibility) h = no_accept (change incarnation moment visibility xs (remaining own.visibility xs) receipt).effective h

-- what the outcome of a fresh entry deletes while its queue lives was handed out
deletes_on : (incarnation : ℕ) (own : Attributes) (xs : List Outcome) (moment client number : ℕ) (ask : Ask) (sequence : ℕ) → deletes_it sequence (outcome_with (asked moment client number ask) incarnation (effect_on incarnation own moment xs ask)) ≡ true → WasHanded sequence xs
unfolding effect_on
deletes_on incarnation own xs moment client number (Create queue visibility content) sequence h none = no_delete (create_again incarnation own (record { visibility = visibility; content = content })).effective _ h
deletes_on incarnation own xs moment client number (Remove queue) sequence h none = false≢true h
deletes_on incarnation own xs moment client number (Send queue group dedup body) sequence h none = no_delete (send_if (is_given_or_made own.content dedup) (length (messages xs) + 1) (duplicate (dedup_or_made body dedup) moment xs)).effective _ h
deletes_on incarnation own xs moment client number (Receive queue size visibility) sequence h none = false≢true h
deletes_on incarnation own xs moment client number (Delete queue receipt) sequence h none = deleted_handed_out incarnation own.visibility xs receipt sequence h none
deletes_on incarnation own xs moment client number (Change queue receipt visibility) sequence h none = no_delete (change incarnation moment visibility xs (remaining own.visibility xs) receipt).effective _ h

-- the outcome of a fresh entry while its queue lives
pub step-on : (incarnation : ℕ) (own : Attributes) (xs : List Outcome) (moment client number : ℕ) (ask : Ask) → IsStep xs (outcome_with (asked moment client number ask) incarnation (effect_on incarnation own moment xs ask))
step-on incarnation own xs moment client number ask = record { accepts = accepts_on incarnation own xs moment client number ask; visibility = own.visibility; hands = hands-on incarnation own xs moment client number ask; deletes = deletes_on incarnation own xs moment client number ask }

-- an outcome that neither accepts nor hands out nor deletes
no_step : (xs : List Outcome) (f : Outcome) → is_accepted f ≡ false → f.handed ≡ [] → is_delete_done f ≡ false → IsStep xs f
no_step xs f rejected h keeps = record { accepts = λ accepted. absurd (both_ways _ rejected accepted); visibility = 0; hands = no_handing 0 xs f h; deletes = λ sequence deletes none. both_ways _ keeps (and_parts (is_delete_done f) (eqb f.count sequence) deletes).0 }

-- the outcome of a fresh entry while its queue doesn't live
pub step-off : (own xs : List Outcome) (n moment client number : ℕ) (ask : Ask) → IsStep xs (outcome_with (asked moment client number ask) n (effect_off moment own ask))
unfolding effect_off
step-off own xs n moment client number (Create queue visibility content) = no_step xs _ (not_both (create (removed_lately moment own) (creations own + 1)).effective) (chosen_handed (removed_lately moment own) (only_replies (Refused QueueDeletedRecently)) (takes_effect (creations own + 1) (Created (creations own + 1))) refl refl) (not_both (create (removed_lately moment own) (creations own + 1)).effective)
step-off own xs n moment client number (Remove queue) = no_step xs _ refl refl refl
step-off own xs n moment client number (Send queue group dedup body) = no_step xs _ refl refl refl
step-off own xs n moment client number (Receive queue size visibility) = no_step xs _ refl refl refl
step-off own xs n moment client number (Delete queue receipt) = no_step xs _ refl refl refl
step-off own xs n moment client number (Change queue receipt visibility) = no_step xs _ refl refl refl
