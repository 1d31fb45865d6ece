-- Entries hand out, delete and change only messages that were sent.
use Rattle.std.proofs.Common.{◌≡◌, ℕ, ◌+◌, ◌*◌, ◌<◌, ◌≤◌, ◌∙◌, ◌&&◌, ap, List, [], ◌∷◌, length, Option, Some, None, Bool, true, false, not, cond, eqb, inl, inr, arith, refl}
use Rattle.std.specs.Prelude.{nat_lt}
use Rattle.std.specs.List.{filter, list_any}
use Rattle.cq_base.specs.declared.ask.Ask.{Ask}
use Rattle.cq_base.specs.declared.ask.Ask.TheVariants.{Create, Remove, Send, Receive, Delete, Change}
use Rattle.cq_base.specs.declared.limits.TheConstants.{SECOND, FLIGHT_LIMIT}
use Rattle.cq_base.specs.declared.reply.Reply.TheVariants.{Changed, Refused}
use Rattle.cq_base.specs.declared.reply.Refusal.TheVariants.{ReceiptHandleIsInvalid, MessageNotInflight, VisibilityBeyondLimit}
use Rattle.cq_base.specs.queue.Asks.{Attributes, dedup_or_made, is_given_or_made}
use Rattle.cq_base.specs.queue.Effects.{Effect, only_replies, takes_effect, create_again, send_if, message_at, is_own, fits, delete, change_remaining, change_sent, effect_on}
use Rattle.cq_base.specs.queue.Outcomes.{Outcome}
use Rattle.cq_base.specs.Handle.{Handle}
use Rattle.cq_base.specs.queue.History.{outcome_with}
use Rattle.cq_base.specs.queue.Messages.{Message, messages, duplicate, hands_it, changes_it, is_kept, message_of, remaining}
use Rattle.cq_base.specs.queue.Receiving.{is_in_flight, delivery_order, to_hand, leads, group_with}
use Rattle.cq_base.specs.Relations.{Among}
use Rattle.cq_base.proofs.Among.{among-map, among-filter, among-flat_map, among-take, found-among}
use Rattle.cq_base.proofs.Numbers.{IsNumbered}
use Rattle.cq_base.proofs.OneMoreOutcome.{IsHanding, not_both}

-- the number of a message that isn't deleted is among those of the sends
pub remaining-within : (own : ℕ) (xs : List Outcome) (m : Message) → IsNumbered (messages xs) → Among m (remaining own xs) → m.sequence ≤ length (messages xs)
unfolding remaining message_of
remaining-within own xs m numbered at =
    let made = among-map (message_of own xs) m (filter (is_kept xs) (messages xs)) at in
    let sent = among-filter (is_kept xs) made.0 (messages xs) made.1 in
    let within = numbered.within made.0 sent.0 in
    let same : m.sequence ≡ made.0.count = ap (λ y. y.sequence) made.2 in
    omega arith

-- what is handed out is among the messages
pub handed-among : (size moment : ℕ) (ms : List Message) (m : Message) → Among m (to_hand size moment ms) → Among m ms
unfolding to_hand delivery_order
handed-among size moment ms m at =
    let turn = among-take size m (delivery_order moment ms) at in
    let group = among-flat_map (group_with ms) m (filter (leads moment ms) ms) turn in
    (among-filter _ m ms group.2).0

-- of numbers that all are another one, none is this one
none_equal : (n : ℕ) (ns : List ℕ) → ((k : ℕ) → Among k ns → k < n) → list_any (λ k. eqb k n) ns ≡ false
none_equal n [] below = refl
none_equal n (k ∷ ns) below = let less = below k (inl refl) in let first : eqb k n ≡ false = grind arith in rw first (none_equal n ns (λ j at. below j (inr at)))

-- a number above those of the sends is handed out by none
pub none-handed : (n own : ℕ) (xs : List Outcome) (f : Outcome) → IsNumbered (messages xs) → length (messages xs) < n → IsHanding own xs f → hands_it n f ≡ false
none-handed n own xs f numbered above h =
    ap (λ ns. list_any (λ k. eqb k n) ns) h.handed ∙ none_equal n _ (λ k at.
    let made = among-map (λ m. m.sequence) k (to_hand h.size f.entry.moment (remaining own xs)) at in
    let within = remaining-within own xs made.0 numbered (handed-among h.size f.entry.moment (remaining own xs) made.0 made.1) in
    let same : k ≡ made.0.sequence = made.2 in
    omega arith)

-- the effect isn't one on the message of that number
abbrev IsNotOn : ℕ → Effect → Type 0
IsNotOn n effect = ((effect.effective && true) && eqb effect.count n) ≡ false

-- neither is the chosen one of two such
chosen_not : (n : ℕ) (b : Bool) (x y : Effect) → IsNotOn n x → IsNotOn n y → IsNotOn n (cond b x y)
chosen_not n true x y first second = first
chosen_not n false x y first second = second

-- a change of a message is one on that message
changed_not : (n moment visibility : ℕ) (receipt : Handle) (x : Message) → x.sequence < n → IsNotOn n (change_remaining moment visibility receipt x)
changed_not n moment visibility receipt x less =
    let other : eqb x.sequence n ≡ false = grind arith in
    let beyond = nat_lt (x.handed_at + FLIGHT_LIMIT) (moment + SECOND * visibility) in
    let last = cond beyond (only_replies (Refused VisibilityBeyondLimit)) (takes_effect x.sequence Changed) in
    let landed = cond (not (is_in_flight moment x)) (only_replies (Refused MessageNotInflight)) last in
    chosen_not n (not (fits receipt x)) (only_replies (Refused ReceiptHandleIsInvalid)) landed refl
    (chosen_not n (not (is_in_flight moment x)) (only_replies (Refused MessageNotInflight)) last refl
    (chosen_not n beyond (only_replies (Refused VisibilityBeyondLimit)) (takes_effect x.sequence Changed) refl other))

-- the same by what was found of the message
change_not_found : (n moment visibility : ℕ) (receipt : Handle) (ms : List Message) (found : Option Message) → message_at receipt.sequence ms ≡ found → ((m : Message) → Among m ms → m.sequence < n) → IsNotOn n (change_sent moment visibility receipt found)
change_not_found n moment visibility receipt ms None e below = refl
change_not_found n moment visibility receipt ms (Some x) e below = changed_not n moment visibility receipt x (below x (found-among (λ y. eqb y.sequence receipt.sequence) x ms e).0)

-- what is no change changes nothing
pub no_change : (b c : Bool) → ((b && false) && c) ≡ false
no_change b c = ap (λ a. a && c) (not_both b)

-- a number above those of the sends is changed by none
pub changes-on : (n incarnation : ℕ) (own : Attributes) (xs : List Outcome) (moment client number : ℕ) (ask : Ask) → IsNumbered (messages xs) → length (messages xs) < n → changes_it n (outcome_with (record { moment = moment; request = record { client = client; number = number; ask = ask } }) incarnation (effect_on incarnation own moment xs ask)) ≡ false
unfolding effect_on
changes-on n incarnation own xs moment client number (Create queue visibility content) numbered above = no_change (create_again incarnation own (record { visibility = visibility; content = content })).effective _
changes-on n incarnation own xs moment client number (Remove queue) numbered above = refl
changes-on n incarnation own xs moment client number (Send queue group dedup body) numbered above = no_change (send_if (is_given_or_made own.content dedup) (length (messages xs) + 1) (duplicate (dedup_or_made body dedup) moment xs)).effective _
changes-on n incarnation own xs moment client number (Receive queue size visibility) numbered above = refl
changes-on n incarnation own xs moment client number (Delete queue receipt) numbered above = no_change (delete incarnation xs (remaining own.visibility xs) receipt).effective _
changes-on n incarnation own xs moment client number (Change queue receipt visibility) numbered above =
    chosen_not n (is_own incarnation xs receipt) (change_sent moment visibility receipt (message_at receipt.sequence (remaining own.visibility xs))) (only_replies (Refused ReceiptHandleIsInvalid))
    (change_not_found n moment visibility receipt (remaining own.visibility xs) (message_at receipt.sequence (remaining own.visibility xs)) refl (λ m at. let within = remaining-within own.visibility xs m numbered at in omega arith)) refl
