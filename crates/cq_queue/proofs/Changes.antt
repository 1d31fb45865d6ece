-- A change of the timeout of a message of an incarnation.
use Rattle.std.proofs.Common.{◌≡◌, ℕ, ◌+◌, ◌*◌, ◌<◌, ◌≤◌, ◌∙◌, ◌&&◌, ap, sym, List, [], ◌∷◌, ◌++◌, map, Option, Some, None, Bool, true, false, not, cond, eqb, inl, inr, arith, subst, refl}
use Rattle.std.specs.Prelude.{nat_lt}
use Rattle.std.proofs.lemmas.Bool.{cases_Bool, both_ways, eqb-true}
use Rattle.cq_base.specs.declared.ask.Ask.TheVariants.{Change}
use Rattle.cq_base.specs.declared.ask.Entry.{Entry}
use Rattle.cq_base.specs.declared.limits.TheConstants.{SECOND, FLIGHT_LIMIT}
use Rattle.cq_base.specs.declared.reply.Reply.{Reply}
use Rattle.cq_base.specs.declared.reply.Reply.TheVariants.{Changed, Refused}
use Rattle.cq_base.specs.declared.reply.Refusal.TheVariants.{ReceiptHandleIsInvalid, MessageNotInflight, VisibilityBeyondLimit}
use Rattle.cq_base.specs.queue.Effects.{Effect, only_replies, takes_effect, message_at, fits, change_remaining, change_sent, change, effect_on}
use Rattle.cq_base.specs.queue.Outcomes.{Outcome}
use Rattle.cq_base.specs.Handle.{Handle}
use Rattle.cq_base.specs.queue.History.{outcome_with}
use Rattle.cq_base.specs.queue.Incarnations.{Incarnation, IncarnationStandsFor, coming, told_of}
use Rattle.cq_base.specs.queue.Messages.{Message, end_of, remaining}
use Rattle.cq_base.specs.queue.Receiving.{is_in_flight}
use Rattle.cq_base.proofs.Among.{found-among}
use Rattle.cq_base.proofs.OneMoreOutcome.{not_both, chosen_handed}
use Rattle.cq_messages.specs.Changes.{hidden_until}
use Rattle.cq_queue.specs.within.Kept.{is_receipt_of, with_timeout, alteration, after_change}
use Rattle.cq_queue.specs.Entries.{IsChange, StandsAfter, IsAnswered}
use Rattle.cq_queue.proofs.Deletes.{own-receipt, eqb-swapped}
use Rattle.cq_queue.proofs.Maps.{map-agrees, filter-same}
use Rattle.cq_queue.proofs.Spoken.{no_change}
use Rattle.cq_queue.proofs.Remaining.{after_outcome, touched_by, is_left_by, remaining-more, remaining-quiet}
use Rattle.cq_queue.proofs.Stands.{StandsFor, stands-told, stands-more, asked, entry-asked, clocked-next, clocked-same, used-same, sent-same, window-same, recent-same, trimmed-other}
use Rattle.cq_queue.proofs.Told.{IsTold, told-lifetime}

-- what a change does, by what is kept
alteration-kept : (kept : Incarnation) (xs : List Outcome) (moment : ℕ) (receipt : Handle) (visibility : ℕ) → StandsFor kept xs → IsTold xs → 0 < receipt.sequence
    → change kept.number moment visibility xs (remaining kept.attributes.visibility xs) receipt ≡ alteration moment visibility kept receipt
alteration-kept kept xs moment receipt visibility stands told positive =
    ap (λ b. cond b (change_sent moment visibility receipt (message_at receipt.sequence (remaining kept.attributes.visibility xs))) (only_replies (Refused ReceiptHandleIsInvalid))) (own-receipt kept xs receipt stands told positive)
    ∙ ap (λ ms. cond (is_receipt_of kept receipt) (change_sent moment visibility receipt (message_at receipt.sequence ms)) (only_replies (Refused ReceiptHandleIsInvalid))) (sym stands.messages)

-- the outcome of a change
abbrev changing_outcome : Incarnation → ℕ → Entry → List ℕ → Handle → ℕ → Effect → Outcome
changing_outcome kept moment e queue receipt visibility effect = outcome_with (asked moment e (Change queue receipt visibility)) kept.number effect

-- what a change does
coming-changed : (kept : Incarnation) (xs : List Outcome) (moment : ℕ) (e : Entry) (queue : List ℕ) (receipt : Handle) (visibility : ℕ) → StandsFor kept xs → IsTold xs → 0 < receipt.sequence
    → coming kept.number kept.attributes xs (asked moment e (Change queue receipt visibility)) ≡ changing_outcome kept moment e queue receipt visibility (alteration moment visibility kept receipt)
unfolding effect_on
coming-changed kept xs moment e queue receipt visibility stands told positive = ap (changing_outcome kept moment e queue receipt visibility) (alteration-kept kept xs moment receipt visibility stands told positive)

-- the effect is none, or one on the message of that number
abbrev IsOn : ℕ → Effect → Type 0
IsOn sequence effect = effect.effective ≡ true → effect ≡ takes_effect sequence Changed

-- no effect
idle_on : (sequence : ℕ) (effect : Effect) → effect.effective ≡ false → IsOn sequence effect
idle_on sequence effect idle done = absurd (both_ways effect.effective idle done)

-- one of two
chosen_on : (sequence : ℕ) (b : Bool) (x y : Effect) → IsOn sequence x → IsOn sequence y → IsOn sequence (cond b x y)
chosen_on sequence true x y first second = first
chosen_on sequence false x y first second = second

-- a change with a receipt of a message that isn't deleted
remaining_on : (sequence moment visibility : ℕ) (receipt : Handle) (x : Message) → x.sequence ≡ sequence → IsOn sequence (change_remaining moment visibility receipt x)
remaining_on sequence moment visibility receipt x same =
    let beyond = nat_lt (x.handed_at + FLIGHT_LIMIT) (moment + SECOND * visibility) in
    let last = cond beyond (only_replies (Refused VisibilityBeyondLimit)) (takes_effect x.sequence Changed) in
    let landed = cond (not (is_in_flight moment x)) (only_replies (Refused MessageNotInflight)) last in
    chosen_on sequence (not (fits receipt x)) (only_replies (Refused ReceiptHandleIsInvalid)) landed (idle_on sequence _ refl)
    (chosen_on sequence (not (is_in_flight moment x)) (only_replies (Refused MessageNotInflight)) last (idle_on sequence _ refl)
    (chosen_on sequence beyond (only_replies (Refused VisibilityBeyondLimit)) (takes_effect x.sequence Changed) (idle_on sequence _ refl) (λ done. ap (λ n. takes_effect n Changed) same)))

-- a change with a receipt of a message that was sent
sent_on : (moment visibility : ℕ) (receipt : Handle) (ms : List Message) (found : Option Message) → message_at receipt.sequence ms ≡ found → IsOn receipt.sequence (change_sent moment visibility receipt found)
sent_on moment visibility receipt ms None h = idle_on receipt.sequence _ refl
sent_on moment visibility receipt ms (Some x) h = remaining_on receipt.sequence moment visibility receipt x (eqb-true x.sequence receipt.sequence (found-among (λ y. eqb y.sequence receipt.sequence) x ms h).1)

-- a change with any receipt
alteration_on : (kept : Incarnation) (moment visibility : ℕ) (receipt : Handle) → IsOn receipt.sequence (alteration moment visibility kept receipt)
alteration_on kept moment visibility receipt =
    let found = message_at receipt.sequence kept.messages in
    chosen_on receipt.sequence (is_receipt_of kept receipt) (change_sent moment visibility receipt found) (only_replies (Refused ReceiptHandleIsInvalid)) (sent_on moment visibility receipt kept.messages found refl) (idle_on receipt.sequence _ refl)

-- a message whose timeout is changed, or isn't
chosen_timeout : (own : ℕ) (f : Outcome) (b : Bool) (m : Message) → touched_by own f false b m ≡ cond b (record m { until = end_of own f }) m
chosen_timeout own f true m = refl
chosen_timeout own f false m = refl

-- what is kept after a change that takes effect
stands_timeout : (kept : Incarnation) (xs : List Outcome) (moment : ℕ) (e : Entry) (queue : List ℕ) (receipt : Handle) (visibility : ℕ) → StandsFor kept xs → kept.last ≤ moment
    → StandsFor (with_timeout moment receipt.sequence visibility kept) (xs ++ changing_outcome kept moment e queue receipt visibility (takes_effect receipt.sequence Changed) ∷ [])
stands_timeout kept xs moment e queue receipt visibility stands before =
    let f = changing_outcome kept moment e queue receipt visibility (takes_effect receipt.sequence Changed) in
    let own = kept.attributes.visibility in
    let hide = hidden_until receipt.sequence (moment + SECOND * visibility) in
    record {
      sent = stands.sent ∙ sent-same xs f refl;
      messages = ap (map hide) stands.messages
          ∙ map-agrees hide (after_outcome own f) (remaining own xs) (λ m. ap (λ b. cond b (record m { until = moment + SECOND * visibility }) m) (eqb-swapped m.sequence receipt.sequence) ∙ sym (chosen_timeout own f (eqb receipt.sequence m.sequence) m))
          ∙ ap (map (after_outcome own f)) (sym (filter-same (is_left_by f) (remaining own xs) (λ m. refl)))
          ∙ sym (remaining-more own xs f refl);
      window = window-same kept xs f moment stands refl before;
      recent = recent-same kept xs f moment stands refl before;
      trimmed = trimmed-other kept xs f refl;
      last = clocked-next xs f refl;
      used = stands.used ∙ used-same xs f refl;
    }

-- what is kept after another change
stands_quiet : (kept : Incarnation) (xs : List Outcome) (moment : ℕ) (e : Entry) (queue : List ℕ) (receipt : Handle) (visibility : ℕ) (effect : Effect) → StandsFor kept xs → effect.effective ≡ false → effect.handed ≡ []
    → StandsFor kept (xs ++ changing_outcome kept moment e queue receipt visibility effect ∷ [])
stands_quiet kept xs moment e queue receipt visibility effect stands idle handed =
    let f = changing_outcome kept moment e queue receipt visibility effect in
    let rejects = not_both effect.effective in
    record {
      sent = stands.sent ∙ sent-same xs f rejects;
      messages = stands.messages ∙ sym (remaining-quiet kept.attributes.visibility xs f (record { rejects = rejects; handed = handed; changes = λ n. ap (λ b. (b && true) && eqb effect.count n) idle; deletes = λ n. no_change effect.effective (eqb effect.count n) }));
      window = window-same kept xs f kept.last stands rejects (omega arith);
      recent = recent-same kept xs f kept.last stands rejects (omega arith);
      trimmed = trimmed-other kept xs f refl;
      last = stands.last ∙ clocked-same xs f (ap (λ b. b && true) idle);
      used = stands.used ∙ used-same xs f refl;
    }

-- a change hands out nothing
changed_handed : (moment visibility : ℕ) (receipt : Handle) (found : Option Message) → (change_sent moment visibility receipt found).handed ≡ []
changed_handed moment visibility receipt None = refl
changed_handed moment visibility receipt (Some x) =
    let beyond = nat_lt (x.handed_at + FLIGHT_LIMIT) (moment + SECOND * visibility) in
    let last = cond beyond (only_replies (Refused VisibilityBeyondLimit)) (takes_effect x.sequence Changed) in
    let landed = cond (not (is_in_flight moment x)) (only_replies (Refused MessageNotInflight)) last in
    chosen_handed (not (fits receipt x)) (only_replies (Refused ReceiptHandleIsInvalid)) landed refl
    (chosen_handed (not (is_in_flight moment x)) (only_replies (Refused MessageNotInflight)) last refl
    (chosen_handed beyond (only_replies (Refused VisibilityBeyondLimit)) (takes_effect x.sequence Changed) refl refl))

-- what is kept after a change
stands_changed : (kept : Incarnation) (xs : List Outcome) (moment : ℕ) (e : Entry) (queue : List ℕ) (receipt : Handle) (visibility : ℕ) → StandsFor kept xs → kept.last ≤ moment
    → StandsFor (after_change moment visibility receipt kept) (xs ++ changing_outcome kept moment e queue receipt visibility (alteration moment visibility kept receipt) ∷ [])
stands_changed kept xs moment e queue receipt visibility stands before =
    let effect = alteration moment visibility kept receipt in
    let now = with_timeout moment receipt.sequence visibility kept in
    elim (cases_Bool effect.effective) [
      | inl done ↦
          let made = alteration_on kept moment visibility receipt done in
          subst (λ b. StandsFor (cond b now kept) (xs ++ changing_outcome kept moment e queue receipt visibility effect ∷ [])) (sym done)
          (subst (λ x. StandsFor now (xs ++ changing_outcome kept moment e queue receipt visibility x ∷ [])) (sym made) (stands_timeout kept xs moment e queue receipt visibility stands before))
      | inr idle ↦
          let found = message_at receipt.sequence kept.messages in
          let handed = chosen_handed (is_receipt_of kept receipt) (change_sent moment visibility receipt found) (only_replies (Refused ReceiptHandleIsInvalid)) (changed_handed moment visibility receipt found) refl in
          subst (λ b. StandsFor (cond b now kept) (xs ++ changing_outcome kept moment e queue receipt visibility effect ∷ [])) (sym idle)
          (stands_quiet kept xs moment e queue receipt visibility effect stands idle handed)
    ]

-- with the entry itself
changed_more : (done : Bool) (moment sequence visibility : ℕ) (kept : Incarnation) (entries : List Entry) (e : Entry)
    → StandsFor (cond done (with_timeout moment sequence visibility kept) kept) (told_of kept entries ++ coming kept.number kept.attributes (told_of kept entries) e ∷ [])
    → IncarnationStandsFor (cond done (with_timeout moment sequence visibility kept) kept) (entries ++ e ∷ [])
changed_more true moment sequence visibility kept entries e h = stands-more (with_timeout moment sequence visibility kept) entries e h
changed_more false moment sequence visibility kept entries e h = stands-more kept entries e h

-- a change
pub stands-changed : (kept : Incarnation) (moment : ℕ) (receipt : Handle) (visibility : ℕ) → 0 < receipt.sequence → kept.last ≤ moment → StandsAfter (IsChange moment receipt visibility) kept (after_change moment visibility receipt kept)
stands-changed kept moment receipt visibility positive before entries e stands is =
    let xs = told_of kept entries in
    let for = stands-told kept entries stands in
    let told = told-lifetime kept.number kept.attributes entries in
    changed_more (alteration moment visibility kept receipt).effective moment receipt.sequence visibility kept entries e
    (subst (λ f. StandsFor (after_change moment visibility receipt kept) (xs ++ f ∷ [])) (sym (ap (coming kept.number kept.attributes xs) (entry-asked e moment _ is.at_moment is.asks) ∙ coming-changed kept xs moment e is.queue receipt visibility for told positive))
    (stands_changed kept xs moment e is.queue receipt visibility for before))

-- its reply
pub reply-changed : (kept : Incarnation) (moment : ℕ) (receipt : Handle) (visibility : ℕ) → 0 < receipt.sequence → IsAnswered (IsChange moment receipt visibility) kept (alteration moment visibility kept receipt).reply
reply-changed kept moment receipt visibility positive entries e stands is =
    let xs = told_of kept entries in
    let told = told-lifetime kept.number kept.attributes entries in
    ap (λ f. f.reply) (ap (coming kept.number kept.attributes xs) (entry-asked e moment _ is.at_moment is.asks) ∙ coming-changed kept xs moment e is.queue receipt visibility (stands-told kept entries stands) told positive)

-- a change that takes effect
pub stands-changing : (kept : Incarnation) (moment : ℕ) (receipt : Handle) (visibility : ℕ) → 0 < receipt.sequence → kept.last ≤ moment → true ≡ (alteration moment visibility kept receipt).effective → StandsAfter (IsChange moment receipt visibility) kept (with_timeout moment receipt.sequence visibility kept)
stands-changing kept moment receipt visibility positive before done = subst (λ b. StandsAfter (IsChange moment receipt visibility) kept (cond b (with_timeout moment receipt.sequence visibility kept) kept)) (sym done) (stands-changed kept moment receipt visibility positive before)

-- a change that doesn't
pub stands-idle : (kept : Incarnation) (moment : ℕ) (receipt : Handle) (visibility : ℕ) → 0 < receipt.sequence → kept.last ≤ moment → false ≡ (alteration moment visibility kept receipt).effective → StandsAfter (IsChange moment receipt visibility) kept kept
stands-idle kept moment receipt visibility positive before idle = subst (λ b. StandsAfter (IsChange moment receipt visibility) kept (cond b (with_timeout moment receipt.sequence visibility kept) kept)) (sym idle) (stands-changed kept moment receipt visibility positive before)

-- the reply to a change, by what it is
pub reply-changed_as : (kept : Incarnation) (moment : ℕ) (receipt : Handle) (visibility : ℕ) (reply : Reply) → 0 < receipt.sequence → reply ≡ (alteration moment visibility kept receipt).reply → IsAnswered (IsChange moment receipt visibility) kept reply
reply-changed_as kept moment receipt visibility reply positive same = subst (λ r. IsAnswered (IsChange moment receipt visibility) kept r) (sym same) (reply-changed kept moment receipt visibility positive)
