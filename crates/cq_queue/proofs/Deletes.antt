-- A delete of a message of an incarnation.
use Rattle.std.proofs.Common.{◌≡◌, ℕ, ◌<◌, ◌∙◌, ◌&&◌, ap, sym, List, [], ◌∷◌, ◌++◌, Option, Some, None, Bool, true, false, not, cond, eqb, inl, inr, arith, subst, refl}
use Rattle.std.specs.Prelude.{nat_lt, nat_le}
use Rattle.std.specs.List.{filter}
use Rattle.std.proofs.lemmas.List.Elements.{filter_agree}
use Rattle.std.proofs.lemmas.Bool.{cases_Bool}
use Rattle.std.proofs.lemmas.Bool.Decides.{nat_tests}
use Rattle.cq_base.specs.declared.ask.Ask.TheVariants.{Delete}
use Rattle.cq_base.specs.declared.ask.Entry.{Entry}
use Rattle.cq_base.specs.declared.reply.Reply.{Reply}
use Rattle.cq_base.specs.declared.reply.Reply.TheVariants.{Deleted, Refused}
use Rattle.cq_base.specs.declared.reply.Refusal.TheVariants.{ReceiptHandleIsInvalid}
use Rattle.cq_base.specs.queue.Effects.{Effect, only_replies, takes_effect, message_at, is_own, fits, delete_sent, delete, effect_on}
use Rattle.cq_base.specs.queue.Outcomes.{Outcome}
use Rattle.cq_base.specs.Handle.{Handle}
use Rattle.cq_base.specs.queue.History.{outcome_with}
use Rattle.cq_base.specs.queue.Incarnations.{Incarnation, IncarnationStandsFor, coming, told_of}
use Rattle.cq_base.specs.queue.Messages.{Message, remaining}
use Rattle.cq_base.proofs.Deletes.{deleting}
use Rattle.cq_base.proofs.OneMoreOutcome.{not_both, chosen_handed}
use Rattle.cq_messages.specs.Changes.{is_other}
use Rattle.cq_queue.specs.within.Kept.{is_receipt_of, without_message, deletion, after_delete}
use Rattle.cq_queue.specs.Entries.{IsDelete, StandsAfter, IsAnswered}
use Rattle.cq_queue.proofs.Maps.{map-same}
use Rattle.cq_queue.proofs.Spoken.{no_change}
use Rattle.cq_queue.proofs.Remaining.{after_outcome, is_left_by, remaining-more, remaining-quiet}
use Rattle.cq_queue.proofs.Stands.{StandsFor, stands-told, stands-more, asked, entry-asked, clocked-same, used-same, sent-same, window-same, recent-same, trimmed-other}
use Rattle.cq_queue.proofs.Told.{IsTold, told-lifetime}

-- a receipt is of a message that was sent, by the count of those
pub own-receipt : (kept : Incarnation) (xs : List Outcome) (receipt : Handle) → StandsFor kept xs → IsTold xs → 0 < receipt.sequence → is_own kept.number xs receipt ≡ is_receipt_of kept receipt
own-receipt kept xs receipt stands told positive = ap (λ b. eqb receipt.incarnation kept.number && b) (told.sent receipt.sequence positive ∙ ap (nat_le receipt.sequence) (sym stands.sent))

-- what a delete does, by what is kept
deletion-kept : (kept : Incarnation) (xs : List Outcome) (receipt : Handle) → StandsFor kept xs → IsTold xs → 0 < receipt.sequence → delete kept.number xs (remaining kept.attributes.visibility xs) receipt ≡ deletion kept receipt
deletion-kept kept xs receipt stands told positive =
    ap (λ b. cond b (delete_sent receipt (message_at receipt.sequence (remaining kept.attributes.visibility xs))) (only_replies (Refused ReceiptHandleIsInvalid))) (own-receipt kept xs receipt stands told positive)
    ∙ ap (λ ms. cond (is_receipt_of kept receipt) (delete_sent receipt (message_at receipt.sequence ms)) (only_replies (Refused ReceiptHandleIsInvalid))) (sym stands.messages)

-- the outcome of a delete
abbrev deleting_outcome : Incarnation → Entry → List ℕ → Handle → Effect → Outcome
deleting_outcome kept e queue receipt effect = outcome_with (asked e.moment e (Delete queue receipt)) kept.number effect

-- what a delete does
coming-deleted : (kept : Incarnation) (xs : List Outcome) (e : Entry) (queue : List ℕ) (receipt : Handle) → StandsFor kept xs → IsTold xs → 0 < receipt.sequence
    → coming kept.number kept.attributes xs (asked e.moment e (Delete queue receipt)) ≡ deleting_outcome kept e queue receipt (deletion kept receipt)
unfolding effect_on
coming-deleted kept xs e queue receipt stands told positive = ap (deleting_outcome kept e queue receipt) (deletion-kept kept xs receipt stands told positive)

-- the same of two numbers, either way round
pub eqb-swapped : (m n : ℕ) → eqb m n ≡ eqb n m
eqb-swapped m n = grind (arith, nat_tests)

-- what is kept after a delete that takes effect
stands_without : (kept : Incarnation) (xs : List Outcome) (e : Entry) (queue : List ℕ) (receipt : Handle) → StandsFor kept xs
    → StandsFor (without_message receipt.sequence kept) (xs ++ deleting_outcome kept e queue receipt (takes_effect receipt.sequence (Deleted true)) ∷ [])
stands_without kept xs e queue receipt stands =
    let f = deleting_outcome kept e queue receipt (takes_effect receipt.sequence (Deleted true)) in
    let own = kept.attributes.visibility in
    let other = is_other receipt.sequence in
    record {
      sent = stands.sent ∙ sent-same xs f refl;
      messages = ap (filter other) stands.messages
          ∙ filter_agree other (is_left_by f) (λ m. ap not (eqb-swapped m.sequence receipt.sequence)) (remaining own xs)
          ∙ sym (map-same (after_outcome own f) (filter (is_left_by f) (remaining own xs)) (λ m. refl))
          ∙ sym (remaining-more own xs f refl);
      window = window-same kept xs f kept.last stands refl (omega arith);
      recent = recent-same kept xs f kept.last stands refl (omega arith);
      trimmed = trimmed-other kept xs f refl;
      last = stands.last ∙ clocked-same xs f refl;
      used = stands.used ∙ used-same xs f refl;
    }

-- what is kept after another delete
stands_quiet : (kept : Incarnation) (xs : List Outcome) (e : Entry) (queue : List ℕ) (receipt : Handle) (effect : Effect) → StandsFor kept xs → effect.effective ≡ false → effect.handed ≡ []
    → StandsFor kept (xs ++ deleting_outcome kept e queue receipt effect ∷ [])
stands_quiet kept xs e queue receipt effect stands idle handed =
    let f = deleting_outcome kept e queue receipt effect in
    let rejects = not_both effect.effective in
    record {
      sent = stands.sent ∙ sent-same xs f rejects;
      messages = stands.messages ∙ sym (remaining-quiet kept.attributes.visibility xs f (record { rejects = rejects; handed = handed; changes = λ n. no_change effect.effective (eqb effect.count n); deletes = λ n. ap (λ b. (b && true) && eqb effect.count n) idle }));
      window = window-same kept xs f kept.last stands rejects (omega arith);
      recent = recent-same kept xs f kept.last stands rejects (omega arith);
      trimmed = trimmed-other kept xs f refl;
      last = stands.last ∙ clocked-same xs f rejects;
      used = stands.used ∙ used-same xs f refl;
    }

-- a delete hands out nothing
deleted_handed : (receipt : Handle) (found : Option Message) → (delete_sent receipt found).handed ≡ []
deleted_handed receipt None = refl
deleted_handed receipt (Some x) = chosen_handed (nat_lt x.handings receipt.handing) (only_replies (Refused ReceiptHandleIsInvalid)) (cond (fits receipt x) (takes_effect x.sequence (Deleted true)) (only_replies (Deleted false))) refl
    (chosen_handed (fits receipt x) (takes_effect x.sequence (Deleted true)) (only_replies (Deleted false)) refl refl)

-- what is kept after a delete
stands_deleted : (kept : Incarnation) (xs : List Outcome) (e : Entry) (queue : List ℕ) (receipt : Handle) → StandsFor kept xs → IsTold xs → 0 < receipt.sequence
    → StandsFor (after_delete receipt kept) (xs ++ deleting_outcome kept e queue receipt (deletion kept receipt) ∷ [])
stands_deleted kept xs e queue receipt stands told positive =
    let effect = deletion kept receipt in
    let same = deletion-kept kept xs receipt stands told positive in
    elim (cases_Bool effect.effective) [
      | inl done ↦
          let ms = remaining kept.attributes.visibility xs in
          let found = deleting kept.number xs ms receipt (ap (λ x. x.effective) same ∙ done) in
          let made : effect ≡ takes_effect receipt.sequence (Deleted true) = sym same ∙ found.made ∙ ap (λ n. takes_effect n (Deleted true)) found.number in
          subst (λ b. StandsFor (cond b (without_message receipt.sequence kept) kept) (xs ++ deleting_outcome kept e queue receipt effect ∷ [])) (sym done)
          (subst (λ x. StandsFor (without_message receipt.sequence kept) (xs ++ deleting_outcome kept e queue receipt x ∷ [])) (sym made) (stands_without kept xs e queue receipt stands))
      | inr idle ↦
          let handed = chosen_handed (is_receipt_of kept receipt) (delete_sent receipt (message_at receipt.sequence kept.messages)) (only_replies (Refused ReceiptHandleIsInvalid)) (deleted_handed receipt (message_at receipt.sequence kept.messages)) refl in
          subst (λ b. StandsFor (cond b (without_message receipt.sequence kept) kept) (xs ++ deleting_outcome kept e queue receipt effect ∷ [])) (sym idle)
          (stands_quiet kept xs e queue receipt effect stands idle handed)
    ]

-- with the entry itself
deleted_more : (done : Bool) (sequence : ℕ) (kept : Incarnation) (entries : List Entry) (e : Entry)
    → StandsFor (cond done (without_message sequence kept) kept) (told_of kept entries ++ coming kept.number kept.attributes (told_of kept entries) e ∷ [])
    → IncarnationStandsFor (cond done (without_message sequence kept) kept) (entries ++ e ∷ [])
deleted_more true sequence kept entries e h = stands-more (without_message sequence kept) entries e h
deleted_more false sequence kept entries e h = stands-more kept entries e h

-- a delete
pub stands-deleted : (kept : Incarnation) (receipt : Handle) → 0 < receipt.sequence → StandsAfter (IsDelete receipt) kept (after_delete receipt kept)
stands-deleted kept receipt positive entries e stands is =
    let xs = told_of kept entries in
    let for = stands-told kept entries stands in
    let told = told-lifetime kept.number kept.attributes entries in
    deleted_more (deletion kept receipt).effective receipt.sequence kept entries e
    (subst (λ f. StandsFor (after_delete receipt kept) (xs ++ f ∷ [])) (sym (ap (coming kept.number kept.attributes xs) (entry-asked e e.moment _ refl is.asks) ∙ coming-deleted kept xs e is.queue receipt for told positive))
    (stands_deleted kept xs e is.queue receipt for told positive))

-- its reply
pub reply-deleted : (kept : Incarnation) (receipt : Handle) → 0 < receipt.sequence → IsAnswered (IsDelete receipt) kept (deletion kept receipt).reply
reply-deleted kept receipt positive entries e stands is =
    let xs = told_of kept entries in
    let told = told-lifetime kept.number kept.attributes entries in
    ap (λ f. f.reply) (ap (coming kept.number kept.attributes xs) (entry-asked e e.moment _ refl is.asks) ∙ coming-deleted kept xs e is.queue receipt (stands-told kept entries stands) told positive)

-- a delete that takes effect
pub stands-deleting : (kept : Incarnation) (receipt : Handle) → 0 < receipt.sequence → true ≡ (deletion kept receipt).effective → StandsAfter (IsDelete receipt) kept (without_message receipt.sequence kept)
stands-deleting kept receipt positive done = subst (λ b. StandsAfter (IsDelete receipt) kept (cond b (without_message receipt.sequence kept) kept)) (sym done) (stands-deleted kept receipt positive)

-- a delete that doesn't
pub stands-idle : (kept : Incarnation) (receipt : Handle) → 0 < receipt.sequence → false ≡ (deletion kept receipt).effective → StandsAfter (IsDelete receipt) kept kept
stands-idle kept receipt positive idle = subst (λ b. StandsAfter (IsDelete receipt) kept (cond b (without_message receipt.sequence kept) kept)) (sym idle) (stands-deleted kept receipt positive)

-- the reply to a delete, by what it is
pub reply-deleted_as : (kept : Incarnation) (receipt : Handle) (reply : Reply) → 0 < receipt.sequence → reply ≡ (deletion kept receipt).reply → IsAnswered (IsDelete receipt) kept reply
reply-deleted_as kept receipt reply positive same = subst (λ r. IsAnswered (IsDelete receipt) kept r) (sym same) (reply-deleted kept receipt positive)
