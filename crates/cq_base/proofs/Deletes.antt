-- A delete that takes effect is of a message that was handed out.
use Rattle.std.proofs.Common.{◌≡◌, ℕ, ◌∙◌, ◌&&◌, ap, sym, List, length, Option, Some, None, Bool, true, false, not, cond, eqb, subst, refl}
use Rattle.std.specs.Prelude.{nat_lt}
use Rattle.std.specs.List.{filter}
use Rattle.std.proofs.lemmas.Bool.{and_parts, both_ways, eqb-true, not-true, eq-eqb}
use Rattle.cq_base.specs.declared.reply.Reply.TheVariants.{Deleted, Refused}
use Rattle.cq_base.specs.declared.reply.Refusal.TheVariants.{ReceiptHandleIsInvalid}
use Rattle.cq_base.specs.queue.Asks.{is_delete}
use Rattle.cq_base.specs.queue.Effects.{Effect, only_replies, takes_effect, message_at, is_own, fits, delete_remaining, delete_sent, delete}
use Rattle.cq_base.specs.queue.Outcomes.{Outcome}
use Rattle.cq_base.specs.Handle.{Handle}
use Rattle.cq_base.specs.queue.Messages.{Message, messages, hands, is_kept, message_of, remaining}
use Rattle.cq_base.specs.Relations.{Among}
use Rattle.cq_base.proofs.Among.{among-map, found-among}

-- the outcome is of a delete that took effect
abbrev pub is_delete_done : Outcome → Bool
is_delete_done f = f.effective && is_delete f.entry.request.ask

-- the message of that sequence number was handed out
abbrev pub WasHanded : ℕ → List Outcome → Type 0
WasHanded sequence xs = length (hands sequence xs) ≡ 0 → ⊥

-- Of two effects, the one that is chosen is the one that takes effect.
chosen_other : (b : Bool) (x y : Effect) → x.effective ≡ false → (cond b x y).effective ≡ true → (b ≡ false) × (y.effective ≡ true)
chosen_other true x y idle h = absurd (both_ways _ idle h)
chosen_other false x y idle h = (refl, h)

chosen_first : (b : Bool) (x y : Effect) → y.effective ≡ false → (cond b x y).effective ≡ true → (b ≡ true) × (x.effective ≡ true)
chosen_first true x y idle h = (refl, h)
chosen_first false x y idle h = absurd (both_ways _ idle h)

-- a delete of a message that isn't deleted takes effect on it only with the receipt of its last handing
remaining_fits : (receipt : Handle) (x : Message) → (delete_remaining receipt x).effective ≡ true → (fits receipt x ≡ true) × (delete_remaining receipt x ≡ takes_effect x.sequence (Deleted true))
remaining_fits receipt x h =
    let refused = only_replies (Refused ReceiptHandleIsInvalid) in
    let old = only_replies (Deleted false) in
    let done = takes_effect x.sequence (Deleted true) in
    let other = chosen_other (nat_lt x.handings receipt.handing) refused (cond (fits receipt x) done old) refl h in
    let first = chosen_first (fits receipt x) done old refl other.1 in
    (first.0, ap (λ b. cond b refused (cond (fits receipt x) done old)) other.0 ∙ ap (λ b. cond b done old) first.0)

-- What a delete that takes effect says of the message.
pub record IsDeleting (xs : List Outcome) (ms : List Message) (effect : Effect) (receipt : Handle) : Type 0 where
  pub message : Message
  pub stands : Among message ms
  pub number : message.sequence ≡ receipt.sequence
  pub fits : fits receipt message ≡ true
  pub made : effect ≡ takes_effect message.sequence (Deleted true)

-- the same by what was found of the message
deleting_sent : (xs : List Outcome) (ms : List Message) (receipt : Handle) (found : Option Message) → message_at receipt.sequence ms ≡ found → (delete_sent receipt found).effective ≡ true → IsDeleting xs ms (delete_sent receipt found) receipt
deleting_sent xs ms receipt None e h = absurd (both_ways _ refl h)
deleting_sent xs ms receipt (Some x) e h = let own = found-among (λ y. eqb y.sequence receipt.sequence) x ms e in
    let done = remaining_fits receipt x h in
    record { message = x; stands = own.0; number = eqb-true x.sequence receipt.sequence own.1; fits = done.0; made = done.1 }

-- a delete that takes effect is so
pub deleting : (incarnation : ℕ) (xs : List Outcome) (ms : List Message) (receipt : Handle) → (delete incarnation xs ms receipt).effective ≡ true → IsDeleting xs ms (delete incarnation xs ms receipt) receipt
deleting incarnation xs ms receipt h =
    let refused = only_replies (Refused ReceiptHandleIsInvalid) in
    let sent = delete_sent receipt (message_at receipt.sequence ms) in
    let first = chosen_first (is_own incarnation xs receipt) sent refused refl h in
    let made : delete incarnation xs ms receipt ≡ sent = ap (λ b. cond b sent refused) first.0 in
    subst (λ effect. IsDeleting xs ms effect receipt) (sym made) (deleting_sent xs ms receipt (message_at receipt.sequence ms) refl first.1)

-- a message that isn't deleted has as many handings as were done
pub handings-remaining : (default : ℕ) (xs : List Outcome) (m : Message) → Among m (remaining default xs) → m.handings ≡ length (hands m.sequence xs)
unfolding remaining message_of
handings-remaining default xs m at = let made = among-map (message_of default xs) m (filter (is_kept xs) (messages xs)) at in
    ap (λ y. y.handings) made.2 ∙ ap (λ n. length (hands n xs)) (sym (ap (λ y. y.sequence) made.2))

-- a receipt that fits is of a message that was handed out
fits_handed : (receipt : Handle) (m : Message) → fits receipt m ≡ true → m.handings ≡ 0 → ⊥
fits_handed receipt m fitting none = both_ways (eqb m.handings 0) (not-true (eqb m.handings 0) (and_parts (not (eqb m.handings 0)) (eqb receipt.handing m.handings) fitting).0) (eq-eqb m.handings 0 none)

-- what a delete deletes was handed out
pub deleted_handed_out : (incarnation own : ℕ) (xs : List Outcome) (receipt : Handle) (sequence : ℕ) → (((delete incarnation xs (remaining own xs) receipt).effective && true) && eqb (delete incarnation xs (remaining own xs) receipt).count sequence) ≡ true → WasHanded sequence xs
deleted_handed_out incarnation own xs receipt sequence h none =
    let effect = delete incarnation xs (remaining own xs) receipt in
    let parts = and_parts (effect.effective && true) (eqb effect.count sequence) h in
    let done = deleting incarnation xs (remaining own xs) receipt (and_parts effect.effective true parts.0).0 in
    let same : sequence ≡ done.message.sequence = sym (eqb-true effect.count sequence parts.1) ∙ ap (λ x. x.count) done.made in
    fits_handed receipt done.message done.fits (handings-remaining own xs done.message done.stands ∙ ap (λ n. length (hands n xs)) (sym same) ∙ none)
