-- A receive from an incarnation.
use Rattle.std.proofs.Common.{◌≡◌, ℕ, ◌+◌, ◌*◌, ◌≤◌, ◌∙◌, ◌||◌, ap, sym, List, [], ◌∷◌, ◌++◌, map, Option, Some, Bool, true, false, cond, subst, refl}
use Rattle.cq_base.specs.declared.ask.Ask.TheVariants.{Receive}
use Rattle.cq_base.specs.declared.ask.Entry.{Entry}
use Rattle.cq_base.specs.declared.limits.TheConstants.{SECOND}
use Rattle.cq_base.specs.declared.reply.Reply.TheVariants.{Received}
use Rattle.cq_base.specs.queue.Asks.{timeout_or}
use Rattle.cq_base.specs.queue.Effects.{hand, effect_on}
use Rattle.cq_base.specs.queue.Outcomes.{Outcome}
use Rattle.cq_base.specs.queue.History.{outcome_with}
use Rattle.cq_base.specs.queue.Incarnations.{Incarnation, coming, told_of}
use Rattle.cq_base.specs.queue.Messages.{Message, hands_it, end_of, remaining}
use Rattle.cq_base.specs.queue.Receiving.{to_hand, delivery_of}
use Rattle.cq_messages.specs.Changes.{marked, numbers_to_hand, handed_at_until}
use Rattle.cq_queue.specs.within.Kept.{handed_out}
use Rattle.cq_queue.specs.Entries.{IsReceive, StandsAfter, IsAnswered}
use Rattle.cq_queue.proofs.Maps.{map-agrees, filter-same}
use Rattle.cq_queue.proofs.Remaining.{after_outcome, touched_by, is_left_by, remaining-more}
use Rattle.cq_queue.proofs.Stands.{StandsFor, stands-told, stands-more, asked, entry-asked, clocked-next, used-next, sent-same, window-same, recent-same, trimmed-other}

-- the outcome of a receive
abbrev handing_outcome : Incarnation → ℕ → Entry → List ℕ → ℕ → Option ℕ → Outcome
handing_outcome kept moment e queue size visibility = outcome_with (asked moment e (Receive queue size visibility)) kept.number (hand kept.number (to_hand size moment kept.messages))

-- a message that is handed out, or isn't
chosen_mark : (own : ℕ) (f : Outcome) (b : Bool) (m : Message) → touched_by own f b (b || false) m ≡ cond b (handed_at_until f.entry.moment (end_of own f) m) m
chosen_mark own f true m = refl
chosen_mark own f false m = refl

-- how the messages stand after a receive
remaining-handed : (kept : Incarnation) (xs : List Outcome) (moment : ℕ) (e : Entry) (queue : List ℕ) (size : ℕ) (visibility : Option ℕ) → StandsFor kept xs
    → (handed_out moment size visibility kept).messages ≡ remaining kept.attributes.visibility (xs ++ handing_outcome kept moment e queue size visibility ∷ [])
remaining-handed kept xs moment e queue size visibility stands =
    let f = handing_outcome kept moment e queue size visibility in
    let own = kept.attributes.visibility in
    let mark = marked moment (moment + SECOND * timeout_or own visibility) (numbers_to_hand size moment kept.messages) in
    ap (map mark) stands.messages
    ∙ map-agrees mark (after_outcome own f) (remaining own xs) (λ m. sym (chosen_mark own f (hands_it m.sequence f) m))
    ∙ ap (map (after_outcome own f)) (sym (filter-same (is_left_by f) (remaining own xs) (λ m. refl)))
    ∙ sym (remaining-more own xs f refl)

-- what is kept after a receive
stands_handed : (kept : Incarnation) (xs : List Outcome) (moment : ℕ) (e : Entry) (queue : List ℕ) (size : ℕ) (visibility : Option ℕ) → StandsFor kept xs → kept.last ≤ moment
    → StandsFor (handed_out moment size visibility kept) (xs ++ handing_outcome kept moment e queue size visibility ∷ [])
stands_handed kept xs moment e queue size visibility stands before =
    let f = handing_outcome kept moment e queue size visibility in
    record {
      sent = stands.sent ∙ sent-same xs f refl;
      messages = remaining-handed kept xs moment e queue size visibility stands;
      window = window-same kept xs f moment stands refl before;
      recent = recent-same kept xs f moment stands refl before;
      trimmed = trimmed-other kept xs f refl;
      last = clocked-next xs f refl;
      used = ap (λ k. k + 1) stands.used ∙ used-next xs f refl;
    }

-- what a receive does
coming-handed : (kept : Incarnation) (xs : List Outcome) (moment : ℕ) (e : Entry) (queue : List ℕ) (size : ℕ) (visibility : Option ℕ) → StandsFor kept xs
    → coming kept.number kept.attributes xs (asked moment e (Receive queue size visibility)) ≡ handing_outcome kept moment e queue size visibility
unfolding effect_on
coming-handed kept xs moment e queue size visibility stands = ap (λ ms. outcome_with (asked moment e (Receive queue size visibility)) kept.number (hand kept.number (to_hand size moment ms))) (sym stands.messages)

-- a receive
pub stands-handed : (kept : Incarnation) (moment size : ℕ) (visibility : Option ℕ) → kept.last ≤ moment → StandsAfter (IsReceive moment size visibility) kept (handed_out moment size visibility kept)
stands-handed kept moment size visibility before entries e stands is =
    let xs = told_of kept entries in
    let now = handed_out moment size visibility kept in
    let for = stands-told kept entries stands in
    stands-more now entries e (subst (λ f. StandsFor now (xs ++ f ∷ [])) (sym (ap (coming kept.number kept.attributes xs) (entry-asked e moment _ is.at_moment is.asks) ∙ coming-handed kept xs moment e is.queue size visibility for))
    (stands_handed kept xs moment e is.queue size visibility for before))

-- its reply
pub reply-handed : (kept : Incarnation) (moment size : ℕ) (visibility : Option ℕ) → IsAnswered (IsReceive moment size visibility) kept (Received (map (delivery_of kept.number) (to_hand size moment kept.messages)))
reply-handed kept moment size visibility entries e stands is =
    let xs = told_of kept entries in
    ap (λ f. f.reply) (ap (coming kept.number kept.attributes xs) (entry-asked e moment _ is.at_moment is.asks) ∙ coming-handed kept xs moment e is.queue size visibility (stands-told kept entries stands))

-- a receive with the timeout that it gives, or else the queue's
pub stands-handed_with : (kept : Incarnation) (moment size timeout : ℕ) (visibility : Option ℕ) → kept.last ≤ moment → timeout ≡ timeout_or kept.attributes.visibility visibility → StandsAfter (IsReceive moment size visibility) kept (handed_out moment size (Some timeout) kept)
stands-handed_with kept moment size timeout visibility before same = subst (λ t. StandsAfter (IsReceive moment size visibility) kept (record kept {
  messages = map (marked moment (moment + 1000 * t) (numbers_to_hand size moment kept.messages)) kept.messages;
  last = moment;
  used = kept.used + 1;
})) (sym same) (stands-handed kept moment size visibility before)
