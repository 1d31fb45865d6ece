-- A creation that comes to an incarnation: the queue lives already.
use Rattle.std.proofs.Common.{◌≡◌, ℕ, ◌∙◌, ap, sym, List, [], ◌∷◌, ◌++◌, eqb, arith, subst, refl}
use Rattle.cq_base.specs.declared.ask.Ask.TheVariants.{Create}
use Rattle.cq_base.specs.declared.ask.Entry.{Entry}
use Rattle.cq_base.specs.declared.reply.Refusal.TheVariants.{QueueNameExists}
use Rattle.cq_base.specs.declared.reply.Reply.TheVariants.{Created, Refused}
use Rattle.cq_base.specs.queue.Asks.{Attributes, are_same}
use Rattle.cq_base.specs.queue.Effects.{Effect, only_replies, create_again, effect_on}
use Rattle.cq_base.specs.queue.Outcomes.{Outcome}
use Rattle.cq_base.specs.queue.History.{outcome_with}
use Rattle.cq_base.specs.queue.Incarnations.{Incarnation, coming, told_of}
use Rattle.cq_base.proofs.OneMoreOutcome.{not_both, chosen_handed}
use Rattle.cq_queue.specs.Entries.{IsCreate, StandsAfter, IsAnswered}
use Rattle.cq_queue.proofs.Spoken.{no_change}
use Rattle.cq_queue.proofs.Remaining.{remaining-quiet}
use Rattle.cq_queue.proofs.Stands.{StandsFor, stands-told, stands-more, asked, entry-asked, clocked-same, used-same, sent-same, window-same, recent-same, trimmed-other}

-- the outcome of a creation
abbrev creating_outcome : Incarnation → Entry → List ℕ → Attributes → Effect → Outcome
creating_outcome kept e queue given effect = outcome_with (asked e.moment e (Create queue given.visibility given.content)) kept.number effect

-- what is kept after it
stands_quiet : (kept : Incarnation) (xs : List Outcome) (e : Entry) (queue : List ℕ) (given : Attributes) (effect : Effect) → StandsFor kept xs → effect.handed ≡ []
    → StandsFor kept (xs ++ creating_outcome kept e queue given effect ∷ [])
stands_quiet kept xs e queue given effect stands handed =
    let f = creating_outcome kept e queue given effect in
    let rejects = not_both effect.effective in
    record {
      sent = stands.sent ∙ sent-same xs f rejects;
      messages = stands.messages ∙ sym (remaining-quiet kept.attributes.visibility xs f (record { rejects = rejects; handed = handed; changes = λ n. no_change effect.effective (eqb effect.count n); deletes = λ n. no_change effect.effective (eqb effect.count n) }));
      window = window-same kept xs f kept.last stands rejects (omega arith);
      recent = recent-same kept xs f kept.last stands rejects (omega arith);
      trimmed = trimmed-other kept xs f refl;
      last = stands.last ∙ clocked-same xs f rejects;
      used = stands.used ∙ used-same xs f refl;
    }

-- what it does
coming-created : (kept : Incarnation) (xs : List Outcome) (e : Entry) (queue : List ℕ) (given : Attributes) → coming kept.number kept.attributes xs (asked e.moment e (Create queue given.visibility given.content)) ≡ creating_outcome kept e queue given (create_again kept.number kept.attributes given)
unfolding effect_on
coming-created kept xs e queue given = refl

-- it changes nothing
pub stands-created : (kept : Incarnation) (given : Attributes) → StandsAfter (IsCreate given) kept kept
stands-created kept given entries e stands is =
    let xs = told_of kept entries in
    let handed = chosen_handed (are_same given kept.attributes) (only_replies (Created kept.number)) (only_replies (Refused QueueNameExists)) refl refl in
    stands-more kept entries e (subst (λ f. StandsFor kept (xs ++ f ∷ [])) (sym (ap (coming kept.number kept.attributes xs) (entry-asked e e.moment _ refl is.asks) ∙ coming-created kept xs e is.queue given))
    (stands_quiet kept xs e is.queue given (create_again kept.number kept.attributes given) (stands-told kept entries stands) handed))

-- its reply
pub reply-created : (kept : Incarnation) (given : Attributes) → IsAnswered (IsCreate given) kept (create_again kept.number kept.attributes given).reply
reply-created kept given entries e stands is =
    ap (λ f. f.reply) (ap (coming kept.number kept.attributes (told_of kept entries)) (entry-asked e e.moment _ refl is.asks) ∙ coming-created kept (told_of kept entries) e is.queue given)
