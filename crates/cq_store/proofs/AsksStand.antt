-- Asks about a name, and how they are answered.
use Rattle.std.proofs.Common.{◌≡◌, ℕ, ◌+◌, ◌≤◌, ◌∙◌, ◌&&◌, ap, sym, List, [], ◌∷◌, ◌++◌, length, map, Option, Some, None, Bool, true, false, arith, subst, refl}
use Rattle.std.proofs.lemmas.Bool.{both_ways, false≢true}
use Rattle.cq_base.specs.declared.ask.Ask.{Ask}
use Rattle.cq_base.specs.declared.ask.Ask.TheVariants.{Create, Remove, Send, Receive, Delete, Change}
use Rattle.cq_base.specs.declared.ask.Entry.{Entry}
use Rattle.cq_base.specs.declared.reply.Reply.{Reply}
use Rattle.cq_base.specs.declared.reply.Reply.TheVariants.{Created, Removed, Refused}
use Rattle.cq_base.specs.declared.reply.Refusal.TheVariants.{QueueDoesNotExist, QueueDeletedRecently}
use Rattle.cq_base.specs.queue.Asks.{queue_of, is_create, is_remove, attributes_of}
use Rattle.cq_base.specs.queue.Effects.{counts_of, counts_by, takes_effect, create_again, create, effect_on, effect_off, attributes_by}
use Rattle.cq_base.specs.queue.Outcomes.{Outcome, about, on}
use Rattle.cq_base.specs.queue.History.{outcome_with, fresh_outcome, history}
use Rattle.cq_base.specs.queue.Incarnations.{Incarnation, IncarnationStandsFor, EndWithSend, recent_sends, told_of}
use Rattle.cq_base.specs.queue.Lifetimes.{is_creation, is_removal, live, creations, removed_lately}
use Rattle.cq_base.proofs.OneMoreOutcome.{not_both}
use Rattle.cq_base.specs.declared.reply.Delivery.{Delivery}
use Rattle.cq_base.specs.declared.reply.Reply.TheVariants.{Received, Counts}
use Rattle.cq_base.specs.queue.Messages.{messages, remaining}
use Rattle.cq_base.specs.queue.Receiving.{to_hand, delivery_of}
use Rattle.cq_queue.specs.Entries.{StandsAfter, IsAnswered, IsSameQueue, IsReceive, AreOffered, AreCounted, IsCreate}
use Rattle.cq_queue.proofs.Creates.{stands-created, reply-created}
use Rattle.cq_store.specs.within.Asked.{own_outcomes, IsAnswer, IsCount}
use Rattle.cq_store.specs.Parts.{IsWithin, IsQueueWithin}
use Rattle.cq_store.specs.Stands.{unknown, or_unknown, QueueRecord, NameStandsFor, LivesAs, IsLiving, AreIdsKept, ids_of, sent_of, is_resting}
use Rattle.cq_store.proofs.OfLaws.Alone.{alone, IsAlone}
use Rattle.cq_store.proofs.QueuesStand.{entry-fresh, name-dead, with_creation, name-created, with_removal, name-removed, with_incarnation, told-on, comes-to, name-living}
use Rattle.cq_store.proofs.FreshOutcomes.{fresh-live, fresh-dead}
use Rattle.std.specs.Option.{is_some}

-- an ask that is no removal removes nothing
no_removal : (e : Entry) (own : List Outcome) (ask : Ask) → e.request.ask ≡ ask → is_remove ask ≡ false → is_removal (fresh_outcome e own) ≡ false
no_removal e own ask asks other = ap (λ b. (fresh_outcome e own).effective && b) (ap (λ d. is_remove d.request.ask) (entry-fresh e own) ∙ ap is_remove asks ∙ other) ∙ not_both (fresh_outcome e own).effective

-- an ask that is no creation creates nothing
no_creation : (e : Entry) (own : List Outcome) (ask : Ask) → e.request.ask ≡ ask → is_create ask ≡ false → is_creation (fresh_outcome e own) ≡ false
no_creation e own ask asks other = ap (λ b. (fresh_outcome e own).effective && b) (ap (λ d. is_create d.request.ask) (entry-fresh e own) ∙ ap is_create asks ∙ other) ∙ not_both (fresh_outcome e own).effective

-- what is said of one more entry about a name, after these outcomes about it
abbrev IsAnswered-after : QueueRecord → List Outcome → Entry → Reply → Type 0
IsAnswered-after new own e reply = ((fresh_outcome e own).reply ≡ reply) × NameStandsFor e.moment new (own ++ fresh_outcome e own ∷ [])

-- an entry that comes to the incarnation, by the creation by which the queue lives
came_by : (IsSuch : Entry → Type 0) (old : QueueRecord) (p q : Incarnation) (last : ℕ) (own : List Outcome) (e : Entry) (reply : Reply) (living : Option Outcome) → old.living ≡ Some p → q.number ≡ p.number → q.attributes ≡ p.attributes
    → StandsAfter IsSuch p q → IsAnswered IsSuch p reply → IsSuch e → is_removal (fresh_outcome e own) ≡ false → IsAlone own → last ≤ e.moment → NameStandsFor last old own → live own ≡ living
    → IsAnswered-after (with_incarnation old q) own e reply
came_by IsSuch old p q last own e reply None is_p number attributes after answered such stays alone more h dead = absurd (subst (λ k. IsLiving k None own) is_p (subst (λ o. IsLiving old.living o own) dead h.living))
came_by IsSuch old p q last own e reply (Some creation) is_p number attributes after answered such stays alone more h lives =
    let as_p : LivesAs p creation own = subst (λ k. IsLiving k (Some creation) own) is_p (subst (λ o. IsLiving old.living o own) lives h.living) in
    let es = map (λ f. f.entry) (on creation.count own) in (
      ap (λ f. f.reply) (comes-to own creation p e alone lives as_p) ∙ answered es e as_p.stands such,
      name-living last old own creation e p q more lives is_p stays number attributes (after es e as_p.stands such) h,
    )

-- An ask that comes to the incarnation as which the queue lives, where that answers it.
pub came : (IsSuch : Entry → Type 0) (old : QueueRecord) (p q : Incarnation) (moment : ℕ) (ask : Ask) (reply : Reply) → old.living ≡ Some p → q.number ≡ p.number → q.attributes ≡ p.attributes
    → StandsAfter IsSuch p q → IsAnswered IsSuch p reply → ((e : Entry) → e.moment ≡ moment → e.request.ask ≡ ask → IsSuch e) → is_remove ask ≡ false
    → IsAnswer old (with_incarnation old q) moment ask reply
came IsSuch old p q moment ask reply is_p number attributes after answered such other entries last e more at asks h = let own = own_outcomes entries ask in
    let made = came_by IsSuch old p q last own e reply (live own) is_p number attributes after answered (such e at asks) (no_removal e own ask asks other) (alone (queue_of ask) entries) (omega (arith, more, at)) h refl in
    (made.0, subst (λ m. NameStandsFor m (with_incarnation old q) (own ++ fresh_outcome e own ∷ [])) at made.1)

-- nothing lives where nothing is kept as living
dead_own : (old : QueueRecord) (last : ℕ) (own : List Outcome) (living : Option Outcome) → old.living ≡ None → NameStandsFor last old own → live own ≡ living → live own ≡ None
dead_own old last own None none h dead = dead
dead_own old last own (Some creation) none h lives = absurd (subst (λ k. IsLiving k (Some creation) own) none (subst (λ o. IsLiving old.living o own) lives h.living))

-- what a fresh entry does to a queue that doesn't live
outcome-dead : (own : List Outcome) (e : Entry) → live own ≡ None → fresh_outcome e own ≡ outcome_with e 0 (effect_off e.moment own e.request.ask)
outcome-dead own e dead = sym (fresh-dead e own dead)

-- an ask that is no creation is refused there
off_refused : (moment : ℕ) (own : List Outcome) (ask : Ask) → is_create ask ≡ false → (effect_off moment own ask).reply ≡ Refused QueueDoesNotExist
unfolding effect_off
off_refused moment own (Create queue visibility content) other = absurd (both_ways _ other refl)
off_refused moment own (Remove queue) other = refl
off_refused moment own (Send queue group dedup body) other = refl
off_refused moment own (Receive queue size visibility) other = refl
off_refused moment own (Delete queue receipt) other = refl
off_refused moment own (Change queue receipt visibility) other = refl

-- An ask that is no creation, about a queue that doesn't live.
pub refused : (old : QueueRecord) (moment : ℕ) (ask : Ask) → old.living ≡ None → is_create ask ≡ false → IsAnswer old old moment ask (Refused QueueDoesNotExist)
refused old moment ask none other entries last e more at asks h = let own = own_outcomes entries ask in
    let dead = dead_own old last own (live own) none h refl in (
      ap (λ f. f.reply) (outcome-dead own e dead) ∙ ap (λ a. (effect_off e.moment own a).reply) asks ∙ off_refused e.moment own ask other,
      subst (λ m. NameStandsFor m old (own ++ fresh_outcome e own ∷ [])) at (name-dead last old own e (omega (arith, more, at)) dead (no_creation e own ask asks other) h),
    )

-- a creation of a queue that doesn't live
outcome-created : (own : List Outcome) (e : Entry) (queue : List ℕ) (visibility : ℕ) (content : Bool) → live own ≡ None → e.request.ask ≡ Create queue visibility content → fresh_outcome e own ≡ outcome_with e 0 (create (removed_lately e.moment own) (creations own + 1))
unfolding effect_off
outcome-created own e queue visibility content dead asks = outcome-dead own e dead ∙ ap (λ a. outcome_with e 0 (effect_off e.moment own a)) asks

-- A creation while the name rests.
pub resting : (old : QueueRecord) (moment : ℕ) (queue : List ℕ) (visibility : ℕ) (content : Bool) → old.living ≡ None → is_resting old.removed moment ≡ true → IsAnswer old old moment (Create queue visibility content) (Refused QueueDeletedRecently)
resting old moment queue visibility content none rests entries last e more at asks h = let own = own_outcomes entries (Create queue visibility content) in
    let dead = dead_own old last own (live own) none h refl in
    let lately : removed_lately e.moment own ≡ true = ap (λ m. removed_lately m own) at ∙ sym (h.removed moment more) ∙ rests in
    let made = outcome-created own e queue visibility content dead asks ∙ ap (λ b. outcome_with e 0 (create b (creations own + 1))) lately in (
      ap (λ f. f.reply) made,
      subst (λ m. NameStandsFor m old (own ++ fresh_outcome e own ∷ [])) at (name-dead last old own e (omega (arith, more, at)) dead (ap (λ f. is_creation f) made) h),
    )

-- A creation that takes effect.
pub created : (old : QueueRecord) (moment : ℕ) (queue : List ℕ) (visibility : ℕ) (content : Bool) (q : Incarnation) → old.living ≡ None → is_resting old.removed moment ≡ false
    → q.number ≡ old.creations + 1 → q.attributes ≡ record { visibility = visibility; content = content } → IncarnationStandsFor q [] → IsAnswer old (with_creation old q) moment (Create queue visibility content) (Created (old.creations + 1))
created old moment queue visibility content q none awake number given stands entries last e more at asks h = let own = own_outcomes entries (Create queue visibility content) in
    let dead = dead_own old last own (live own) none h refl in
    let free : removed_lately e.moment own ≡ false = ap (λ m. removed_lately m own) at ∙ sym (h.removed moment more) ∙ awake in
    let made = outcome-created own e queue visibility content dead asks ∙ ap (λ b. outcome_with e 0 (create b (creations own + 1))) free in
    let count : (fresh_outcome e own).count ≡ creations own + 1 = ap (λ f. f.count) made in
    let creates : is_creation (fresh_outcome e own) ≡ true = ap (λ f. is_creation f) made ∙ ap (λ a. true && is_create a) asks in
    let asked = ap (λ a. attributes_of a) (ap (λ d. d.request.ask) (entry-fresh e own) ∙ asks) in (
      ap (λ f. f.reply) made ∙ ap (λ n. Created (n + 1)) (sym h.creations),
      subst (λ m. NameStandsFor m (with_creation old q) (own ++ fresh_outcome e own ∷ [])) at
          (name-created last old own e q (alone queue entries) (omega (arith, more, at)) creates (no_removal e own (Create queue visibility content) asks refl) (number ∙ ap (λ n. n + 1) h.creations ∙ sym count) (given ∙ sym asked) stands h),
    )

-- a removal of a queue that lives
outcome-removed : (own : List Outcome) (e : Entry) (queue : List ℕ) (creation : Outcome) → live own ≡ Some creation → e.request.ask ≡ Remove queue → fresh_outcome e own ≡ outcome_with e creation.count (takes_effect creation.count Removed)
unfolding effect_on
outcome-removed own e queue creation lives asks = sym (fresh-live e own creation lives) ∙ ap (λ a. outcome_with e creation.count (effect_on creation.count (attributes_by creation) e.moment (on creation.count own) a)) asks

-- what it does, by the creation by which the queue lives
removed_by : (old : QueueRecord) (p : Incarnation) (last : ℕ) (own : List Outcome) (e : Entry) (queue : List ℕ) (living : Option Outcome) → old.living ≡ Some p → e.request.ask ≡ Remove queue → last ≤ e.moment → NameStandsFor last old own → live own ≡ living
    → IsAnswered-after (with_removal old e.moment) own e Removed
removed_by old p last own e queue None is_p asks more h dead = absurd (subst (λ k. IsLiving k None own) is_p (subst (λ o. IsLiving old.living o own) dead h.living))
removed_by old p last own e queue (Some creation) is_p asks more h lives =
    let made = outcome-removed own e queue creation lives asks in
    let removes : is_removal (fresh_outcome e own) ≡ true = ap (λ f. is_removal f) made ∙ ap (λ a. true && is_remove a) asks in
    (ap (λ f. f.reply) made, name-removed last old own e more (no_creation e own (Remove queue) asks refl) removes h)

-- A removal of a queue that lives.
pub removed : (old : QueueRecord) (p : Incarnation) (moment : ℕ) (queue : List ℕ) → old.living ≡ Some p → IsAnswer old (with_removal old moment) moment (Remove queue) Removed
removed old p moment queue is_p entries last e more at asks h = let own = own_outcomes entries (Remove queue) in
    let made = removed_by old p last own e queue (live own) is_p asks (omega (arith, more, at)) h refl in
    (made.0, subst (λ m. NameStandsFor m (with_removal old m) (own ++ fresh_outcome e own ∷ [])) at made.1)

-- what is kept of a name, with what lives in its place
whole : (kept : QueueRecord) (p : Incarnation) → kept.living ≡ Some p → with_incarnation kept p ≡ kept
whole kept p is_p = ap (λ o. record { creations = kept.creations; removed = kept.removed; living = o }) (sym is_p)

-- The same where the value is seen as what is inside it, and the reply by its equation: an ask that comes to
-- the incarnation.
pub came_seen : (IsSuch : Entry → Type 0) (inside now : QueueRecord) (p q : Incarnation) (moment : ℕ) (ask : Ask) (given reply : Reply) → inside ≡ now → given ≡ reply → inside.living ≡ Some p → IsSameQueue p q
    → StandsAfter IsSuch p q → IsAnswered IsSuch p reply → ((e : Entry) → e.moment ≡ moment → e.request.ask ≡ ask → IsSuch e) → is_remove ask ≡ false
    → IsAnswer now (with_incarnation inside q) moment ask given
came_seen IsSuch inside now p q moment ask given reply view same_reply is_p same after answered such other =
    subst (λ k. IsAnswer k (with_incarnation inside q) moment ask given) view
    (subst (λ r. IsAnswer inside (with_incarnation inside q) moment ask r) (sym same_reply)
    (came IsSuch inside p q moment ask reply is_p same.number same.attributes after answered such other))

-- the same of an ask about a queue that doesn't live
pub refused_seen : (inside now : QueueRecord) (moment : ℕ) (ask : Ask) (given : Reply) → inside ≡ now → given ≡ Refused QueueDoesNotExist → inside.living ≡ None → is_create ask ≡ false → IsAnswer now inside moment ask given
refused_seen inside now moment ask given view same_reply none other =
    subst (λ k. IsAnswer k inside moment ask given) view
    (subst (λ r. IsAnswer inside inside moment ask r) (sym same_reply) (refused inside moment ask none other))

-- what a receive is answered with, by what is offered
pub offered : (kept : Incarnation) (moment size : ℕ) (visibility : Option ℕ) (deliveries : List Delivery) → AreOffered kept moment size deliveries → IsAnswered (IsReceive moment size visibility) kept (Received deliveries)
unfolding effect_on
offered kept moment size visibility deliveries are entries e stands is =
    ap (λ a. (effect_on kept.number kept.attributes e.moment (told_of kept entries) a).reply) is.asks
    ∙ ap (λ m. Received (map (delivery_of kept.number) (to_hand size m (remaining kept.attributes.visibility (told_of kept entries))))) is.at_moment
    ∙ ap Received (sym (are entries stands))

-- the same of a creation of a queue that lives
pub again_seen : (inside now : QueueRecord) (p : Incarnation) (moment : ℕ) (queue : List ℕ) (visibility : ℕ) (content : Bool) (given : Reply) → inside ≡ now → given ≡ (create_again p.number p.attributes (record { visibility = visibility; content = content })).reply → inside.living ≡ Some p
    → IsAnswer now now moment (Create queue visibility content) given
again_seen inside now p moment queue visibility content given view same_reply is_p =
    subst (λ k. IsAnswer k k moment (Create queue visibility content) given) (whole inside p is_p ∙ view)
    (came_seen (IsCreate (record { visibility = visibility; content = content })) inside (with_incarnation inside p) p p moment (Create queue visibility content) given (create_again p.number p.attributes (record { visibility = visibility; content = content })).reply (sym (whole inside p is_p)) same_reply is_p (record { number = refl; attributes = refl })
    (stands-created p (record { visibility = visibility; content = content })) (reply-created p (record { visibility = visibility; content = content })) (λ e at asks. record { queue = queue; asks = asks }) refl)

-- whether a queue lives
pub no_living : (living : Option Incarnation) → is_some living ≡ false → living ≡ None
no_living None h = refl
no_living (Some p) h = absurd (false≢true (sym h))

pub some_living : (living : Option Incarnation) → is_some living ≡ true → (p : Incarnation) × (living ≡ Some p)
some_living None h = absurd (false≢true h)
some_living (Some p) h = (p, refl)

-- the same of a removal
pub removed_seen : (inside now : QueueRecord) (moment : ℕ) (queue : List ℕ) (given : Reply) → inside ≡ now → given ≡ Removed → ((p : Incarnation) × (inside.living ≡ Some p)) → IsAnswer now (with_removal inside moment) moment (Remove queue) given
removed_seen inside now moment queue given view same_reply living =
    subst (λ k. IsAnswer k (with_removal inside moment) moment (Remove queue) given) view
    (subst (λ r. IsAnswer inside (with_removal inside moment) moment (Remove queue) r) (sym same_reply) (removed inside living.0 moment queue living.1))

-- the counts, by the creation by which the queue lives
counted_by : (kept : QueueRecord) (p : Incarnation) (moment visible in_flight last : ℕ) (own : List Outcome) (living : Option Outcome) → kept.living ≡ Some p → AreCounted p moment visible in_flight → IsAlone own → NameStandsFor last kept own → live own ≡ living → counts_by living moment own ≡ Counts visible in_flight
counted_by kept p moment visible in_flight last own None is_p counted alone h dead = absurd (subst (λ k. IsLiving k None own) is_p (subst (λ o. IsLiving kept.living o own) dead h.living))
counted_by kept p moment visible in_flight last own (Some creation) is_p counted alone h lives =
    let as_p : LivesAs p creation own = subst (λ k. IsLiving k (Some creation) own) is_p (subst (λ o. IsLiving kept.living o own) lives h.living) in
    ap (λ a. counts_of moment (remaining a.visibility (on creation.count own))) (sym as_p.attributes)
    ∙ ap (λ fs. counts_of moment (remaining p.attributes.visibility fs)) (sym (told-on own creation p alone lives as_p))
    ∙ counted (map (λ f. f.entry) (on creation.count own)) as_p.stands

-- The counts of a queue that lives.
pub counted : (kept : QueueRecord) (p : Incarnation) (moment visible in_flight : ℕ) → kept.living ≡ Some p → AreCounted p moment visible in_flight → IsCount kept moment (Counts visible in_flight)
counted kept p moment visible in_flight is_p are entries queue last h = counted_by kept p moment visible in_flight last (about queue (history entries)) (live (about queue (history entries))) is_p are (alone queue entries) h refl

-- The counts of one that doesn't.
pub uncounted : (kept : QueueRecord) (moment : ℕ) → kept.living ≡ None → IsCount kept moment (Refused QueueDoesNotExist)
uncounted kept moment none entries queue last h = ap (λ o. counts_by o moment (about queue (history entries))) (dead_own kept last (about queue (history entries)) (live (about queue (history entries))) none h refl)

-- the ids that are kept just after a send, by the creation by which the queue lives
ids_sent : (p : Option Incarnation) (creation : Outcome) (moment : ℕ) (own : List Outcome) → IsAlone own → IsLiving p (Some creation) own → live own ≡ Some creation → EndWithSend (on creation.count own) moment → ids_of p ≡ recent_sends moment (on creation.count own)
ids_sent None creation moment own alone living lives ends = absurd living
ids_sent (Some p) creation moment own alone living lives ends =
    let same = told-on own creation p alone lives living in
    subst (λ fs. length p.accepted ≡ recent_sends moment fs) same (living.stands.trimmed moment (subst (λ fs. EndWithSend fs moment) (sym same) ends))

-- no more are kept than sends were accepted, by the creation by which the queue lives
ids_fewer : (count : ℕ) (p : Option Incarnation) (creation : Outcome) (own : List Outcome) → count ≤ sent_of p → IsAlone own → IsLiving p (Some creation) own → live own ≡ Some creation → count ≤ length (messages (on creation.count own))
ids_fewer count None creation own few alone living lives = absurd living
ids_fewer count (Some p) creation own few alone living lives =
    let same = told-on own creation p alone lives living in
    subst (λ fs. count ≤ length (messages fs)) same (subst (λ n. count ≤ n) living.stands.sent few)

-- none are kept where no queue lives
ids_dead : (p : Option Incarnation) (own : List Outcome) → IsLiving p None own → ids_of p ≡ 0
ids_dead None own living = refl
ids_dead (Some p) own living = absurd living

-- The ids that are kept of a queue.
pub ids-kept : (kept : QueueRecord) (last : ℕ) (entries : List Entry) (queue : List ℕ) → ids_of kept.living ≤ sent_of kept.living → NameStandsFor last kept (about queue (history entries)) → AreIdsKept (ids_of kept.living) entries queue
ids-kept kept last entries queue few h =
    let own = about queue (history entries) in
    record {
      fewer = λ creation lives. ids_fewer (ids_of kept.living) kept.living creation own few (alone queue entries) (subst (λ o. IsLiving kept.living o own) lives h.living) lives;
      sent = λ creation moment lives ends. ids_sent kept.living creation moment own (alone queue entries) (subst (λ o. IsLiving kept.living o own) lives h.living) lives ends;
      dead = λ dies. ids_dead kept.living own (subst (λ o. IsLiving kept.living o own) dies h.living);
    }

-- an answer about a name that is kept from now on
pub first_kept : (before after : Option QueueRecord) (old new : QueueRecord) (moment : ℕ) (ask : Ask) (reply : Reply) → before ≡ None → old ≡ unknown → after ≡ Some new → IsAnswer old new moment ask reply → IsAnswer (or_unknown before) (or_unknown after) moment ask reply
first_kept before after old new moment ask reply none is_unknown some h =
    subst (λ o. IsAnswer (or_unknown o) (or_unknown after) moment ask reply) (sym none)
    (subst (λ o. IsAnswer unknown (or_unknown o) moment ask reply) (sym some)
    (subst (λ k. IsAnswer k new moment ask reply) is_unknown h))

-- an ask about an unknown name that creates none
pub unknown_refused : (before : Option QueueRecord) (moment : ℕ) (ask : Ask) (given : Reply) → before ≡ None → given ≡ Refused QueueDoesNotExist → is_create ask ≡ false → IsAnswer (or_unknown before) (or_unknown before) moment ask given
unknown_refused before moment ask given none same_reply other = subst (λ o. IsAnswer (or_unknown o) (or_unknown o) moment ask given) (sym none) (refused_seen unknown unknown moment ask given refl same_reply refl other)

-- an ask of which no case is a creation is none
pub not_create : (ask : Ask) → ((queue : List ℕ) (visibility : ℕ) (content : Bool) → ask ≡ Create queue visibility content → ⊥) → is_create ask ≡ false
not_create (Create queue visibility content) other = absurd (other queue visibility content refl)
not_create (Remove queue) other = refl
not_create (Send queue group dedup body) other = refl
not_create (Receive queue size visibility) other = refl
not_create (Delete queue receipt) other = refl
not_create (Change queue receipt visibility) other = refl

-- what is within bounds is within later ones
within_later : (count last later : ℕ) (living : Option Incarnation) → last ≤ later → IsQueueWithin count last living → IsQueueWithin (count + 1) later living
within_later count last later None more h = tt
within_later count last later (Some q) more h = (omega (arith, h.0), omega (arith, h.1, more))

pub within-later : (count last later : ℕ) (kept : QueueRecord) → last ≤ later → IsWithin count last kept → IsWithin (count + 1) later kept
within-later count last later kept more h = record { creations = omega (arith, h.creations); living = within_later count last later kept.living more h.living }
