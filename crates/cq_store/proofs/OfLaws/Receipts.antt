-- The receipts of a receive count the handings of each message.
use Rattle.std.proofs.Common.{◌≡◌, ℕ, ◌+◌, ◌∙◌, ap, sym, List, [], ◌∷◌, ◌++◌, length, map, true, length-append, subst, refl}
use Rattle.std.specs.List.{filter}
use Rattle.std.specs.Str.{bytes_eq}
use Rattle.std.proofs.lemmas.Bool.{and_from, eq-eqb}
use Rattle.std.proofs.lemmas.Slice.Eq.{bytes_eq-Decides}
use Rattle.cq_base.specs.declared.ask.Entry.{Entry}
use Rattle.cq_base.specs.queue.Asks.{queue_of}
use Rattle.cq_base.specs.queue.Clients.{is_fresh}
use Rattle.cq_base.specs.queue.Effects.{attributes_by, visibility_by}
use Rattle.cq_base.specs.queue.Outcomes.{Outcome, is_about, about, on}
use Rattle.cq_base.specs.queue.History.{outcome_with, outcome_of, history, reply_to}
use Rattle.cq_base.specs.queue.Messages.{Message, hands, hands_it}
use Rattle.cq_base.specs.queue.Receiving.{to_hand, delivery_of}
use Rattle.cq_base.specs.Relations.{Among}
use Rattle.cq_base.proofs.Among.{among-map, among-image}
use Rattle.cq_base.proofs.Deletes.{handings-remaining}
use Rattle.cq_base.proofs.Ends.{filter-passes}
use Rattle.cq_base.proofs.Histories.{history-more, entry-outcome_of}
use Rattle.cq_store.specs.Laws.{IsFresh, LivesBy, so_far, ReceiptsCount}
use Rattle.cq_store.specs.Ranks.{stood}
use Rattle.cq_store.proofs.OfLaws.Flights.{to_hand-among}
use Rattle.cq_store.proofs.OfLaws.Prefixes.{among-in}
use Rattle.cq_store.proofs.OfLaws.Incarnations.{outcome-live, on-more}
use Rattle.cq_store.proofs.OfLaws.OneQueue.{about-more}
use Rattle.cq_store.proofs.OfLaws.Ranks.{received}
use Rattle.cq_store.proofs.OfLaws.Repeats.{fresh-outcome_of}

-- the sequence numbers of the deliveries are those of the messages
sequences : (n : ℕ) (xs : List Message) → map (λ d. d.receipt.sequence) (map (delivery_of n) xs) ≡ map (λ x. x.sequence) xs
sequences n [] = refl
sequences n (x ∷ xs) = ap (λ ns. x.sequence ∷ ns) (sequences n xs)

-- a fresh entry is about its own queue
pub about-own : (outcomes : List Outcome) (e : Entry) → is_fresh e.request.client e.request.number outcomes ≡ true → is_about (queue_of e.request.ask) (outcome_of outcomes e) ≡ true
about-own outcomes e fresh = and_from (outcome_of outcomes e).fresh (bytes_eq (queue_of (outcome_of outcomes e).entry.request.ask) (queue_of e.request.ask)) (fresh-outcome_of outcomes e ∙ fresh)
    ((bytes_eq-Decides (queue_of (outcome_of outcomes e).entry.request.ask) (queue_of e.request.ask)).1 (ap (λ d. queue_of d.request.ask) (entry-outcome_of outcomes e)))

-- what was done on the incarnation, with a fresh entry more
so_far-more : (entries : List Entry) (e : Entry) (creation : Outcome) → IsFresh entries e → LivesBy entries e creation → so_far (entries ++ e ∷ []) e creation ≡ so_far entries e creation ++ outcome_of (history entries) e ∷ []
so_far-more entries e creation fresh lives = let queue = queue_of e.request.ask in
    let f = outcome_of (history entries) e in
    let own = about-more queue (history entries) e (about-own (history entries) e fresh) in
    let here = eq-eqb f.incarnation creation.count (ap (λ g. g.incarnation) (outcome-live (history entries) e creation fresh lives)) in
    ap (λ outcomes. on creation.count (about queue outcomes)) (history-more entries e)
    ∙ ap (λ outcomes. on creation.count outcomes) own
    ∙ on-more creation.count (about queue (history entries)) f here

-- a handing more of the message
hands-more : (sequence : ℕ) (xs : List Outcome) (f : Outcome) → hands_it sequence f ≡ true → length (hands sequence (xs ++ f ∷ [])) ≡ length (hands sequence xs) + 1
unfolding hands
hands-more sequence xs f own = ap (λ fs. length fs) (filter-passes (hands_it sequence) xs f own) ∙ length-append (filter (hands_it sequence) xs) (f ∷ [])

-- a receipt of a receive counts the handings of its message
pub receipts_count : ReceiptsCount
unfolding reply_to
receipts_count entries e creation queue size visibility fresh lives receives =
    let xs = so_far entries e creation in
    let ms = stood entries e creation in
    let handed = to_hand size e.moment ms in
    let f = outcome_of (history entries) e in
    let made = outcome-live (history entries) e creation fresh lives ∙ ap (λ effect. outcome_with e creation.count effect) (received creation.count (attributes_by creation) e.moment xs e.request.ask queue size visibility receives) in
    let numbers : map (λ m. m.sequence) handed ≡ f.handed = sym (ap (λ g. g.handed) made) in (
      map (delivery_of creation.count) handed,
      ap (λ g. g.reply) made,
      sequences creation.count handed ∙ numbers,
      λ d at.
          let own = among-map (delivery_of creation.count) d handed at in
          let m = own.0 in
          let stands = (to_hand-among size e.moment ms m own.1).stands in
          let here = among-in f.handed m.sequence (subst (λ ns. Among m.sequence ns) numbers (among-image (λ y. y.sequence) m handed own.1)) in
          let count : m.handings + 1 ≡ length (hands m.sequence (so_far (entries ++ e ∷ []) e creation))
          = ap (λ n. n + 1) (handings-remaining (visibility_by creation) xs m stands) ∙ sym (ap (λ fs. length (hands m.sequence fs)) (so_far-more entries e creation fresh lives) ∙ hands-more m.sequence xs f here) in
          (ap (λ g. g.receipt.incarnation) own.2, ap (λ g. g.receipt.handing) own.2 ∙ count ∙ ap (λ n. length (hands n (so_far (entries ++ e ∷ []) e creation))) (sym (ap (λ g. g.receipt.sequence) own.2))),
    )
