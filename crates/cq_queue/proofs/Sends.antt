-- A send to an incarnation.
use Rattle.std.proofs.Common.{◌≡◌, ℕ, ◌+◌, ◌<◌, ◌≤◌, ◌∙◌, ap, sym, List, [], ◌∷◌, ◌++◌, length, map, Option, Some, None, Bool, true, false, cond, arith, subst, refl, length-append}
use Rattle.std.specs.Prelude.{nat_lt}
use Rattle.std.specs.List.{filter, find}
use Rattle.std.specs.Option.{option_map, option_or}
use Rattle.std.specs.Str.{bytes_eq}
use Rattle.std.proofs.lemmas.Bool.{and_parts}
use Rattle.std.proofs.lemmas.Bool.Decides.{nat_tests}
use Rattle.std.proofs.lemmas.List.Elements.{filter-append}
use Rattle.std.proofs.lemmas.List.Folds.{find-append}
use Rattle.std.proofs.lemmas.List.{map-append}
use Rattle.cq_base.specs.declared.ask.Ask.TheVariants.{Send}
use Rattle.cq_base.specs.declared.ask.Entry.{Entry}
use Rattle.cq_base.specs.declared.limits.TheConstants.{DEDUPLICATION_WINDOW}
use Rattle.cq_base.specs.declared.reply.Refusal.{Refusal}
use Rattle.cq_base.specs.declared.reply.Refusal.TheVariants.{MissingDedupId}
use Rattle.cq_base.specs.declared.reply.Reply.{Reply}
use Rattle.cq_base.specs.declared.reply.Reply.TheVariants.{Sent, Refused}
use Rattle.cq_base.specs.queue.Asks.{dedup_or_made, is_given_or_made}
use Rattle.cq_base.specs.queue.Effects.{takes_effect, only_replies, send, send_if, effect_on}
use Rattle.cq_base.specs.queue.Outcomes.{Outcome}
use Rattle.cq_base.specs.queue.History.{outcome_with}
use Rattle.cq_base.specs.queue.Incarnations.{Accepted, Incarnation, IncarnationStandsFor, EndWithSend, coming, told_of, is_recent, recent_sends, accepted_of, all_accepted, repeated, counts_for}
use Rattle.cq_base.specs.queue.Messages.{messages, duplicate, is_duplicated_by}
use Rattle.cq_base.proofs.Filters.{filter-twice}
use Rattle.cq_base.proofs.Numbers.{messages-next}
use Rattle.cq_messages.specs.Changes.{new_message}
use Rattle.cq_queue.specs.within.Kept.{used_at, repeated_at, with_message}
use Rattle.cq_queue.specs.Entries.{IsSend, IsSendAs, StandsAfter, IsAnswered}
use Rattle.cq_queue.proofs.KeptIds.{all-accepted}
use Rattle.cq_queue.proofs.Maps.{option_map-or, find-kept, filter-kept}
use Rattle.cq_queue.proofs.Remaining.{remaining-quiet, remaining-next}
use Rattle.cq_queue.proofs.Stands.{StandsFor, stands-told, stands-more, asked, entry-asked, clocked-next, used-next, sent-same, window-same, recent-same, last-same, trimmed-send}
use Rattle.cq_queue.proofs.Told.{IsTold, told-lifetime}

-- where the image is nothing, so is what it is of
image_none : {X Y : Type 0} (f : X → Y) (o : Option X) → option_map f o ≡ None → o ≡ None
image_none f None h = refl
image_none f (Some x) h = absurd (none_some (f x) h)
  where
    none_some : {Y : Type 0} (y : Y) → Some y ≡ None → ⊥
    none_some y e = cc

-- the images of two, of which one is chosen
chosen_image : {X Y Z : Type 0} (f : X → Z) (g : Y → Z) (b : Bool) (x : X) (y : Y) → f x ≡ g y → option_map f (cond b (Some x) None) ≡ option_map g (cond b (Some y) None)
chosen_image f g true x y h = ap Some h
chosen_image f g false x y h = refl

-- what is recent at a later moment is so at an earlier one
still_recent : (moment later end : ℕ) → moment ≤ later → nat_lt later end ≡ true → nat_lt moment end ≡ true
still_recent moment later end after passes = grind (arith, nat_tests)

-- what counts at a later moment is recent at an earlier one
counts_recent : (id : List ℕ) (moment later : ℕ) (a : Accepted) → moment ≤ later → counts_for id later a ≡ true → is_recent moment a ≡ true
counts_recent id moment later a after passes = still_recent moment later (a.moment + DEDUPLICATION_WINDOW) after (and_parts (bytes_eq a.dedup id) (is_recent later a) passes).1

-- of the accepted sends, only those of the last five minutes can be found later
repeated-next : (id : List ℕ) (moment later : ℕ) (accepted : List Accepted) (a : Accepted) → moment ≤ later → repeated id later (filter (is_recent moment) accepted ++ a ∷ []) ≡ option_or (repeated id later accepted) (option_map (λ y. y.sequence) (cond (counts_for id later a) (Some a) None))
repeated-next id moment later accepted a after =
    let counts = counts_for id later in
    ap (option_map (λ y. y.sequence)) (find-append counts (filter (is_recent moment) accepted) (a ∷ []) ∙ ap (λ o. option_or o (cond (counts a) (Some a) None)) (find-kept counts (is_recent moment) accepted (λ y passes. counts_recent id moment later y after passes)))
    ∙ option_map-or (λ y. y.sequence) (find counts accepted) (cond (counts a) (Some a) None)

-- the same where there is none more
repeated-recent : (id : List ℕ) (moment later : ℕ) (accepted : List Accepted) → moment ≤ later → repeated id later (filter (is_recent moment) accepted) ≡ repeated id later accepted
repeated-recent id moment later accepted after = ap (option_map (λ y. y.sequence)) (find-kept (counts_for id later) (is_recent moment) accepted (λ y passes. counts_recent id moment later y after passes))

-- what is recent later is among what is recent now
recent-recent : (moment later : ℕ) (accepted : List Accepted) → moment ≤ later → filter (is_recent later) (filter (is_recent moment) accepted) ≡ filter (is_recent later) accepted
recent-recent moment later accepted after = filter-kept (is_recent later) (is_recent moment) accepted (λ a passes. still_recent moment later (a.moment + DEDUPLICATION_WINDOW) after passes)

-- one more accepted send
duplicate-next : (id : List ℕ) (moment : ℕ) (xs : List Outcome) (sends : List Outcome) (f : Outcome) → messages xs ≡ sends ++ f ∷ [] → duplicate id moment xs ≡ option_or (find (is_duplicated_by id moment) sends) (cond (is_duplicated_by id moment f) (Some f) None)
unfolding duplicate
duplicate-next id moment xs sends f h = ap (find (is_duplicated_by id moment)) h ∙ find-append (is_duplicated_by id moment) sends (f ∷ [])

-- the outcome of a send that is accepted
abbrev accepted_outcome : Incarnation → ℕ → Entry → List ℕ → List ℕ → Option (List ℕ) → List ℕ → Outcome
accepted_outcome kept moment e queue group given body = outcome_with (asked moment e (Send queue group given body)) kept.number (takes_effect (kept.sent + 1) (Sent (kept.sent + 1)))

-- the window after an accepted send
window_next : (kept : Incarnation) (xs : List Outcome) (moment : ℕ) (e : Entry) (queue group : List ℕ) (given : Option (List ℕ)) (body : List ℕ) → StandsFor kept xs → kept.last ≤ moment → (id : List ℕ) (later : ℕ) → moment ≤ later
    → repeated id later (with_message moment group (dedup_or_made body given) body kept).accepted ≡ option_map (λ f. f.count) (duplicate id later (xs ++ accepted_outcome kept moment e queue group given body ∷ []))
unfolding duplicate
window_next kept xs moment e queue group given body stands before id later after =
    let f = accepted_outcome kept moment e queue group given body in
    let from : kept.last ≤ later = omega arith in
    let a : Accepted = record { dedup = dedup_or_made body given; moment = moment; sequence = kept.sent + 1 } in
    repeated-next id moment later kept.accepted a after
    ∙ ap (λ o. option_or o (option_map (λ y. y.sequence) (cond (counts_for id later a) (Some a) None))) (stands.window id later from)
    ∙ ap (option_or (option_map (λ y. y.count) (duplicate id later xs))) (chosen_image (λ y. y.sequence) (λ y. y.count) (counts_for id later a) a f refl)
    ∙ sym (option_map-or (λ y. y.count) (duplicate id later xs) (cond (is_duplicated_by id later f) (Some f) None))
    ∙ ap (option_map (λ y. y.count)) (sym (duplicate-next id later (xs ++ f ∷ []) (messages xs) f (messages-next xs f refl)))

-- those that are recent after an accepted send
recent_next : (kept : Incarnation) (xs : List Outcome) (moment : ℕ) (e : Entry) (queue group : List ℕ) (given : Option (List ℕ)) (body : List ℕ) → StandsFor kept xs → kept.last ≤ moment → (later : ℕ) → moment ≤ later
    → filter (is_recent later) (with_message moment group (dedup_or_made body given) body kept).accepted ≡ filter (is_recent later) (all_accepted (xs ++ accepted_outcome kept moment e queue group given body ∷ []))
recent_next kept xs moment e queue group given body stands before later after =
    let f = accepted_outcome kept moment e queue group given body in
    let from : kept.last ≤ later = omega arith in
    let recent = is_recent later in
    filter-append recent (filter (is_recent moment) kept.accepted) (accepted_of f ∷ [])
    ∙ ap (λ ys. ys ++ filter recent (accepted_of f ∷ [])) (recent-recent moment later kept.accepted after ∙ stands.recent later from)
    ∙ sym (filter-append recent (all_accepted xs) (accepted_of f ∷ []))
    ∙ ap (filter recent) (sym (map-append accepted_of (messages xs) (f ∷ [])))
    ∙ ap (λ ms. filter recent (map accepted_of ms)) (sym (messages-next xs f refl))

-- what is kept after an accepted send
stands_accepted : (kept : Incarnation) (xs : List Outcome) (moment : ℕ) (e : Entry) (queue group : List ℕ) (given : Option (List ℕ)) (body : List ℕ) → StandsFor kept xs → IsTold xs → kept.last ≤ moment → StandsFor (with_message moment group (dedup_or_made body given) body kept) (xs ++ accepted_outcome kept moment e queue group given body ∷ [])
stands_accepted kept xs moment e queue group given body stands told before =
    let f = accepted_outcome kept moment e queue group given body in
    let sent = stands.sent in
    let above : length (messages xs) < kept.sent + 1 = omega arith in
    record {
      sent = ap (λ n. n + 1) stands.sent ∙ sym (ap length (messages-next xs f refl) ∙ length-append (messages xs) (f ∷ []));
      messages = ap (λ ms. ms ++ new_message (kept.sent + 1) group body ∷ []) stands.messages ∙ sym (remaining-next kept.attributes.visibility xs f refl refl (λ n. refl) (λ n. refl) (told.new (kept.sent + 1) above));
      window = window_next kept xs moment e queue group given body stands before;
      recent = recent_next kept xs moment e queue group given body stands before;
      trimmed = trimmed-send (with_message moment group (dedup_or_made body given) body kept) xs f refl (all-accepted moment group (dedup_or_made body given) body kept) (recent_next kept xs moment e queue group given body stands before);
      last = clocked-next xs f refl;
      used = ap (λ n. n + 1) stands.used ∙ used-next xs f refl;
    }

-- the outcome of a send that repeats one, or is refused
abbrev idle_outcome : Incarnation → ℕ → Entry → List ℕ → List ℕ → Option (List ℕ) → List ℕ → Reply → Outcome
idle_outcome kept moment e queue group given body reply = outcome_with (asked moment e (Send queue group given body)) kept.number (only_replies reply)

-- one that is refused isn't answered with a number
trimmed_refused : (kept : Incarnation) (xs : List Outcome) (moment : ℕ) (e : Entry) (queue group : List ℕ) (given : Option (List ℕ)) (body : List ℕ) (refusal : Refusal) (later : ℕ) → EndWithSend (xs ++ idle_outcome kept moment e queue group given body (Refused refusal) ∷ []) later
    → length kept.accepted ≡ recent_sends later (xs ++ idle_outcome kept moment e queue group given body (Refused refusal) ∷ [])
trimmed_refused kept xs moment e queue group given body refusal later ends =
    absurd (no_number ends.number (ap (λ g. g.reply) (last-same xs (idle_outcome kept moment e queue group given body (Refused refusal)) ends.before ends.send ends.is) ∙ ends.replied))
  where
    no_number : (n : ℕ) → Refused refusal ≡ Sent n → ⊥
    no_number n same = cc

-- what is kept after one that is refused
stands_refused : (kept : Incarnation) (xs : List Outcome) (moment : ℕ) (e : Entry) (queue group : List ℕ) (given : Option (List ℕ)) (body : List ℕ) (refusal : Refusal) → StandsFor kept xs → kept.last ≤ moment → StandsFor (used_at moment kept) (xs ++ idle_outcome kept moment e queue group given body (Refused refusal) ∷ [])
stands_refused kept xs moment e queue group given body refusal stands before =
    let f = idle_outcome kept moment e queue group given body (Refused refusal) in
    record {
      sent = stands.sent ∙ sent-same xs f refl;
      messages = stands.messages ∙ sym (remaining-quiet kept.attributes.visibility xs f (record { rejects = refl; handed = refl; changes = λ k. refl; deletes = λ k. refl }));
      window = window-same kept xs f moment stands refl before;
      recent = recent-same kept xs f moment stands refl before;
      trimmed = trimmed_refused kept xs moment e queue group given body refusal;
      last = clocked-next xs f refl;
      used = ap (λ k. k + 1) stands.used ∙ used-next xs f refl;
    }

-- what is kept after one that repeats one
stands_again : (kept : Incarnation) (xs : List Outcome) (moment : ℕ) (e : Entry) (queue group : List ℕ) (given : Option (List ℕ)) (body : List ℕ) (reply : Reply) → StandsFor kept xs → kept.last ≤ moment → StandsFor (repeated_at moment kept) (xs ++ idle_outcome kept moment e queue group given body reply ∷ [])
stands_again kept xs moment e queue group given body reply stands before =
    let f = idle_outcome kept moment e queue group given body reply in
    let recent = λ (later : ℕ) (after : moment ≤ later). recent-recent moment later kept.accepted after ∙ recent-same kept xs f moment stands refl before later after in
    record {
      sent = stands.sent ∙ sent-same xs f refl;
      messages = stands.messages ∙ sym (remaining-quiet kept.attributes.visibility xs f (record { rejects = refl; handed = refl; changes = λ k. refl; deletes = λ k. refl }));
      window = λ id later after. repeated-recent id moment later kept.accepted after ∙ window-same kept xs f moment stands refl before id later after;
      recent = recent;
      trimmed = trimmed-send (repeated_at moment kept) xs f refl (filter-twice (is_recent moment) kept.accepted) recent;
      last = clocked-next xs f refl;
      used = ap (λ k. k + 1) stands.used ∙ used-next xs f refl;
    }

-- a send that repeats none is accepted
coming-accepted : (kept : Incarnation) (xs : List Outcome) (moment : ℕ) (e : Entry) (queue group : List ℕ) (given : Option (List ℕ)) (body : List ℕ) → StandsFor kept xs → kept.last ≤ moment → is_given_or_made kept.attributes.content given ≡ true → repeated (dedup_or_made body given) moment kept.accepted ≡ None
    → coming kept.number kept.attributes xs (asked moment e (Send queue group given body)) ≡ accepted_outcome kept moment e queue group given body
unfolding effect_on
coming-accepted kept xs moment e queue group given body stands before has none =
    let new : duplicate (dedup_or_made body given) moment xs ≡ None = image_none (λ f. f.count) (duplicate (dedup_or_made body given) moment xs) (sym (stands.window (dedup_or_made body given) moment before) ∙ none) in
    ap (λ b. outcome_with (asked moment e (Send queue group given body)) kept.number (send_if b (length (messages xs) + 1) (duplicate (dedup_or_made body given) moment xs))) has
    ∙ ap (λ earlier. outcome_with (asked moment e (Send queue group given body)) kept.number (send (length (messages xs) + 1) earlier)) new
    ∙ ap (λ n. outcome_with (asked moment e (Send queue group given body)) kept.number (takes_effect (n + 1) (Sent (n + 1)))) (sym stands.sent)

-- what a send does that repeats one
found_reply : (n next : ℕ) (o : Option Outcome) → option_map (λ f. f.count) o ≡ Some n → send next o ≡ only_replies (Sent n)
found_reply n next None h = absurd (none_is n h)
  where
    none_is : (k : ℕ) → None ≡ Some k → ⊥
    none_is k e = cc
found_reply n next (Some f) h = let same : f.count ≡ n = cc in ap (λ k. only_replies (Sent k)) same

-- a send that repeats one is answered with its number
coming-repeated : (kept : Incarnation) (xs : List Outcome) (moment : ℕ) (e : Entry) (queue group : List ℕ) (given : Option (List ℕ)) (body : List ℕ) (n : ℕ) → StandsFor kept xs → kept.last ≤ moment → is_given_or_made kept.attributes.content given ≡ true → repeated (dedup_or_made body given) moment kept.accepted ≡ Some n
    → coming kept.number kept.attributes xs (asked moment e (Send queue group given body)) ≡ idle_outcome kept moment e queue group given body (Sent n)
unfolding effect_on
coming-repeated kept xs moment e queue group given body n stands before has found =
    ap (λ b. outcome_with (asked moment e (Send queue group given body)) kept.number (send_if b (length (messages xs) + 1) (duplicate (dedup_or_made body given) moment xs))) has
    ∙ ap (outcome_with (asked moment e (Send queue group given body)) kept.number) (found_reply n (length (messages xs) + 1) (duplicate (dedup_or_made body given) moment xs) (sym (stands.window (dedup_or_made body given) moment before) ∙ found))

-- a send that has no id, and gets none, is refused
coming-refused : (kept : Incarnation) (xs : List Outcome) (moment : ℕ) (e : Entry) (queue group : List ℕ) (given : Option (List ℕ)) (body : List ℕ) → is_given_or_made kept.attributes.content given ≡ false
    → coming kept.number kept.attributes xs (asked moment e (Send queue group given body)) ≡ idle_outcome kept moment e queue group given body (Refused MissingDedupId)
unfolding effect_on
coming-refused kept xs moment e queue group given body lacks =
    ap (λ b. outcome_with (asked moment e (Send queue group given body)) kept.number (send_if b (length (messages xs) + 1) (duplicate (dedup_or_made body given) moment xs))) lacks

-- an id that isn't found isn't under its other name
repeated_as : (kept : Incarnation) (moment : ℕ) (id dedup : List ℕ) (found : Option ℕ) → id ≡ dedup → repeated dedup moment kept.accepted ≡ found → repeated id moment kept.accepted ≡ found
repeated_as kept moment id dedup found same h = ap (λ i. repeated i moment kept.accepted) same ∙ h

-- a send that repeats none
pub stands-accepted : (kept : Incarnation) (moment : ℕ) (group dedup body : List ℕ) → kept.last ≤ moment → repeated dedup moment kept.accepted ≡ None → StandsAfter (IsSendAs kept.attributes moment group dedup body) kept (with_message moment group dedup body kept)
stands-accepted kept moment group dedup body before none entries e stands is =
    let xs = told_of kept entries in
    let id = dedup_or_made body is.given in
    let now = with_message moment group id body kept in
    let for = stands-told kept entries stands in
    let new = repeated_as kept moment id dedup None is.same none in
    subst (λ i. IncarnationStandsFor (with_message moment group i body kept) (entries ++ e ∷ [])) is.same
    (stands-more now entries e (subst (λ f. StandsFor now (xs ++ f ∷ [])) (sym (ap (coming kept.number kept.attributes xs) (entry-asked e moment _ is.at_moment is.asks) ∙ coming-accepted kept xs moment e is.queue group is.given body for before is.has new))
    (stands_accepted kept xs moment e is.queue group is.given body for (told-lifetime kept.number kept.attributes entries) before)))

-- its reply
pub reply-accepted : (kept : Incarnation) (moment : ℕ) (group dedup body : List ℕ) → kept.last ≤ moment → repeated dedup moment kept.accepted ≡ None → IsAnswered (IsSendAs kept.attributes moment group dedup body) kept (Sent (kept.sent + 1))
reply-accepted kept moment group dedup body before none entries e stands is =
    let xs = told_of kept entries in
    let new = repeated_as kept moment (dedup_or_made body is.given) dedup None is.same none in
    ap (λ f. f.reply) (ap (coming kept.number kept.attributes xs) (entry-asked e moment _ is.at_moment is.asks) ∙ coming-accepted kept xs moment e is.queue group is.given body (stands-told kept entries stands) before is.has new)

-- a send that repeats one
pub stands-repeated : (kept : Incarnation) (moment : ℕ) (group dedup body : List ℕ) (n : ℕ) → kept.last ≤ moment → repeated dedup moment kept.accepted ≡ Some n → StandsAfter (IsSendAs kept.attributes moment group dedup body) kept (repeated_at moment kept)
stands-repeated kept moment group dedup body n before found entries e stands is =
    let xs = told_of kept entries in
    let now = repeated_at moment kept in
    let for = stands-told kept entries stands in
    let old = repeated_as kept moment (dedup_or_made body is.given) dedup (Some n) is.same found in
    stands-more now entries e (subst (λ f. StandsFor now (xs ++ f ∷ [])) (sym (ap (coming kept.number kept.attributes xs) (entry-asked e moment _ is.at_moment is.asks) ∙ coming-repeated kept xs moment e is.queue group is.given body n for before is.has old))
    (stands_again kept xs moment e is.queue group is.given body (Sent n) for before))

-- its reply
pub reply-repeated : (kept : Incarnation) (moment : ℕ) (group dedup body : List ℕ) (n : ℕ) → kept.last ≤ moment → repeated dedup moment kept.accepted ≡ Some n → IsAnswered (IsSendAs kept.attributes moment group dedup body) kept (Sent n)
reply-repeated kept moment group dedup body n before found entries e stands is =
    let xs = told_of kept entries in
    let old = repeated_as kept moment (dedup_or_made body is.given) dedup (Some n) is.same found in
    ap (λ f. f.reply) (ap (coming kept.number kept.attributes xs) (entry-asked e moment _ is.at_moment is.asks) ∙ coming-repeated kept xs moment e is.queue group is.given body n (stands-told kept entries stands) before is.has old)

-- a send that has no id, and gets none
pub stands-refused : (kept : Incarnation) (moment : ℕ) (group body : List ℕ) → kept.last ≤ moment → kept.attributes.content ≡ false → StandsAfter (IsSend moment group None body) kept (used_at moment kept)
stands-refused kept moment group body before lacks entries e stands is =
    let xs = told_of kept entries in
    let now = used_at moment kept in
    stands-more now entries e (subst (λ f. StandsFor now (xs ++ f ∷ [])) (sym (ap (coming kept.number kept.attributes xs) (entry-asked e moment _ is.at_moment is.asks) ∙ coming-refused kept xs moment e is.queue group None body lacks))
    (stands_refused kept xs moment e is.queue group None body MissingDedupId (stands-told kept entries stands) before))

-- its reply
pub reply-refused : (kept : Incarnation) (moment : ℕ) (group body : List ℕ) → kept.attributes.content ≡ false → IsAnswered (IsSend moment group None body) kept (Refused MissingDedupId)
reply-refused kept moment group body lacks entries e stands is =
    let xs = told_of kept entries in
    ap (λ f. f.reply) (ap (coming kept.number kept.attributes xs) (entry-asked e moment _ is.at_moment is.asks) ∙ coming-refused kept xs moment e is.queue group None body lacks)
