-- Accepted sends of one deduplication id lie 300,000 ms apart, so a send meets at most one whose time lasts.
use Rattle.std.proofs.Common.{◌≡◌, ℕ, ◌+◌, ◌<◌, ◌≤◌, ◌∙◌, ap, sym, List, [], ◌∷◌, ◌++◌, length, map, Some, None, true, false, arith, inl, inr, subst, refl}
use Rattle.std.specs.List.{filter}
use Rattle.std.specs.Prelude.{nat_lt}
use Rattle.std.specs.Str.{bytes_eq}
use Rattle.std.proofs.lemmas.Bool.{cases_Bool, and_cases, and_parts, and_from, both_ways, ltb-true, ltb-false, lt-ltb, false_from_ne_true}
use Rattle.std.proofs.lemmas.List.{map-append}
use Rattle.std.proofs.lemmas.Slice.Eq.{bytes_eq-Decides}
use Rattle.cq_base.specs.declared.ask.Ask.{Ask}
use Rattle.cq_base.specs.declared.ask.Ask.TheVariants.{Create, Remove, Send, Receive, Delete, Change}
use Rattle.cq_base.specs.declared.ask.Entry.{Entry}
use Rattle.cq_base.specs.declared.reply.Reply.TheVariants.{Sent}
use Rattle.cq_base.specs.queue.Asks.{Attributes, queue_of, is_send, dedup_of, has_dedup}
use Rattle.cq_base.specs.queue.Outcomes.{Outcome, is_about, about, is_on, on}
use Rattle.cq_base.specs.queue.Messages.{messages, duplicate, is_accepted, is_duplicated_by}
use Rattle.cq_base.specs.queue.Effects.{takes_effect, effect_on, attributes_by}
use Rattle.cq_base.specs.queue.History.{outcome_with, outcome_of, history, reply_to}
use Rattle.cq_base.proofs.Histories.{history-more, entry-outcome_of}
use Rattle.cq_store.specs.Laws.{so_far, counts_at, Stamped, OneAcceptancePerWindow, OthersAreAccepted}
use Rattle.cq_base.specs.Relations.{Among, Pairwise}
use Rattle.cq_base.proofs.Among.{among-filter, among-image, none-find}
use Rattle.cq_base.proofs.Filters.{filter-none}
use Rattle.cq_base.proofs.Finds.{find-one, find-none}
use Rattle.cq_store.proofs.OfLaws.Inductions.{by_entry}
use Rattle.cq_base.proofs.Numbers.{messages-next, messages-same}
use Rattle.cq_base.proofs.Pairs.{pairwise-push, pairwise-apart}
use Rattle.cq_base.proofs.OneMoreOutcome.{IsStep}
use Rattle.cq_store.proofs.OfLaws.Incarnations.{outcome-live, by_step}

-- if both have one deduplication id, the second came 300,000 ms after the first at the earliest
abbrev AreApart : Outcome → Outcome → Type 0
AreApart x y = dedup_of x.entry.request.ask ≡ dedup_of y.entry.request.ask → x.entry.moment + 300000 ≤ y.entry.moment

-- what doesn't count of the same id is over
over : (id : List ℕ) (moment : ℕ) (x : Outcome) → is_duplicated_by id moment x ≡ false → dedup_of x.entry.request.ask ≡ id → x.entry.moment + 300000 ≤ moment
over id moment x fails same = elim (and_cases (bytes_eq (dedup_of x.entry.request.ask) id) (nat_lt moment (x.entry.moment + 300000)) fails) [
  | inl other ↦ absurd (both_ways _ other ((bytes_eq-Decides (dedup_of x.entry.request.ask) id).1 same))
  | inr late ↦ ltb-false moment (x.entry.moment + 300000) late
]

-- an accepted send is apart from those before it
apart-next : (xs : List Outcome) (f x : Outcome) → duplicate (dedup_of f.entry.request.ask) f.entry.moment xs ≡ None → Among x (messages xs) → AreApart x f
unfolding duplicate
apart-next xs f x new at same = over (dedup_of f.entry.request.ask) f.entry.moment x (none-find (is_duplicated_by (dedup_of f.entry.request.ask) f.entry.moment) x (messages xs) new at) same

-- the sends stay apart with each step
apart-more : (xs : List Outcome) (f : Outcome) → IsStep xs f → Pairwise AreApart (messages xs) → Pairwise AreApart (messages (xs ++ f ∷ []))
apart-more xs f step h = elim (cases_Bool (is_accepted f)) [
  | inl accepted ↦ subst (Pairwise AreApart) (sym (messages-next xs f accepted)) (pairwise-push AreApart (messages xs) f h (λ x at. apart-next xs f x (step.accepts accepted).new at))
  | inr rejected ↦ subst (Pairwise AreApart) (sym (messages-same xs f rejected)) h
]

-- no sends are apart
apart-none : Pairwise AreApart (messages [])
unfolding messages
apart-none = tt

-- the accepted sends on each incarnation are apart
apart : (queue : List ℕ) (n : ℕ) (entries : List Entry) → Pairwise AreApart (messages (on n (about queue (history entries))))
apart queue n entries = by_step queue n (λ xs. Pairwise AreApart (messages xs)) apart-none apart-more entries

-- no outcomes are of no entries
entries-none : map (λ f. f.entry) (history []) ≡ []
unfolding history
entries-none = refl

-- one more outcome is of the entry
entries-more : (entries : List Entry) (e : Entry) → map (λ f. f.entry) (history entries) ≡ entries → map (λ f. f.entry) (history (entries ++ e ∷ [])) ≡ entries ++ e ∷ []
entries-more entries e h =
    ap (λ outcomes. map (λ f. f.entry) outcomes) (history-more entries e)
    ∙ map-append (λ f. f.entry) (history entries) (outcome_of (history entries) e ∷ [])
    ∙ ap (λ d. map (λ f. f.entry) (history entries) ++ d ∷ []) (entry-outcome_of (history entries) e)
    ∙ ap (λ es. es ++ e ∷ []) h

-- the outcomes of a history are of its entries, in order
entries-history : (entries : List Entry) → map (λ f. f.entry) (history entries) ≡ entries
entries-history entries = by_entry (λ es. map (λ f. f.entry) (history es) ≡ es) entries-none entries-more entries

-- the accepted sends on an incarnation are among the outcomes
among-own : (queue : List ℕ) (n : ℕ) (outcomes : List Outcome) (y : Outcome) → Among y (messages (on n (about queue outcomes))) → Among y outcomes
unfolding messages on about
among-own queue n outcomes y at = (among-filter (is_about queue) y outcomes (among-filter (is_on n) y (filter (is_about queue) outcomes) (among-filter is_accepted y (filter (is_on n) (filter (is_about queue) outcomes)) at).0).0).0

-- on a stamped list, what was told came before the next entry's moment
past : (entries : List Entry) (e : Entry) (y : Outcome) → Stamped (entries ++ e ∷ []) → Among y (history entries) → y.entry.moment ≤ e.moment
past entries e y stamped at = pairwise-apart (λ c d. c.moment ≤ d.moment) entries (e ∷ []) y.entry e stamped (subst (λ es. Among y.entry es) (entries-history entries) (among-image (λ f. f.entry) y (history entries) at)) (inl refl)

-- no send counts of those that came 300,000 ms before, and the later ones came before the moment
none_counts : (id : List ℕ) (moment : ℕ) (z : Outcome) (zs : List Outcome) → ((y : Outcome) → Among y zs → AreApart z y) → ((y : Outcome) → Among y zs → y.entry.moment ≤ moment) → dedup_of z.entry.request.ask ≡ id → moment < z.entry.moment + 300000 → filter (counts_at id moment) zs ≡ []
none_counts id moment z zs later past same lasts = filter-none (counts_at id moment) zs (λ y at. false_from_ne_true (counts_at id moment y) (λ counts. let parts = and_parts (bytes_eq (dedup_of y.entry.request.ask) id) (nat_lt moment (y.entry.moment + 300000)) counts in
    let own = (bytes_eq-Decides (dedup_of y.entry.request.ask) id).0 parts.0 in
    let far : z.entry.moment + 300000 ≤ y.entry.moment = later y at (same ∙ sym own) in
    let before : y.entry.moment ≤ moment = past y at in omega arith))

-- a send of the id counts while its time lasts
counts : (id : List ℕ) (moment : ℕ) (y : Outcome) → dedup_of y.entry.request.ask ≡ id → moment < y.entry.moment + 300000 → counts_at id moment y ≡ true
counts id moment y same lasts = and_from (bytes_eq (dedup_of y.entry.request.ask) id) (nat_lt moment (y.entry.moment + 300000)) ((bytes_eq-Decides (dedup_of y.entry.request.ask) id).1 same) (lt-ltb moment (y.entry.moment + 300000) lasts)

-- of sends that are apart, and came before the moment, only one counts
only_one : (id : List ℕ) (moment : ℕ) (y : Outcome) (sends : List Outcome) → Pairwise AreApart sends → ((x : Outcome) → Among x sends → x.entry.moment ≤ moment) → Among y sends → dedup_of y.entry.request.ask ≡ id → moment < y.entry.moment + 300000 → filter (counts_at id moment) sends ≡ y ∷ []
only_one id moment y [] far past_all at same lasts = absurd at
only_one id moment y (z ∷ zs) far past_all (inl e) same lasts = let first = ap (counts_at id moment) (sym e) ∙ counts id moment y same lasts in
    let rest = none_counts id moment z zs far.0 (λ x m. past_all x (inr m)) (ap (λ f. dedup_of f.entry.request.ask) (sym e) ∙ same) (subst (λ f. moment < f.entry.moment + 300000) e lasts) in
    rw (first, rest) (ap (λ f. f ∷ []) (sym e))
only_one id moment y (z ∷ zs) far past_all (inr at) same lasts = let fails : counts_at id moment z ≡ false = false_from_ne_true (counts_at id moment z) (λ own. let parts = and_parts (bytes_eq (dedup_of z.entry.request.ask) id) (nat_lt moment (z.entry.moment + 300000)) own in
    let also = (bytes_eq-Decides (dedup_of z.entry.request.ask) id).0 parts.0 in
    let apart_by : z.entry.moment + 300000 ≤ y.entry.moment = far.0 y at (also ∙ sym same) in
    let before : y.entry.moment ≤ moment = past_all y (inr at) in
    let runs : moment < z.entry.moment + 300000 = ltb-true moment (z.entry.moment + 300000) parts.1 in absurd (omega arith)) in
    rw fails (only_one id moment y zs far.1 (λ x m. past_all x (inr m)) at same lasts)

-- a send that repeats another isn't accepted, and has its number
repeated : (incarnation : ℕ) (own : Attributes) (xs : List Outcome) (moment : ℕ) (ask : Ask) (y : Outcome) → is_send ask ≡ true → has_dedup own ask ≡ true → duplicate (dedup_of ask) moment xs ≡ Some y → ((effect_on incarnation own moment xs ask).effective ≡ false) × ((effect_on incarnation own moment xs ask).reply ≡ Sent y.count)
unfolding effect_on
repeated incarnation own xs moment (Create queue visibility content) y sends has found = absurd (both_ways _ refl sends)
repeated incarnation own xs moment (Remove queue) y sends has found = absurd (both_ways _ refl sends)
repeated incarnation own xs moment (Send queue group dedup body) y sends has found = rw (has, found) (refl, refl)
repeated incarnation own xs moment (Receive queue size visibility) y sends has found = absurd (both_ways _ refl sends)
repeated incarnation own xs moment (Delete queue receipt) y sends has found = absurd (both_ways _ refl sends)
repeated incarnation own xs moment (Change queue receipt visibility) y sends has found = absurd (both_ways _ refl sends)

-- the one send that counts is found
found_one : (id : List ℕ) (moment : ℕ) (xs : List Outcome) (y : Outcome) → filter (counts_at id moment) (messages xs) ≡ y ∷ [] → duplicate id moment xs ≡ Some y
unfolding duplicate
found_one id moment xs y one = find-one (is_duplicated_by id moment) (messages xs) y one

-- one send is accepted in each 300,000 ms
pub one_acceptance : OneAcceptancePerWindow
unfolding reply_to
one_acceptance entries e creation earlier stamped fresh lives sends has at same lasts = let xs = so_far entries e creation in
    let id = dedup_of e.request.ask in
    let one = only_one id e.moment earlier (messages xs) (apart (queue_of e.request.ask) creation.count entries) (λ y m. past entries e y stamped (among-own (queue_of e.request.ask) creation.count (history entries) y m)) at same lasts in
    let again = repeated creation.count (attributes_by creation) xs e.moment e.request.ask earlier sends has (found_one id e.moment xs earlier one) in
    let made = outcome-live (history entries) e creation fresh lives in
    (ap (λ f. f.effective) made ∙ again.0, ap (λ f. f.reply) made ∙ again.1, one)

-- a send that repeats none is accepted, with the next number
unrepeated : (incarnation : ℕ) (own : Attributes) (xs : List Outcome) (moment : ℕ) (ask : Ask) → is_send ask ≡ true → has_dedup own ask ≡ true → duplicate (dedup_of ask) moment xs ≡ None → effect_on incarnation own moment xs ask ≡ takes_effect (length (messages xs) + 1) (Sent (length (messages xs) + 1))
unfolding effect_on
unrepeated incarnation own xs moment (Create queue visibility content) sends has none = absurd (both_ways _ refl sends)
unrepeated incarnation own xs moment (Remove queue) sends has none = absurd (both_ways _ refl sends)
unrepeated incarnation own xs moment (Send queue group dedup body) sends has none = rw (has, none) refl
unrepeated incarnation own xs moment (Receive queue size visibility) sends has none = absurd (both_ways _ refl sends)
unrepeated incarnation own xs moment (Delete queue receipt) sends has none = absurd (both_ways _ refl sends)
unrepeated incarnation own xs moment (Change queue receipt visibility) sends has none = absurd (both_ways _ refl sends)

-- a send of an id whose time is over doesn't count
ended : (id : List ℕ) (moment : ℕ) (y : Outcome) → (dedup_of y.entry.request.ask ≡ id → y.entry.moment + 300000 ≤ moment) → counts_at id moment y ≡ false
ended id moment y over_by = false_from_ne_true (counts_at id moment y) (λ counting. let parts = and_parts (bytes_eq (dedup_of y.entry.request.ask) id) (nat_lt moment (y.entry.moment + 300000)) counting in
    let far : y.entry.moment + 300000 ≤ moment = over_by ((bytes_eq-Decides (dedup_of y.entry.request.ask) id).0 parts.0) in
    let near : moment < y.entry.moment + 300000 = ltb-true moment (y.entry.moment + 300000) parts.1 in omega arith)

-- where none counts, there is no earlier send
found_none : (id : List ℕ) (moment : ℕ) (xs : List Outcome) → ((y : Outcome) → Among y (messages xs) → dedup_of y.entry.request.ask ≡ id → y.entry.moment + 300000 ≤ moment) → duplicate id moment xs ≡ None
unfolding duplicate
found_none id moment xs past_all = find-none (is_duplicated_by id moment) (messages xs) (filter-none (counts_at id moment) (messages xs) (λ y at. ended id moment y (past_all y at)))

-- all other sends are accepted
pub others_accepted : OthersAreAccepted
unfolding reply_to
others_accepted entries e creation fresh lives sends has past_all = let xs = so_far entries e creation in
    let made = outcome-live (history entries) e creation fresh lives ∙ ap (λ effect. outcome_with e creation.count effect) (unrepeated creation.count (attributes_by creation) xs e.moment e.request.ask sends has (found_none (dedup_of e.request.ask) e.moment xs past_all)) in
    (ap (λ f. f.effective) made, ap (λ f. f.count) made, ap (λ f. f.reply) made)
