-- Of each group, a receive hands out a prefix of its messages.
use Rattle.std.proofs.Common.{◌≡◌, ℕ, ◌<◌, ◌∙◌, ap, sym, List, [], map, Bool, true, false, not, inl, inr, subst, refl}
use Rattle.std.specs.List.{filter, list_any}
use Rattle.std.specs.Prelude.{nat_lt}
use Rattle.std.specs.Str.{bytes_eq}
use Rattle.std.proofs.lemmas.Bool.{and_parts, and_cases, not-true, both_ways, false_from_ne_true, lt-ltb}
use Rattle.std.proofs.lemmas.Simd.{map-map}
use Rattle.cq_base.specs.queue.Outcomes.{Outcome}
use Rattle.cq_base.specs.queue.Messages.{Message, messages, is_deleted, is_kept, message_of, remaining}
use Rattle.cq_base.specs.queue.Receiving.{is_same_group, is_preceded_by, is_oldest, is_open, leads, group_with, delivery_order, to_hand}
use Rattle.cq_store.specs.Laws.{is_in, is_of_group, numbers_of}
use Rattle.cq_base.specs.Relations.{Among, Pairwise, IsPrefix}
use Rattle.cq_base.proofs.Among.{among-filter, among-kept, among-map, among-image, none-any}
use Rattle.cq_base.proofs.Filters.{filter-none, filter-flat_map, filter-map, filter-agrees, filter-twice, filter-swapped}
use Rattle.cq_store.proofs.OfLaws.Flights.{same-text, text-same, to_hand-among}
use Rattle.cq_store.proofs.OfLaws.Prefixes.{prefix-prefix, prefix-filter, prefix-map, prefix-take, flat-prefix, in-among, among-in}
use Rattle.cq_base.proofs.Numbers.{IsNumbered, same_number}
use Rattle.cq_base.proofs.Pairs.{pairwise-filter, pairwise-follows, pairwise-map}
use Rattle.cq_base.proofs.OneMoreOutcome.{IsHanding}

-- the message is of the group
abbrev belongs : List ℕ → Message → Bool
belongs group m = bytes_eq m.group group

-- the messages rise by their sequence numbers
abbrev pub Rising : List Message → Type 0
Rising ms = Pairwise (λ a b. a.sequence < b.sequence) ms

-- equal texts are equal to the same texts
same_test : (xs ys group : List ℕ) (r : Bool) → xs ≡ group → bytes_eq ys group ≡ r → bytes_eq xs ys ≡ r
same_test xs ys group true e h = text-same xs ys (e ∙ sym (same-text ys group h))
same_test xs ys group false e h = false_from_ne_true (bytes_eq xs ys) (λ same. both_ways (bytes_eq ys group) h (text-same ys group (sym (same-text xs ys same) ∙ e)))

-- of the group of its own message, all of it is there
group-own : (group : List ℕ) (ms : List Message) (l : Message) → belongs group l ≡ true → filter (belongs group) (group_with ms l) ≡ filter (belongs group) ms
group-own group ms l own = ap (λ ys. filter (belongs group) ys) (filter-agrees (is_same_group l) (belongs group) ms (λ y m. same_test l.group y.group group (belongs group y) (same-text l.group group own) refl)) ∙ filter-twice (belongs group) ms

-- of another message's group, none of it
group-other : (group : List ℕ) (ms : List Message) (l : Message) → belongs group l ≡ false → filter (belongs group) (group_with ms l) ≡ []
group-other group ms l other = filter-none (belongs group) (group_with ms l) (λ y m. false_from_ne_true (belongs group y) (λ own. both_ways (belongs group l) other (text-same l.group group (same-text l.group y.group (among-filter (is_same_group l) y ms m).1 ∙ same-text y.group group own))))

-- an older message of the group isn't there, where one is the oldest
not_oldest : (group : List ℕ) (ms : List Message) (a b : Message) → is_oldest ms b ≡ true → Among a ms → a.sequence < b.sequence → belongs group a ≡ true → belongs group b ≡ false
not_oldest group ms a b oldest at less own = false_from_ne_true (belongs group b) (λ also. elim (and_cases (is_same_group b a) (nat_lt a.sequence b.sequence) (none-any (is_preceded_by b) a ms (not-true (list_any (is_preceded_by b) ms) oldest) at)) [
  | inl apart ↦ both_ways (is_same_group b a) apart (text-same b.group a.group (same-text b.group group also ∙ sym (same-text a.group group own)))
  | inr late ↦ both_ways (nat_lt a.sequence b.sequence) late (lt-ltb a.sequence b.sequence less)
])

-- a group has one oldest message
one_leads : (group : List ℕ) (moment : ℕ) (ms : List Message) → Rising ms → Pairwise (λ a b. belongs group a ≡ true → belongs group b ≡ false) (filter (leads moment ms) ms)
one_leads group moment ms rising = pairwise-follows (λ a b. a.sequence < b.sequence) (λ a b. belongs group a ≡ true → belongs group b ≡ false) (filter (leads moment ms) ms)
    (λ a b at_a at_b less own. not_oldest group ms a b (and_parts (is_oldest ms b) (is_open moment ms b) (among-filter (leads moment ms) b ms at_b).1).0 (among-filter (leads moment ms) a ms at_a).0 less own)
    (pairwise-filter (λ a b. a.sequence < b.sequence) (leads moment ms) ms rising)

-- of what stands in turn, the messages of a group are a prefix of them
turn-prefix : (group : List ℕ) (moment : ℕ) (ms : List Message) → Rising ms → IsPrefix (filter (belongs group) (delivery_order moment ms)) (filter (belongs group) ms)
unfolding delivery_order
turn-prefix group moment ms rising = subst (λ us. IsPrefix us (filter (belongs group) ms)) (sym (filter-flat_map (belongs group) (group_with ms) (filter (leads moment ms) ms)))
    (flat-prefix (belongs group) (λ l. filter (belongs group) (group_with ms l)) (filter (belongs group) ms) (filter (leads moment ms) ms) (group-own group ms) (group-other group ms) (one_leads group moment ms rising))

-- what is handed out of a group is a prefix of it
to_hand-prefix : (group : List ℕ) (size moment : ℕ) (ms : List Message) → Rising ms → IsPrefix (filter (belongs group) (to_hand size moment ms)) (filter (belongs group) ms)
unfolding to_hand
to_hand-prefix group size moment ms rising = prefix-prefix (filter (belongs group) (to_hand size moment ms)) (filter (belongs group) (delivery_order moment ms)) (filter (belongs group) ms)
    (prefix-filter (belongs group) (to_hand size moment ms) (delivery_order moment ms) (prefix-take size (delivery_order moment ms))) (turn-prefix group moment ms rising)

-- the messages of numbered sends rise
pub remaining-rises : (default : ℕ) (xs : List Outcome) → IsNumbered (messages xs) → Rising (remaining default xs)
unfolding remaining message_of
remaining-rises default xs numbered = pairwise-map (λ a b. a.sequence < b.sequence) (message_of default xs) (filter (is_kept xs) (messages xs)) (pairwise-filter (λ a b. a.count < b.count) (is_kept xs) (messages xs) numbered.rising)

-- the message of that number isn't deleted
abbrev pub is_left : List Outcome → ℕ → Bool
is_left xs n = not (is_deleted n xs)

-- the numbers of the group that are left are those of its messages
remaining-numbers : (group : List ℕ) (default : ℕ) (xs : List Outcome) → map (λ m. m.sequence) (filter (belongs group) (remaining default xs)) ≡ filter (is_left xs) (numbers_of group xs)
unfolding remaining message_of
remaining-numbers group default xs =
    ap (λ ms. map (λ m. m.sequence) ms) (filter-map (belongs group) (message_of default xs) (filter (is_kept xs) (messages xs)))
    ∙ map-map (λ m. m.sequence) (message_of default xs) (filter (is_of_group group) (filter (is_kept xs) (messages xs)))
    ∙ ap (λ fs. map (λ f. f.count) fs) (filter-swapped (is_kept xs) (is_of_group group) (messages xs))
    ∙ sym (filter-map (is_left xs) (λ f. f.count) (filter (is_of_group group) (messages xs)))

-- a number is of the group if its send is
number_in : (group : List ℕ) (xs : List Outcome) (x : Outcome) → IsNumbered (messages xs) → Among x (messages xs) → (r : Bool) → is_of_group group x ≡ r → is_in (numbers_of group xs) x.count ≡ r
number_in group xs x numbered at true own = among-in (numbers_of group xs) x.count (among-image (λ f. f.count) x (filter (is_of_group group) (messages xs)) (among-kept (is_of_group group) x (messages xs) own at))
number_in group xs x numbered at false other = false_from_ne_true (is_in (numbers_of group xs) x.count) (λ h.
    let found = among-map (λ f. f.count) x.count (filter (is_of_group group) (messages xs)) (in-among (numbers_of group xs) x.count h) in
    let own = among-filter (is_of_group group) found.0 (messages xs) found.1 in
    both_ways (is_of_group group x) other (ap (is_of_group group) (same_number (messages xs) x found.0 numbered.rising at own.0 found.2) ∙ own.1))

-- the same for a message as it stands
remaining-in : (group : List ℕ) (default : ℕ) (xs : List Outcome) (m : Message) → IsNumbered (messages xs) → Among m (remaining default xs) → is_in (numbers_of group xs) m.sequence ≡ belongs group m
unfolding remaining message_of
remaining-in group default xs m numbered at = let made = among-map (message_of default xs) m (filter (is_kept xs) (messages xs)) at in
    let sent = (among-filter (is_kept xs) made.0 (messages xs) made.1).0 in
    subst (λ y. is_in (numbers_of group xs) y.sequence ≡ belongs group y) (sym made.2) (number_in group xs made.0 numbered sent (is_of_group group made.0) refl)

-- what an outcome hands out of a group is a prefix of its accepted sends that are left
pub handed-prefix : (group : List ℕ) (default : ℕ) (xs : List Outcome) (f : Outcome) → IsNumbered (messages xs) → IsHanding default xs f → IsPrefix (filter (is_in (numbers_of group xs)) f.handed) (filter (is_left xs) (numbers_of group xs))
handed-prefix group default xs f numbered hands =
    let ms = remaining default xs in
    let handed = to_hand hands.size f.entry.moment ms in
    let own : filter (is_in (numbers_of group xs)) f.handed ≡ map (λ m. m.sequence) (filter (belongs group) handed)
    = ap (λ ns. filter (is_in (numbers_of group xs)) ns) hands.handed
    ∙ filter-map (is_in (numbers_of group xs)) (λ m. m.sequence) handed
    ∙ ap (λ us. map (λ m. m.sequence) us) (filter-agrees (λ m. is_in (numbers_of group xs) m.sequence) (belongs group) handed (λ m at. remaining-in group default xs m numbered (to_hand-among hands.size f.entry.moment ms m at).stands)) in
    let prefix = prefix-map (λ m. m.sequence) (filter (belongs group) handed) (filter (belongs group) ms) (to_hand-prefix group hands.size f.entry.moment ms (remaining-rises default xs numbered)) in
    subst (λ ns. IsPrefix (filter (is_in (numbers_of group xs)) f.handed) ns) (remaining-numbers group default xs)
    (subst (λ ns. IsPrefix ns (map (λ m. m.sequence) (filter (belongs group) ms))) (sym own) prefix)
