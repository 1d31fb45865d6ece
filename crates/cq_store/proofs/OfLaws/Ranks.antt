-- A receive hands out the messages of lowest rank.
use Rattle.std.proofs.Common.{◌≡◌, ℕ, ◌<◌, ◌≤◌, ◌∙◌, ◌⊎◌, ◌&&◌, ◌||◌, ap, sym, List, [], ◌∷◌, length, true, false, cond, not, arith, inl, inr, refl}
use Rattle.std.specs.List.{filter, find, list_any}
use Rattle.std.specs.Prelude.{Option, Some, nat_lt, ◌==◌}
use Rattle.std.specs.Str.{bytes_eq}
use Rattle.std.proofs.lemmas.Bool.{cases_Bool, and_parts, and_cases, and_from, or_cases, or_left, or_right, not-true, not_from_false, both_ways, false_from_ne_true, lt-ltb, ltb-true, ltb-false, eqb-true, eq-eqb}
use Rattle.cq_base.specs.declared.ask.Ask.{Ask}
use Rattle.cq_base.specs.declared.ask.Ask.TheVariants.{Receive}
use Rattle.cq_base.specs.queue.Asks.{Attributes, queue_of}
use Rattle.cq_base.specs.queue.Outcomes.{Outcome}
use Rattle.cq_base.specs.queue.Messages.{Message, remaining}
use Rattle.cq_base.specs.queue.Receiving.{is_same_group, is_in_flight, is_preceded_by, is_oldest, is_open, leads, group_with, delivery_order, to_hand}
use Rattle.cq_base.specs.queue.Effects.{effect_on, hand, attributes_by, visibility_by}
use Rattle.cq_base.specs.queue.History.{outcome_with, history, reply_to}
use Rattle.cq_store.specs.Laws.{so_far}
use Rattle.cq_store.specs.Ranks.{number_of, group_place, stands_before, candidates, rank, IsByRank, stood, HandedByRank, OneListByRank}
use Rattle.cq_base.specs.Relations.{Among, Pairwise}
use Rattle.cq_base.proofs.Among.{among-filter, among-kept, among-flat_map, among-take, none-any}
use Rattle.cq_store.proofs.OfLaws.Flights.{same-text, text-same}
use Rattle.cq_store.proofs.OfLaws.Groups.{Rising, remaining-rises}
use Rattle.cq_store.proofs.OfLaws.Incarnations.{numbered, outcome-live}
use Rattle.cq_base.proofs.Pairs.{pairwise-filter, pairwise-follows}
use Rattle.cq_store.proofs.OfLaws.Sorted.{IsStrict, pairwise-flat_map, pairwise-take, among-joined, any-none, count-within, sorted-apart, first-few, few-first, one_order}

-- the smaller pair of two, by its parts
smaller_parts : (a b s t : ℕ) → (nat_lt a b || (a == b && nat_lt s t)) ≡ true → (a < b) ⊎ ((a ≡ b) × (s < t))
smaller_parts a b s t h = elim (or_cases (nat_lt a b) (a == b && nat_lt s t) h) [
  | inl less ↦ inl (ltb-true a b less)
  | inr tied ↦ let parts = and_parts (a == b) (nat_lt s t) tied in inr (eqb-true a b parts.0, ltb-true s t parts.1)
]

-- of two pairs at most one is the smaller
smaller_strict : (a b s t : ℕ) → (nat_lt a b || (a == b && nat_lt s t)) ≡ true → (nat_lt b a || (b == a && nat_lt t s)) ≡ false
smaller_strict a b s t h = false_from_ne_true (nat_lt b a || (b == a && nat_lt t s)) (λ k. elim (smaller_parts a b s t h) [
  | inl less ↦ elim (smaller_parts b a t s k) [ inl more ↦ omega (arith, less, more) | inr tied ↦ omega (arith, less, tied.0) ]
  | inr even ↦ elim (smaller_parts b a t s k) [ inl more ↦ omega (arith, even.0, more) | inr tied ↦ omega (arith, even.1, tied.1) ]
])

-- of two messages at most one stands before the other
before_strict : (ms : List Message) → IsStrict (stands_before ms)
before_strict ms x y h = smaller_strict (group_place ms x) (group_place ms y) x.sequence y.sequence h

-- the place of a group is that of each of its messages
place-same : (ms : List Message) (x y : Message) → x.group ≡ y.group → group_place ms x ≡ group_place ms y
unfolding group_place
place-same ms x y e = ap (λ group. number_of (find (λ z. bytes_eq group z.group) ms)) e

-- and so is whether it's open
open-same : (moment : ℕ) (ms : List Message) (x y : Message) → x.group ≡ y.group → is_open moment ms x ≡ is_open moment ms y
open-same moment ms x y e = ap (λ group. not (list_any (λ z. bytes_eq group z.group && is_in_flight moment z) ms)) e

-- l is the first message of the group of x
record IsFirst (ms : List Message) (x l : Message) : Type 0 where
  found : find (is_same_group x) ms ≡ Some l
  stands : Among l ms
  same : x.group ≡ l.group
  oldest : (y : Message) → Among y ms → l.group ≡ y.group → l.sequence ≤ y.sequence

-- where the first of the list is of the group, it's that
first_here : (m x : Message) (ms : List Message) → Rising (m ∷ ms) → is_same_group x m ≡ true → IsFirst (m ∷ ms) x m
first_here m x ms rising own = record {
  found = ap (λ b. cond b (Some m) (find (is_same_group x) ms)) own;
  stands = inl refl;
  same = same-text x.group m.group own;
  oldest = λ y at _. elim at [ inl e ↦ omega (arith, ap (λ z. z.sequence) e) | inr later ↦ omega (arith, rising.0 y later) ];
}

-- where it isn't, it's that of the rest
first_later : (m x l : Message) (ms : List Message) → is_same_group x m ≡ false → IsFirst ms x l → IsFirst (m ∷ ms) x l
first_later m x l ms other first = record {
  found = ap (λ b. cond b (Some m) (find (is_same_group x) ms)) other ∙ first.found;
  stands = inr first.stands;
  same = first.same;
  oldest = λ y at e. elim at [
    | inl head ↦ absurd (both_ways (is_same_group x m) other (text-same x.group m.group (first.same ∙ e ∙ ap (λ z. z.group) head)))
    | inr later ↦ first.oldest y later e
  ];
}

-- the group of each message has a first one
first_of : (ms : List Message) (x : Message) → Rising ms → Among x ms → (l : Message) × IsFirst ms x l
first_of [] x rising at = absurd at
first_of (m ∷ ms) x rising at = elim (cases_Bool (is_same_group x m)) [
  | inl own ↦ (m, first_here m x ms rising own)
  | inr other ↦ elim at [
    | inl e ↦ absurd (both_ways (is_same_group x m) other (text-same x.group m.group (ap (λ z. z.group) e)))
    | inr later ↦ let r = first_of ms x rising.1 later in (r.0, first_later m x r.0 ms other r.1)
  ]
]

-- its number is the place of the group
place-first : (ms : List Message) (x l : Message) → IsFirst ms x l → group_place ms x ≡ l.sequence
unfolding group_place
place-first ms x l first = ap (λ found. number_of found) first.found

-- the first is the oldest
first-oldest : (ms : List Message) (x l : Message) → IsFirst ms x l → is_oldest ms l ≡ true
first-oldest ms x l first = not_from_false (list_any (is_preceded_by l) ms) (any-none (is_preceded_by l) ms (λ y at. false_from_ne_true (is_preceded_by l y) (λ h.
    let parts = and_parts (is_same_group l y) (nat_lt y.sequence l.sequence) h in
    omega (arith, first.oldest y at (same-text l.group y.group parts.0), ltb-true y.sequence l.sequence parts.1))))

-- the number of the oldest is the place of its group
place-oldest : (ms : List Message) (a : Message) → Rising ms → Among a ms → is_oldest ms a ≡ true → group_place ms a ≡ a.sequence
place-oldest ms a rising at oldest = let first = first_of ms a rising at in
    let place = place-first ms a first.0 first.1 in
    elim (and_cases (is_same_group a first.0) (nat_lt first.0.sequence a.sequence) (none-any (is_preceded_by a) first.0 ms (not-true (list_any (is_preceded_by a) ms) oldest) first.1.stands)) [
      | inl apart ↦ absurd (both_ways (is_same_group a first.0) apart (text-same a.group first.0.group first.1.same))
      | inr late ↦ omega (arith, place, ltb-false first.0.sequence a.sequence late, first.1.oldest a at (sym first.1.same))
    ]

-- messages of a group stand in order of sending
before-within : (ms : List Message) (l x y : Message) → is_same_group l x ≡ true → is_same_group l y ≡ true → x.sequence < y.sequence → stands_before ms x y ≡ true
before-within ms l x y left right less = or_right (nat_lt (group_place ms x) (group_place ms y)) (group_place ms x == group_place ms y && nat_lt x.sequence y.sequence)
    (and_from (group_place ms x == group_place ms y) (nat_lt x.sequence y.sequence) (eq-eqb (group_place ms x) (group_place ms y) (place-same ms x y (sym (same-text l.group x.group left) ∙ same-text l.group y.group right))) (lt-ltb x.sequence y.sequence less))

-- messages of two groups stand in order of their oldest ones
before-across : (ms : List Message) (a b x y : Message) → group_place ms a ≡ a.sequence → group_place ms b ≡ b.sequence → a.sequence < b.sequence → is_same_group a x ≡ true → is_same_group b y ≡ true → stands_before ms x y ≡ true
before-across ms a b x y place_a place_b less left right =
    let own_a = place-same ms a x (same-text a.group x.group left) in
    let own_b = place-same ms b y (same-text b.group y.group right) in
    or_left (nat_lt (group_place ms x) (group_place ms y)) (group_place ms x == group_place ms y && nat_lt x.sequence y.sequence)
    (lt-ltb (group_place ms x) (group_place ms y) (omega (arith, own_a, own_b, place_a, place_b, less)))

-- the number of a message that leads is the place of its group
place-leads : (moment : ℕ) (ms : List Message) (a : Message) → Rising ms → Among a (filter (leads moment ms) ms) → group_place ms a ≡ a.sequence
place-leads moment ms a rising at = let own = among-filter (leads moment ms) a ms at in place-oldest ms a rising own.0 (and_parts (is_oldest ms a) (is_open moment ms a) own.1).0

-- what stands in turn is in order
turn-ordered : (moment : ℕ) (ms : List Message) → Rising ms → Pairwise (λ x y. stands_before ms x y ≡ true) (delivery_order moment ms)
unfolding delivery_order
turn-ordered moment ms rising = pairwise-flat_map (λ x y. stands_before ms x y ≡ true) (group_with ms) (filter (leads moment ms) ms)
    (λ l _. pairwise-follows (λ x y. x.sequence < y.sequence) (λ x y. stands_before ms x y ≡ true) (group_with ms l)
    (λ x y m o less. before-within ms l x y (among-filter (is_same_group l) x ms m).1 (among-filter (is_same_group l) y ms o).1 less)
    (pairwise-filter (λ x y. x.sequence < y.sequence) (is_same_group l) ms rising))
    (pairwise-follows (λ a b. a.sequence < b.sequence) (λ a b. (x y : Message) → Among x (group_with ms a) → Among y (group_with ms b) → stands_before ms x y ≡ true) (filter (leads moment ms) ms)
    (λ a b at_a at_b less x y m o. before-across ms a b x y (place-leads moment ms a rising at_a) (place-leads moment ms b rising at_b) less (among-filter (is_same_group a) x ms m).1 (among-filter (is_same_group b) y ms o).1)
    (pairwise-filter (λ a b. a.sequence < b.sequence) (leads moment ms) ms rising))

-- what stands in turn is a candidate
turn-candidate : (moment : ℕ) (ms : List Message) (x : Message) → Among x (delivery_order moment ms) → Among x (candidates moment ms)
unfolding delivery_order candidates
turn-candidate moment ms x at = let found = among-flat_map (group_with ms) x (filter (leads moment ms) ms) at in
    let leading = among-filter (leads moment ms) found.0 ms found.1 in
    let own = among-filter (is_same_group found.0) x ms found.2 in
    among-kept (is_open moment ms) x ms (sym (open-same moment ms found.0 x (same-text found.0.group x.group own.1)) ∙ (and_parts (is_oldest ms found.0) (is_open moment ms found.0) leading.1).1) own.0

-- each candidate stands in turn, with the first of its group
candidate-turn : (moment : ℕ) (ms : List Message) (x : Message) → Rising ms → Among x (candidates moment ms) → Among x (delivery_order moment ms)
unfolding delivery_order candidates
candidate-turn moment ms x rising at = let own = among-filter (is_open moment ms) x ms at in
    let first = first_of ms x rising own.0 in
    let opens = sym (open-same moment ms x first.0 first.1.same) ∙ own.1 in
    among-joined (group_with ms) first.0 x (filter (leads moment ms) ms)
    (among-kept (leads moment ms) first.0 ms (and_from (is_oldest ms first.0) (is_open moment ms first.0) (first-oldest ms x first.0 first.1) opens) first.1.stands)
    (among-kept (is_same_group first.0) x ms (text-same first.0.group x.group (sym first.1.same)) own.0)

-- the candidates are different
candidates-apart : (moment : ℕ) (ms : List Message) → Rising ms → Pairwise (λ x y. x ≡ y → ⊥) (candidates moment ms)
unfolding candidates
candidates-apart moment ms rising = pairwise-filter (λ x y. x ≡ y → ⊥) (is_open moment ms) ms
    (pairwise-follows (λ x y. x.sequence < y.sequence) (λ x y. x ≡ y → ⊥) ms (λ x y _ _ less e. omega (arith, less, ap (λ z. z.sequence) e)) rising)

-- no more of the candidates stand before a message than of what stands in turn
rank-least : (moment : ℕ) (ms : List Message) (x : Message) → Rising ms → rank ms (candidates moment ms) x ≤ length (filter (λ y. stands_before ms y x) (delivery_order moment ms))
unfolding rank
rank-least moment ms x rising = count-within (λ y. stands_before ms y x) (candidates moment ms) (delivery_order moment ms) (candidates-apart moment ms rising) (λ y m. candidate-turn moment ms y rising m)

-- and no fewer
rank-most : (moment : ℕ) (ms : List Message) (x : Message) → Rising ms → length (filter (λ y. stands_before ms y x) (delivery_order moment ms)) ≤ rank ms (candidates moment ms) x
unfolding rank
rank-most moment ms x rising = count-within (λ y. stands_before ms y x) (delivery_order moment ms) (candidates moment ms) (sorted-apart (stands_before ms) (before_strict ms) (delivery_order moment ms) (turn-ordered moment ms rising)) (λ y m. turn-candidate moment ms y m)

-- what is handed out is so by rank
pub to_hand-by_rank : (size moment : ℕ) (ms : List Message) → Rising ms → IsByRank size ms (candidates moment ms) (to_hand size moment ms)
unfolding to_hand
to_hand-by_rank size moment ms rising = let ordered = turn-ordered moment ms rising in record {
  in_order = pairwise-take (λ x y. stands_before ms x y ≡ true) size (delivery_order moment ms) ordered;
  only = λ x at. (turn-candidate moment ms x (among-take size x (delivery_order moment ms) at), omega (arith, rank-least moment ms x rising, first-few (stands_before ms) (before_strict ms) size x (delivery_order moment ms) ordered at));
  all = λ x at few. few-first (stands_before ms) size x (delivery_order moment ms) ordered (candidate-turn moment ms x rising at) (omega (arith, few, rank-most moment ms x rising));
}

-- one list alone is by rank
pub one_list : OneListByRank
one_list size ms cs xs ys left right = one_order (stands_before ms) (before_strict ms) xs ys left.in_order right.in_order
    (λ x m. let own = left.only x m in right.all x own.0 own.1)
    (λ y m. let own = right.only y m in left.all y own.0 own.1)

-- what a receive does to a queue that lives
pub received : (incarnation : ℕ) (own : Attributes) (moment : ℕ) (xs : List Outcome) (ask : Ask) (queue : List ℕ) (size : ℕ) (visibility : Option ℕ) → ask ≡ Receive queue size visibility → effect_on incarnation own moment xs ask ≡ hand incarnation (to_hand size moment (remaining own.visibility xs))
unfolding effect_on
received incarnation own moment xs ask queue size visibility e = ap (λ a. effect_on incarnation own moment xs a) e

-- a receive hands out the messages of lowest rank
pub handed_by_rank : HandedByRank
unfolding reply_to
handed_by_rank entries e creation queue size visibility fresh lives receives = let ms = stood entries e creation in
    let made = outcome-live (history entries) e creation fresh lives ∙ ap (λ effect. outcome_with e creation.count effect) (received creation.count (attributes_by creation) e.moment (so_far entries e creation) e.request.ask queue size visibility receives) in
    let rising = remaining-rises (visibility_by creation) (so_far entries e creation) (numbered (queue_of e.request.ask) creation.count entries) in
    (to_hand size e.moment ms, to_hand-by_rank size e.moment ms rising, ap (λ f. f.handed) made, ap (λ f. f.reply) made)
