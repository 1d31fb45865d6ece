-- Nothing is lost on the way, whatever happens.
use Rattle.std.proofs.Common.{◌≡◌, ℕ, zero, suc, ◌+◌, ◌-◌, ◌≤◌, ◌<◌, ◌∙◌, ap, sym, List, [], ◌∷◌, ◌++◌, drop, length, ◌&&◌, ◌||◌, not, Option, Some, None, is_none, Bool, true, false, cond, eqb, arith, subst, refl, inl, inr, nat_lt}
use Rattle.std.proofs.lemmas.Bool.{eqb-true, eq-eqb, false≢true, both_ways, cases_Bool, and_parts, or_cases}
use Rattle.cq_base.specs.declared.ask.Entry.{Entry}
use Rattle.cq_base.specs.declared.party.Party.{Party}
use Rattle.cq_base.specs.declared.party.Party.TheVariants as parties
use Rattle.cq_chain.specs.declared.fault.WorldFault.{WorldFault}
use Rattle.cq_chain.specs.Masters.{is_in, is_last, numbers_from, stands_before, detected, joined, hears, hears_from, no_order, refusal_of_detection, refusal_of_join}
use Rattle.cq_chain.specs.Messages.{Message}
use Rattle.cq_chain.specs.Parties.{same, is_that}
use Rattle.cq_chain.specs.Refusals.{refusal_of_arrival, refusal_of_query}
use Rattle.cq_chain.specs.Servers.{Server}
use Rattle.cq_chain.specs.Steps.{arrived, asked, takes, crashed}
use Rattle.cq_store.specs.Laws.{Stamped}
use Rattle.cq_events.specs.Events.{has_party, unless_down, is_down, refusal_of_crash, refusal_of_detect, refusal_of, refusal_of_take, after, next, unless_refused, after_take, without_first, after_put}
use Rattle.cq_world.specs.Laws.{Arrival, arrival_if}
use Rattle.cq_events.specs.Runs.{world_after, longer, acting_history, longest_at, longest_from}
use Rattle.cq_events.specs.Worlds.{World, first_world, channel, stepped, ordered}
use Rattle.cq_events.specs.declared.event.Event.{Event}
use Rattle.cq_events.specs.declared.event.Event.TheVariants.{Arrive, Ask, Put, Take, Crash, Detect, Join}
use Rattle.cq_world.proofs.OfLaws.Arriving.{Arrived, arrivals-stamped, after-arrived, first-arrived}
use Rattle.cq_world.proofs.Chains.{before-in, before-last}
use Rattle.cq_world.proofs.Commits.Orders.{said_nothing}
use Rattle.cq_world.proofs.Commits.Steps.{take-acting, arrive-acting}
use Rattle.cq_world.proofs.Commits.{bit, longest-same}
use Rattle.cq_world.proofs.Eaches.{Each, some_none}
use Rattle.cq_world.proofs.Wholes.Feeding.{NoData, NoSnap, OfSnap, Feeds}
use Rattle.cq_events.proofs.Numbers.{in-numbers}
use Rattle.cq_world.proofs.First.{commits-first, numbers_apart, at_first, at_first_full, first_entries, last_size}
use Rattle.cq_world.proofs.Prefixes.{Turn}
use Rattle.cq_world.proofs.Running.{Good, onward, list-turned, drained_keeps, view_ordered, first_speaks, detect_parts, join_parts, chain_some}
use Rattle.cq_world.proofs.Views.{View, extended, view, turn, said, drained, view-put, view-given, view-step, view-taken, view-without}
use Rattle.cq_world.proofs.Prefixes.Climbing.{reports, one}
use Rattle.cq_world.proofs.Prefixes.Steps.{lives-placed, head-member, take-turn, arrive-turn, ask-turn, crash-turn}
use Rattle.cq_world.proofs.Unrefused.{known-parts, lives-parts, server-parts, at-head}
use Rattle.cq_world.proofs.Wholes.{Whole, reports_of, haves_of, adopts_of, feeds_of, OnlyTo, Ends, FeedsOut, Catches, Known, HaveIs, AdoptIs, AckWithin, links}
use Rattle.cq_world.proofs.Wholes.Changes.{detected-whole}
use Rattle.cq_world.proofs.Wholes.Joins.{joined-whole}
use Rattle.cq_world.proofs.Wholes.Orders.{heard-whole}
use Rattle.cq_world.proofs.Wholes.Entries.{BeforeTurn}
use Rattle.cq_world.proofs.Wholes.Messages.{take-feeding, arrive-feeding, ask-feeding, crash-feeding}
use Rattle.cq_world.proofs.Wholes.Turns.{Feeding, turn-whole}

-- ---- the first world

-- numbers of so many from one on are below the end
below_end : (n k b : ℕ) → is_in (numbers_from k n) b ≡ true → (k ≤ b) × (b < k + n)
unfolding numbers_from
below_end zero k b h = absurd (false≢true h)
below_end (suc n) k b h = elim (or_cases (eqb k b) (is_in (numbers_from (k + 1) n) b) h) [
  | inl e ↦ let same = eqb-true k b e in (omega (arith, same), omega (arith, same))
  | inr r ↦ let later = below_end n (k + 1) b r in (omega (arith, later.0), omega (arith, later.1))
]

-- each of them but the last stands before the next one
numbers_before : (n k p s : ℕ) → k ≤ p → p + 1 < k + n → stands_before p s (numbers_from k n) ≡ eqb (p + 1) s
unfolding numbers_from
numbers_before zero k p s low high = absurd (omega (arith, low, high))
numbers_before (suc zero) k p s low high = absurd (omega (arith, low, high))
numbers_before (suc (suc n)) k p s low high = go (eqb k p) refl (λ next. numbers_before (suc n) (k + 1) p s next (omega (arith, high))) where
  go : (t : Bool) → eqb k p ≡ t → (k + 1 ≤ p → stands_before p s (numbers_from (k + 1) (suc n)) ≡ eqb (p + 1) s) → (eqb k p && eqb (k + 1) s || stands_before p s (numbers_from (k + 1) (suc n))) ≡ eqb (p + 1) s
  go true e later = ap (λ b. b && eqb (k + 1) s || stands_before p s (numbers_from (k + 1) (suc n))) e ∙ ap (λ b. eqb (k + 1) s || b) none ∙ or_none (eqb (k + 1) s) ∙ ap (λ i. eqb (i + 1) s) (eqb-true k p e) where
    or_none : (b : Bool) → (b || false) ≡ b
    or_none true = refl
    or_none false = refl

    none : stands_before p s (numbers_from (k + 1) (suc n)) ≡ false
    none = elim (cases_Bool (stands_before p s (numbers_from (k + 1) (suc n)))) [
      | inl is ↦ absurd (omega (arith, (below_end (suc n) (k + 1) p (before-in p s (numbers_from (k + 1) (suc n)) is).0).0, eqb-true k p e))
      | inr not ↦ not
    ]
  go false e later = ap (λ b. b && eqb (k + 1) s || stands_before p s (numbers_from (k + 1) (suc n))) e ∙ later (omega (arith, low, λ (is : k ≡ p). both_ways (eqb k p) e (eq-eqb k p is)))

first_pred : (t : Bool) (size id p : ℕ) → is_in (numbers_from 1 size) id ≡ t → (at_first t size id).pred ≡ Some p → is_in (numbers_from 1 size) p ≡ true
first_pred false size id p e is = absurd (some_none p (sym is))
first_pred true size id p e is = go (eqb id 1) refl is where
  same_some : (a b : ℕ) → Some a ≡ Some b → a ≡ b
  same_some a b h = cc

  go : (b : Bool) → eqb id 1 ≡ b → cond b None (Some (id - 1)) ≡ Some p → is_in (numbers_from 1 size) p ≡ true
  go true f h = absurd (some_none p (sym h))
  go false f h = let range = below_end size 1 id e in
      in-numbers size 1 p (omega (arith, same_some (id - 1) p h, range.0, λ (one : id ≡ 1). both_ways (eqb id 1) f (eq-eqb id 1 one))) (omega (arith, same_some (id - 1) p h, range.1))

first_succ : (t : Bool) (size id s : ℕ) → is_in (numbers_from 1 size) id ≡ t → (at_first t size id).succ ≡ Some s → is_in (numbers_from 1 size) s ≡ true
first_succ false size id s e is = absurd (some_none s (sym is))
first_succ true size id s e is = go (eqb id size) refl is where
  same_some : (a b : ℕ) → Some a ≡ Some b → a ≡ b
  same_some a b h = cc

  go : (b : Bool) → eqb id size ≡ b → cond b None (Some (id + 1)) ≡ Some s → is_in (numbers_from 1 size) s ≡ true
  go true f h = absurd (some_none s (sym h))
  go false f h = let range = below_end size 1 id e in
      in-numbers size 1 s (omega (arith, same_some (id + 1) s h, range.0)) (omega (arith, same_some (id + 1) s h, range.1, λ (last : id ≡ size). both_ways (eqb id size) f (eq-eqb id size last)))

first_token : (t : Bool) (size p s : ℕ) → 1 ≤ size → is_in (numbers_from 1 size) p ≡ t → t ≡ true → links (at_first t size p).succ s [] ≡ bit (stands_before p s (numbers_from 1 size))
first_token false size p s some e there = absurd (false≢true there)
first_token true size p s some e there = go (eqb p size) refl where
  range : (1 ≤ p) × (p < 1 + size)
  range = below_end size 1 p e

  one_link : (b : Bool) → feeds_of s [] + cond b 1 (adopts_of s []) ≡ bit b
  one_link true = refl
  one_link false = refl

  go : (b : Bool) → eqb p size ≡ b → links (cond b None (Some (p + 1))) s [] ≡ bit (stands_before p s (numbers_from 1 size))
  go true f = sym (ap (λ b. bit b) (last_none (stands_before p s (numbers_from 1 size)) refl)) where
    last_none : (b : Bool) → stands_before p s (numbers_from 1 size) ≡ b → stands_before p s (numbers_from 1 size) ≡ false
    last_none true is = absurd (before-last p s (numbers_from 1 size) (numbers_apart size 1) is (subst (λ i. is_last (numbers_from 1 size) i ≡ true) (sym (eqb-true p size f)) (last_size size some)))
    last_none false is = is
  go false f = one_link (eqb (p + 1) s) ∙ sym (ap (λ b. bit b) (numbers_before size 1 p s range.0 (omega (arith, range.1, λ (last : p ≡ size). both_ways (eqb p size) f (eq-eqb p size last)))))

first_acked : (t : Bool) (size id : ℕ) → (at_first t size id).acked ≤ 0
first_acked true size id = omega arith
first_acked false size id = omega arith

first_floor : (t : Bool) (size id : ℕ) → (at_first t size id).floor ≤ 0
first_floor true size id = omega arith
first_floor false size id = omega arith

whole_first : (size : ℕ) → 1 ≤ size → Whole (view (first_world size)) []
unfolding first_world
whole_first size some = record {
  pred_known = λ id p is. first_pred (known id) size id p refl is;
  succ_known = λ id s is. first_succ (known id) size id s refl is;
  orders_known = λ id. tt;
  reports_known = λ id. tt;
  unheard = λ p id unused. tt;
  token = λ p s a b. omega (arith, first_token (known p) size p s some refl a);
  ends = λ p a. tt;
  follows = λ p s a b link. tt;
  counts = λ p s before. tt;
  adopts = λ p s before none. tt;
  data_none = λ p s b none. tt;
  linked_told = λ p s b link. refl;
  feed = λ p s b is_pred link. ap length (first_entries (known s) size s) ∙ sym (ap length (first_entries (known p) size p));
  snap = λ p s b is_pred. tt;
  young_succ = λ id b young. absurd (both_ways (at_first (known id) size id).full young (at_first_full (known id) size id b));
  acked = λ id. first_acked (known id) size id;
  acks = λ p s. tt;
  floors = λ id b full. first_floor (known id) size id;
  fed_by = λ j t none. absurd (false≢true none);
  caught = λ j t none. absurd (false≢true none);
  feeds_out = λ p a. tt;
} where
  known : ℕ → Bool
  known id = is_in (numbers_from 1 size) id

-- ---- channels that end neither at a server nor at the master

aside_whole : (v : View) (c : List Entry) (from to : Party) (rest : List Message) → ((s : ℕ) → (drained v from to rest).channel parties.Master (parties.Server s) ≡ v.channel parties.Master (parties.Server s))
    → ((s : ℕ) → (drained v from to rest).channel (parties.Server s) parties.Master ≡ v.channel (parties.Server s) parties.Master)
    → ((p s : ℕ) → (drained v from to rest).channel (parties.Server p) (parties.Server s) ≡ v.channel (parties.Server p) (parties.Server s)) → Whole v c → Whole (drained v from to rest) c
aside_whole v c from to rest orders told between h = record {
  pred_known = h.pred_known;
  succ_known = h.succ_known;
  orders_known = λ id. subst (λ ms. Each (Known v.master.used) ms) (sym (orders id)) (h.orders_known id);
  reports_known = λ id. subst (λ ms. Each (Known v.master.used) ms) (sym (told id)) (h.reports_known id);
  unheard = λ p id unused. subst (λ ms. Each NoData ms) (sym (between p id)) (h.unheard p id unused);
  token = λ p s a b. ap (λ ms. reports_of p ms + (haves_of p ((drained v from to rest).channel (parties.Server s) parties.Master) + links (v.server p).succ s ((drained v from to rest).channel parties.Master (parties.Server p)))) (orders s)
      ∙ ap (λ ms. reports_of p (v.channel parties.Master (parties.Server s)) + (haves_of p ms + links (v.server p).succ s ((drained v from to rest).channel parties.Master (parties.Server p)))) (told s)
      ∙ ap (λ ms. reports_of p (v.channel parties.Master (parties.Server s)) + (haves_of p (v.channel (parties.Server s) parties.Master) + links (v.server p).succ s ms)) (orders p) ∙ h.token p s a b;
  ends = λ p a. subst (λ ms. Ends (extended v.master) ms) (sym (orders p)) (h.ends p a);
  follows = λ p s a b link. subst (λ ms. Each (OnlyTo s) ms) (sym (orders p)) (h.follows p s a b link);
  counts = λ p s before. subst (λ ms. Each (HaveIs p (length (v.server s).entries)) ms) (sym (told s)) (h.counts p s before);
  adopts = λ p s before none. subst (λ ms. Each (AdoptIs s (length (v.server s).entries)) ms) (sym (orders p)) (h.adopts p s before none);
  data_none = λ p s b none. subst (λ ms. Each NoData ms) (sym (between p s)) (h.data_none p s b none);
  linked_told = λ p s b link. ap (λ ms. reports_of p ms) (orders s) ∙ h.linked_told p s b link;
  feed = λ p s b is_pred link. subst (λ ms. Feeds (length (v.server s).entries) ms (length (v.server p).entries)) (sym (between p s)) (h.feed p s b is_pred link);
  snap = λ p s b is_pred. subst (λ ms. Each (OfSnap (length (v.server s).entries < length c)) ms) (sym (between p s)) (h.snap p s b is_pred);
  young_succ = h.young_succ;
  acked = h.acked;
  acks = λ p s. subst (λ ms. Each (AckWithin (length c)) ms) (sym (between p s)) (h.acks p s);
  floors = h.floors;
  fed_by = λ j t joins last. ap (λ ms. one (v.server j).pred ++ reports ms) (orders j) ∙ h.fed_by j t joins last;
  caught = λ j t joins last. subst (λ ms. Each (Catches ((is_that (v.server t).succ j ≡ true) × Each NoSnap ((drained v from to rest).channel (parties.Server t) (parties.Server j)))) ms) (sym (told j))
      (subst (λ us. Each (Catches ((is_that (v.server t).succ j ≡ true) × Each NoSnap us)) (v.channel (parties.Server j) parties.Master)) (sym (between t j)) (h.caught j t joins last));
  feeds_out = λ p a. subst (λ ms. Each (FeedsOut v.master.chain) ms) (sym (orders p)) (h.feeds_out p a);
}

and_none : (b : Bool) (us ws : List Message) → cond (b && false) us ws ≡ ws
and_none true us ws = refl
and_none false us ws = refl

-- ---- events

-- where no server has changed
stays : (w new : World) (c : List Entry) → new.server ≡ w.server → Good w c → Whole (view new) c → Whole (view new) (longest_at new c)
stays w new c servers good h = subst (λ us. Whole (view new) us) (sym (longest-same new (view w) c servers good.commits)) h

-- where a server has made a turn
turns : (w new : World) (c : List Entry) (from : Party) (k : ℕ) (rest : List Message) (s : Server) (out : List (Party × Message)) → Good w c → Whole (view w) c → view new ≡ turn (view w) from k rest s out
    → Turn (view w) from k rest s out → Feeding (view w) c from k rest s out → Whole (view new) (longest_at new c)
turns w new c from k rest s out good h is t f = subst (λ us. Whole (view new) us) (sym (list-turned w new c from k rest s out good is t.known))
    (subst (λ v. Whole v (longer c (acting_history s))) (sym is) (turn-whole (view w) c from k rest s out good.prefixes h t f))

-- what is known before a turn
before_turn : (w : World) (c : List Entry) (k : ℕ) → Good w c → Whole (view w) c → ((id : ℕ) → Stamped (w.server id).entries) → is_in w.master.used k ≡ true → (w.server k).down ≡ false → BeforeTurn (view w) c k
before_turn w c k good h stamps known lives = record { prefixes = good.prefixes; commits = good.commits; whole = h; stamps = stamps; placed = lives-placed (view w) k good.prefixes known lives }

put_whole : (w : World) (c : List Entry) (from to : Party) → Good w c → Whole (view w) c → Whole (view (after_put w from to)) (longest_at (after_put w from to) c)
put_whole w c from parties.Clients good h = stays w (after_put w from parties.Clients) c refl good (subst (λ v. Whole v c) (sym (view-given w from)) (aside_whole (view w) c from parties.Clients (w.link from parties.Clients ++ drop 1 (w.outbox from parties.Clients))
    (λ s. and_none (same parties.Master from) (w.link from parties.Clients ++ drop 1 (w.outbox from parties.Clients)) (channel w parties.Master (parties.Server s)))
    (λ s. and_none (same (parties.Server s) from) (w.link from parties.Clients ++ drop 1 (w.outbox from parties.Clients)) (channel w (parties.Server s) parties.Master))
    (λ p s. and_none (same (parties.Server p) from) (w.link from parties.Clients ++ drop 1 (w.outbox from parties.Clients)) (channel w (parties.Server p) (parties.Server s))) h))
put_whole w c from parties.Master good h = stays w (after_put w from parties.Master) c refl good (subst (λ v. Whole v c) (sym (view-put w from parties.Master refl)) h)
put_whole w c from (parties.Server id) good h = stays w (after_put w from (parties.Server id)) c refl good (subst (λ v. Whole v c) (sym (view-put w from (parties.Server id) refl)) h)

-- a message that is lost at the clients, or comes to the master from another one than a server
lost_whole : (w : World) (c : List Entry) (from to : Party) (m : Message) (ms : List Message) → ((s : ℕ) → same (parties.Server s) to ≡ false) → ((s : ℕ) → (same (parties.Server s) from && same parties.Master to) ≡ false) → w.link from to ≡ m ∷ ms → Whole (view w) c → Whole (view (without_first w from to)) c
lost_whole w c from to m ms no_server no_report at h = subst (λ v. Whole v c) (sym (view-without w from to m ms at)) (aside_whole (view w) c from to (ms ++ w.outbox from to)
    (λ s. not_both (same parties.Master from) (same (parties.Server s) to) (channel w parties.Master (parties.Server s)) (no_server s)) (λ s. ap (λ b. cond b (ms ++ w.outbox from to) (channel w (parties.Server s) parties.Master)) (no_report s))
    (λ p s. not_both (same (parties.Server p) from) (same (parties.Server s) to) (channel w (parties.Server p) (parties.Server s)) (no_server s)) h) where
      not_both : (a b : Bool) (us : List Message) → b ≡ false → cond (a && b) (ms ++ w.outbox from to) us ≡ us
      not_both true b us e = ap (λ t. cond t (ms ++ w.outbox from to) us) e
      not_both false b us e = refl

heard_by : (w : World) (c : List Entry) (from : Party) (m : Message) (ms : List Message) → w.link from parties.Master ≡ m ∷ ms → Good w c → Whole (view w) c → Whole (view (ordered (without_first w from parties.Master) (hears_from from m w.master))) c
heard_by w c parties.Master m ms at good h = subst (λ v. Whole v c) (sym (view_ordered (without_first w parties.Master parties.Master) (no_order w.master) ∙ said_nothing (view (without_first w parties.Master parties.Master)) w.master)) (lost_whole w c parties.Master parties.Master m ms (λ s. refl) (λ s. refl) at h)
heard_by w c parties.Clients m ms at good h = subst (λ v. Whole v c) (sym (view_ordered (without_first w parties.Clients parties.Master) (no_order w.master) ∙ said_nothing (view (without_first w parties.Clients parties.Master)) w.master)) (lost_whole w c parties.Clients parties.Master m ms (λ s. refl) (λ s. refl) at h)
heard_by w c (parties.Server p) m ms at good h =
    let order = hears p m w.master in
    let rest = ms ++ w.outbox (parties.Server p) parties.Master in
    let is : view (ordered (without_first w (parties.Server p) parties.Master) order) ≡ said (drained (view w) (parties.Server p) parties.Master rest) order.master order.said = view_ordered (without_first w (parties.Server p) parties.Master) order ∙ ap (λ v. said v order.master order.said) (view-without w (parties.Server p) parties.Master m ms at) in
    let kept = drained_keeps (view w) (parties.Server p) parties.Master rest (λ s. refl) (first_speaks w (parties.Server p) parties.Master m ms at good.prefixes) good.prefixes in
    subst (λ v. Whole v c) (sym is) (heard-whole (view w) c p m rest good.prefixes kept good.commits h (ap (λ us. us ++ w.outbox (parties.Server p) parties.Master) at))

taken_whole : (w : World) (c : List Entry) (from to : Party) (ms : List Message) → w.link from to ≡ ms → has_party w to ≡ true → is_down w to ≡ false → Good w c → Whole (view w) c → ((id : ℕ) → Stamped (w.server id).entries) → Whole (view (after_take w from to ms)) (longest_at (after_take w from to ms) c)
taken_whole w c from to [] at known lives good h stamps = stays w w c refl good h
taken_whole w c from parties.Master (m ∷ ms) at known lives good h stamps = stays w (ordered (without_first w from parties.Master) (hears_from from m w.master)) c refl good (heard_by w c from m ms at good h)
taken_whole w c from parties.Clients (m ∷ ms) at known lives good h stamps = stays w (without_first w from parties.Clients) c refl good (lost_whole w c from parties.Clients m ms (λ s. refl) (λ s. and_no (same (parties.Server s) from)) at h) where
  and_no : (b : Bool) → (b && false) ≡ false
  and_no true = refl
  and_no false = refl
taken_whole w c from (parties.Server k) (m ∷ ms) at known lives good h stamps =
    let rest = ms ++ w.outbox from (parties.Server k) in
    let prefix = ap (λ us. us ++ w.outbox from (parties.Server k)) at in
    let step = takes from m (w.server k) in
    let t = take-turn (view w) from k m rest good.prefixes known lives prefix in
    turns w (after_take w from (parties.Server k) (m ∷ ms)) c from k rest step.server step.sent good h (view-taken w from k m ms step at) t
    (take-feeding (view w) c from k m rest (before_turn w c k good h stamps known lives) lives prefix t (take-acting (view w) c from k m rest good.prefixes good.commits known lives prefix))

detect_whole : (w : World) (c : List Entry) (id : ℕ) → refusal_of_detect w id ≡ None → Good w c → Whole (view w) c → Whole (view (ordered w (detected id w.master))) (longest_at (ordered w (detected id w.master)) c)
unfolding refusal_of_detection
detect_whole w c id free good h =
    let parts = detect_parts (is_that w.master.joiner id) (is_in w.master.chain id) (w.server id).down (length w.master.chain) free in
    let more = λ (other : is_that w.master.joiner id ≡ false) (is : length w.master.chain ≡ 1). false≢true (sym (ap (λ n. nat_lt 1 n) is) ∙ (parts.1 other).1) in
    let chain = chain_some (view w) c good.prefixes good.commits in
    stays w (ordered w (detected id w.master)) c refl good (subst (λ v. Whole v c) (sym (view_ordered w (detected id w.master))) (detected-whole (view w) c id chain.0 chain.1 good.prefixes h chain.2 (λ other. ((parts.1 other).0, more other))))

join_event : (w : World) (c : List Entry) (id : ℕ) → refusal_of_join id w.master ≡ None → Good w c → Whole (view w) c → Whole (view (ordered w (joined id w.master))) (longest_at (ordered w (joined id w.master)) c)
unfolding refusal_of_join
join_event w c id free good h =
    let parts = join_parts (is_in w.master.used id) w.master.ready (is_none w.master.joiner) (length w.master.chain) free in
    let chain = chain_some (view w) c good.prefixes good.commits in
    stays w (ordered w (joined id w.master)) c refl good (subst (λ v. Whole v c) (sym (view_ordered w (joined id w.master))) (joined-whole (view w) c id chain.0 chain.1 good.prefixes good.commits h parts.0 (nobody w.master.joiner parts.2) chain.2)) where
      nobody : (o : Option ℕ) → is_none o ≡ true → o ≡ None
      nobody None none = refl
      nobody (Some j) none = absurd (false≢true none)

next_whole : (w : World) (c : List Entry) (event : Event) → refusal_of w event ≡ None → Good w c → Whole (view w) c → ((id : ℕ) → Stamped (w.server id).entries) → Whole (view (next w event)) (longest_at (next w event) c)
unfolding refusal_of next
next_whole w c (Arrive at clock request) free good h stamps =
    let parts = server-parts w at (refusal_of_arrival (w.server at)) free in
    let step = arrived clock request (w.server at) in
    let member = head-member (view w) at (lives-placed (view w) at good.prefixes parts.0 parts.1) (at-head (w.server at) parts.2) in
    let t = arrive-turn (view w) at clock request good.prefixes parts.0 parts.1 (at-head (w.server at) parts.2) in
    turns w (stepped w at step) c parties.Clients at (channel w parties.Clients (parties.Server at)) step.server step.sent good h (view-step w at step) t
    (arrive-feeding (view w) c at clock request (before_turn w c at good h stamps parts.0 parts.1) parts.1 (at-head (w.server at) parts.2) t (arrive-acting (view w) c at clock request good.prefixes good.commits member (at-head (w.server at) parts.2)))
next_whole w c (Ask at query) free good h stamps =
    let parts = server-parts w at (refusal_of_query (w.server at)) free in
    let step = asked query (w.server at) in
    turns w (stepped w at step) c parties.Clients at (channel w parties.Clients (parties.Server at)) step.server step.sent good h (view-step w at step) (ask-turn (view w) at query good.prefixes parts.0 parts.1) (ask-feeding (view w) c at query (before_turn w c at good h stamps parts.0 parts.1))
next_whole w c (Put from to) free good h stamps = put_whole w c from to good h
next_whole w c (Take from to) free good h stamps =
    let known = known-parts (has_party w from && has_party w to) (unless_down (is_down w to) (refusal_of_take w from to (w.link from to))) free in
    let lives = lives-parts (is_down w to) (refusal_of_take w from to (w.link from to)) known.1 in
    taken_whole w c from to (w.link from to) refl (and_parts (has_party w from) (has_party w to) known.0).1 lives.0 good h stamps
next_whole w c (Crash id) free good h stamps =
    let parts = server-parts w id (refusal_of_crash w id) free in
    let step = crashed (w.server id) in
    turns w (stepped w id step) c parties.Clients id (channel w parties.Clients (parties.Server id)) step.server step.sent good h (view-step w id step) (crash-turn (view w) id good.prefixes parts.0 parts.1) (crash-feeding (view w) c id (before_turn w c id good h stamps parts.0 parts.1))
next_whole w c (Detect id) free good h stamps = detect_whole w c id (known-parts (is_in w.master.used id) (refusal_of_detect w id) free).1 good h
next_whole w c (Join id) free good h stamps = join_event w c id free good h

unless_whole : (w : World) (c : List Entry) (event : Event) (refusal : Option WorldFault) → refusal_of w event ≡ refusal → Good w c → Whole (view w) c → ((id : ℕ) → Stamped (w.server id).entries) → Whole (view (unless_refused w event refusal)) (longest_at (unless_refused w event refusal) c)
unless_whole w c event None free good h stamps = next_whole w c event free good h stamps
unless_whole w c event (Some fault) refused good h stamps = stays w w c refl good h

after_whole : (w : World) (c : List Entry) (event : Event) → Good w c → Whole (view w) c → ((id : ℕ) → Stamped (w.server id).entries) → Whole (view (after w event)) (longest_at (after w event) c)
unfolding after
after_whole w c event good h stamps = unless_whole w c event (refusal_of w event) refl good h stamps

-- ---- runs

-- the histories are stamped, since they hold what arrived
stamped_all : (arrivals : List Arrival) (w : World) → Arrived arrivals w → (id : ℕ) → Stamped (w.server id).entries
stamped_all arrivals w h id = (arrivals-stamped 0 (w.server id).entries arrivals (h id)).1

runs_whole : (events : List Event) (w : World) (c : List Entry) (arrivals : List Arrival) → Good w (longest_at w c) → Whole (view w) (longest_at w c) → Arrived arrivals w → Whole (view (world_after w events)) (longest_from c w events)
unfolding world_after longest_from
runs_whole [] w c arrivals good h stamps = h
runs_whole (event ∷ events) w c arrivals good h stamps = runs_whole events (after w event) (longest_at w c) (arrivals ++ arrival_if event (refusal_of w event)) (onward w (longest_at w c) event good).good (after_whole w (longest_at w c) event good h (stamped_all arrivals w stamps)) (after-arrived w event arrivals good.prefixes stamps)

-- All sentences hold after any list of events.
pub whole-of-run : (size : ℕ) (events : List Event) → 1 ≤ size → Good (first_world size) (longest_at (first_world size) []) → Whole (view (world_after (first_world size) events)) (longest_from [] (first_world size) events)
whole-of-run size events some good = runs_whole events (first_world size) [] [] good (subst (λ us. Whole (view (first_world size)) us) (sym (longest-same (first_world size) (view (first_world size)) [] refl (commits-first size some))) (whole_first size some)) (first-arrived size)
