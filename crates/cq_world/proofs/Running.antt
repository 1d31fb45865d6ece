-- What every event keeps: histories stay prefixes of each other, and what is committed only grows.
use Rattle.std.proofs.Common.{◌≡◌, ℕ, ◌+◌, ◌≤◌, ◌∙◌, ap, sym, List, [], ◌∷◌, ◌++◌, drop, length, ◌&&◌, not, Option, Some, None, is_none, Bool, true, false, cond, eqb, subst, refl, inl, inr, nat_lt, append_assoc}
use Rattle.std.specs.List.{list_any}
use Rattle.std.proofs.lemmas.Bool.{eq-eqb, false≢true, and_parts, or_cases, or_left, or_right}
use Rattle.cq_base.specs.declared.ask.Entry.{Entry}
use Rattle.cq_base.specs.declared.party.Party.{Party}
use Rattle.cq_base.specs.declared.party.Party.TheVariants as parties
use Rattle.cq_base.specs.Relations.{IsPrefix}
use Rattle.cq_chain.specs.declared.fault.WorldFault.{WorldFault}
use Rattle.cq_chain.specs.declared.fault.WorldFault.TheVariants.{LastFull, NotDown, NoSuchServer, IdUsed, ChainFull, JoinPending}
use Rattle.cq_chain.specs.Masters.{Order, is_in, is_last, detected, joined, hears, hears_from, no_order, refusal_of_detection, refusal_of_join, most_members}
use Rattle.cq_chain.specs.Messages.{Message}
use Rattle.cq_chain.specs.Parties.{same, addressed, is_that}
use Rattle.cq_chain.specs.Refusals.{refusal_of_arrival, refusal_of_query}
use Rattle.cq_chain.specs.Servers.{Server}
use Rattle.cq_chain.specs.Steps.{arrived, asked, takes, crashed}
use Rattle.cq_events.specs.Events.{has_party, unless_down, is_down, another_full, refusal_of_crash, refusal_of_detect, refusal_of, refusal_of_take, after, next, unless_refused, after_take, without_first, after_put}
use Rattle.cq_world.specs.Laws.{Speaks}
use Rattle.cq_events.specs.Runs.{world_after, longer, acting_history, longest_at, longest_from}
use Rattle.cq_events.specs.Worlds.{World, first_world, channel, stepped, ordered}
use Rattle.cq_events.specs.declared.event.Event.{Event}
use Rattle.cq_events.specs.declared.event.Event.TheVariants.{Arrive, Ask, Put, Take, Crash, Detect, Join}
use Rattle.cq_world.proofs.Prefixes.Climbing.{reports, one, Climbs}
use Rattle.cq_world.proofs.Commits.Changes.{detected-commits, joined-commits}
use Rattle.cq_world.proofs.Commits.Orders.{heard-commits, said_nothing}
use Rattle.cq_world.proofs.Commits.Steps.{take-acting, arrive-acting, ask-acting, crash-acting}
use Rattle.cq_world.proofs.Commits.Turns.{Acting, turn-commits, turn-grows}
use Rattle.cq_world.proofs.Commits.{Commits, Names, Pairs, Retires, HandsOver, Enough, Zero, NotOn, Free, tails, readies, bit, waits, longest-same, longest-turn}
use Rattle.cq_world.proofs.Eaches.{Each, each-append, each-drop, prefix-refl, prefix-trans, some_none}
use Rattle.cq_world.proofs.First.{prefixes-first, commits-first}
use Rattle.cq_world.proofs.Prefixes.Orders.{alone, said-keeps, dropped-keeps, dropped-said, detected-said, joined-said, heard-said}
use Rattle.cq_events.proofs.Parties.{same-true}
use Rattle.cq_world.proofs.Prefixes.{Prefixes, Linked, LinkedExtended, Heads, Outsider, Turn, turn-keeps}
use Rattle.cq_world.proofs.Views.{View, extended, view, turn, said, drained, same_channels}
use Rattle.cq_world.proofs.Views.{view-put, view-given, view-step, view-taken, view-without}
use Rattle.cq_world.proofs.Prefixes.Steps.{lives-placed, acting-member, full-member, head-member, take-turn, arrive-turn, ask-turn, crash-turn}
use Rattle.cq_world.proofs.Unrefused.{known-parts, lives-parts, server-parts, at-head, at-tail}

-- ---- channels that end neither at a server nor begin at the master

-- a channel that doesn't end at a server goes on with what is of the same history
pub drained_keeps : (v : View) (from to : Party) (rest : List Message) → ((s : ℕ) → same (parties.Server s) to ≡ false) → ((id : ℕ) → same (parties.Server id) from ≡ true → Each (Speaks (v.server id).entries) rest) → Prefixes v → Prefixes (drained v from to rest)
drained_keeps v from to rest no_server says h = record {
  apart = h.apart;
  members = h.members;
  away = λ id used out. elim (h.away id used out) [ inl down ↦ inl down | inr b ↦ inr (subst (λ ms. Outsider (v.server id) ms) (sym (row id)) b) ];
  aside = λ id joins. subst (λ ms. Outsider (v.server id) ms) (sym (row id)) (h.aside id joins);
  fresh = λ id unused. ((h.fresh id unused).0, row id ∙ (h.fresh id unused).1);
  speaks = λ id x. go id x (same (parties.Server id) from) (same x to) refl;
  climbs = λ id. subst (λ ms. Climbs v.server id (one (v.server id).pred ++ reports ms)) (sym (row id)) (h.climbs id);
  linked = linked_same (extended v.master) h.linked;
  heads = λ id member. subst (λ ms. Heads (extended v.master) id ms) (sym (row id)) (h.heads id member);
  headless = λ id member is. ap (λ ms. one (v.server id).pred ++ reports ms) (row id) ∙ h.headless id member is;
} where
  and_false : (b c : Bool) (us ws : List Message) → c ≡ false → cond (b && c) us ws ≡ ws
  and_false true c us ws e = ap (λ t. cond t us ws) e
  and_false false c us ws e = refl

  row : (s : ℕ) → (drained v from to rest).channel parties.Master (parties.Server s) ≡ v.channel parties.Master (parties.Server s)
  row s = and_false (same parties.Master from) (same (parties.Server s) to) rest (v.channel parties.Master (parties.Server s)) (no_server s)

  go : (id : ℕ) (x : Party) (b c : Bool) → same (parties.Server id) from ≡ b → Each (Speaks (v.server id).entries) (cond (b && c) rest (v.channel (parties.Server id) x))
  go id x true true e = says id e
  go id x true false e = h.speaks id x
  go id x false c e = h.speaks id x

  linked_on : (p : ℕ) (extended : List ℕ) → Linked v p extended → Linked (drained v from to rest) p extended
  linked_on p [] l = tt
  linked_on p (s ∷ extended) l = (ap (λ ms. is_last (one (v.server s).pred ++ reports ms) p) (row s) ∙ l.0, linked_on s extended l.1)

  linked_same : (extended : List ℕ) → LinkedExtended v extended → LinkedExtended (drained v from to rest) extended
  linked_same [] l = tt
  linked_same (a ∷ extended) l = linked_on a extended l

-- where the rows between the master and servers stay, so do the sentences on who acts
aside_commits : (v : View) (c : List Entry) (from to : Party) (rest : List Message) → ((s : ℕ) → (drained v from to rest).channel parties.Master (parties.Server s) ≡ v.channel parties.Master (parties.Server s))
    → ((s : ℕ) → (drained v from to rest).channel (parties.Server s) parties.Master ≡ v.channel (parties.Server s) parties.Master) → Commits v c → Commits (drained v from to rest) c
aside_commits v c from to rest orders told h = record {
  acting = h.acting;
  silent = λ id unused. told id ∙ h.silent id unused;
  orders_named = λ id. subst (λ ms. Each (Names v.master.used) ms) (sym (orders id)) (h.orders_named id);
  reports_named = λ id. subst (λ ms. Each (Names v.master.used) ms) (sym (told id)) (h.reports_named id);
  pairs = λ id member. subst (λ ms. Each (Pairs v.master.chain id) ms) (sym (orders id)) (h.pairs id member);
  stages = λ id member. ap (λ n. n + (readies ((drained v from to rest).channel (parties.Server id) parties.Master) + bit (waits (v.server id)))) (ap tails (orders id))
      ∙ ap (λ n. tails (v.channel parties.Master (parties.Server id)) + (n + bit (waits (v.server id)))) (ap readies (told id)) ∙ h.stages id member;
  alone = h.alone;
  untold = h.untold;
  heard = λ id last is none. h.heard id last is (ap tails (sym (orders id)) ∙ none);
  ready = h.ready;
  retires = λ id last. subst Retires (sym (orders id)) (h.retires id last);
  hands_over = λ untold x last id. subst (λ ms. Each (HandsOver (length c) (Free v) x) ms) (sym (told id)) (h.hands_over untold x last id);
  young_last = h.young_last;
  young_least = h.young_least;
  young_told = λ id member young. subst (λ ms. Each (Enough (length c)) ms) (sym (orders id)) (h.young_told id member young);
  young = h.young;
  old = h.old;
  old_least = h.old_least;
  old_told = λ id member full. subst (λ ms. Each Zero ms) (sym (orders id)) (h.old_told id member full);
  joins_ready = h.joins_ready;
  unnamed_orders = λ j joins id. subst (λ ms. Each (NotOn j) ms) (sym (orders id)) (h.unnamed_orders j joins id);
  unnamed_reports = λ j joins id. subst (λ ms. Each (NotOn j) ms) (sym (told id)) (h.unnamed_reports j joins id);
  unready = λ j joins. ap readies (told j) ∙ h.unready j joins;
  reached = h.reached;
  lives = h.lives;
}

-- ---- worlds

-- What holds of a world, and of what is committed in it.
pub record Good (w : World) (c : List Entry) : Type 0 where
  pub prefixes : Prefixes (view w)
  pub commits : Commits (view w) c

-- What holds of the next world.
pub record Onward (w : World) (c : List Entry) (new : World) : Type 0 where
  pub good : Good new (longest_at new c)
  pub grows : IsPrefix c (longest_at new c)

-- where no server has changed
pub stays_good : (w new : World) (c : List Entry) → new.server ≡ w.server → Commits (view w) c → Prefixes (view new) → Commits (view new) c → Onward w c new
stays_good w new c servers old prefixes commits = let same_list = longest-same new (view w) c servers old in record {
  good = record { prefixes = prefixes; commits = subst (λ us. Commits (view new) us) (sym same_list) commits };
  grows = subst (λ us. IsPrefix c us) (sym same_list) (prefix-refl c);
}

-- what is committed after a turn of a server
pub list-turned : (w new : World) (c : List Entry) (from : Party) (k : ℕ) (rest : List Message) (s : Server) (out : List (Party × Message)) → Good w c → view new ≡ turn (view w) from k rest s out → is_in w.master.used k ≡ true → longest_at new c ≡ longer c (acting_history s)
list-turned w new c from k rest s out good is known = longest-turn new (view w) c k s (ap (λ v. v.server) is) (ap (λ v. is_in v.master.used k) is ∙ known) good.commits

-- where a server has made a turn
turns_good : (w new : World) (c : List Entry) (from : Party) (k : ℕ) (rest : List Message) (s : Server) (out : List (Party × Message)) → Good w c → view new ≡ turn (view w) from k rest s out
    → Turn (view w) from k rest s out → Acting (view w) c from k rest s out → Onward w c new
turns_good w new c from k rest s out good is t a =
    let same_list = list-turned w new c from k rest s out good is t.known in record {
      good = record {
        prefixes = subst Prefixes (sym is) (turn-keeps (view w) from k rest s out good.prefixes t);
        commits = subst (λ us. Commits (view new) us) (sym same_list) (subst (λ v. Commits v (longer c (acting_history s))) (sym is) (turn-commits (view w) c from k rest s out good.prefixes good.commits t a));
      };
      grows = subst (λ us. IsPrefix c us) (sym same_list) (turn-grows (view w) c from k rest s out good.prefixes good.commits t a);
    }

-- ---- puts

each_parts : (P : Message → Type 0) (xs ys : List Message) → Each P (xs ++ ys) → Each P xs × Each P ys
each_parts P [] ys h = (tt, h)
each_parts P (x ∷ xs) ys h = let rest = each_parts P xs ys h.1 in ((h.0, rest.0), rest.1)

-- what is given leaves the rest
pub given_speaks : (w : World) (from : Party) (id : ℕ) → same (parties.Server id) from ≡ true → Prefixes (view w) → Each (Speaks (w.server id).entries) (w.link from parties.Clients ++ drop 1 (w.outbox from parties.Clients))
given_speaks w from id is h =
    let own = subst (λ p. Each (Speaks (w.server id).entries) (channel w p parties.Clients)) (same-true (parties.Server id) from is) (h.speaks id parties.Clients) in
    let parts = each_parts (Speaks (w.server id).entries) (w.link from parties.Clients) (w.outbox from parties.Clients) own in
    each-append (Speaks (w.server id).entries) (w.link from parties.Clients) (drop 1 (w.outbox from parties.Clients)) parts.0 (each-drop (Speaks (w.server id).entries) (w.outbox from parties.Clients) parts.1)

and_none : (b : Bool) (us ws : List Message) → cond (b && false) us ws ≡ ws
and_none true us ws = refl
and_none false us ws = refl

put_good : (w : World) (c : List Entry) (from to : Party) → Good w c → Onward w c (after_put w from to)
put_good w c from parties.Clients good = stays_good w (after_put w from parties.Clients) c refl good.commits
    (subst Prefixes (sym (view-given w from)) (drained_keeps (view w) from parties.Clients (w.link from parties.Clients ++ drop 1 (w.outbox from parties.Clients)) (λ s. refl) (λ id is. given_speaks w from id is good.prefixes) good.prefixes))
    (subst (λ v. Commits v c) (sym (view-given w from)) (aside_commits (view w) c from parties.Clients (w.link from parties.Clients ++ drop 1 (w.outbox from parties.Clients))
    (λ s. and_none (same parties.Master from) (w.link from parties.Clients ++ drop 1 (w.outbox from parties.Clients)) (channel w parties.Master (parties.Server s)))
    (λ s. and_none (same (parties.Server s) from) (w.link from parties.Clients ++ drop 1 (w.outbox from parties.Clients)) (channel w (parties.Server s) parties.Master)) good.commits))
put_good w c from parties.Master good = stays_good w (after_put w from parties.Master) c refl good.commits (subst Prefixes (sym (view-put w from parties.Master refl)) good.prefixes) (subst (λ v. Commits v c) (sym (view-put w from parties.Master refl)) good.commits)
put_good w c from (parties.Server id) good = stays_good w (after_put w from (parties.Server id)) c refl good.commits (subst Prefixes (sym (view-put w from (parties.Server id) refl)) good.prefixes) (subst (λ v. Commits v c) (sym (view-put w from (parties.Server id) refl)) good.commits)

-- ---- orders of the master

-- an order, as it is seen
pub view_ordered : (w : World) (order : Order) → view (ordered w order) ≡ said (view w) order.master order.said
view_ordered w order = ap (λ c. record { server = w.server; channel = c; master = order.master }) (same_channels _ _ (λ x y. go x y (same x parties.Master))) where
  go : (x y : Party) (t : Bool) → w.link x y ++ cond t (w.outbox x y ++ addressed y order.said) (w.outbox x y) ≡ cond t ((w.link x y ++ w.outbox x y) ++ addressed y order.said) (w.link x y ++ w.outbox x y)
  go x y true = sym (append_assoc (w.link x y) (w.outbox x y) (addressed y order.said))
  go x y false = refl

-- what is of a sender's history in a link and in an outbox, without the first message
pub link_speaks : (w : World) (id : ℕ) (to : Party) (m : Message) (ms : List Message) → w.link (parties.Server id) to ≡ m ∷ ms → Prefixes (view w) → Each (Speaks (w.server id).entries) (ms ++ w.outbox (parties.Server id) to)
link_speaks w id to m ms at h = (subst (λ us. Each (Speaks (w.server id).entries) (us ++ w.outbox (parties.Server id) to)) at (h.speaks id to)).1

-- the same, of any sender
pub first_speaks : (w : World) (from to : Party) (m : Message) (ms : List Message) → w.link from to ≡ m ∷ ms → Prefixes (view w) → (id : ℕ) → same (parties.Server id) from ≡ true → Each (Speaks (w.server id).entries) (ms ++ w.outbox from to)
first_speaks w from to m ms at h id is = subst (λ p. Each (Speaks (w.server id).entries) (ms ++ w.outbox p to)) (same-true (parties.Server id) from is) (link_speaks w id to m ms (ap (λ p. w.link p to) (same-true (parties.Server id) from is) ∙ at) h)

-- a message that is lost at the clients, or comes to the master from another one than a server
pub lost_good : (w : World) (c : List Entry) (from to : Party) (m : Message) (ms : List Message) → ((s : ℕ) → same (parties.Server s) to ≡ false) → ((s : ℕ) → (same (parties.Server s) from && same parties.Master to) ≡ false) → w.link from to ≡ m ∷ ms → Good w c
    → Prefixes (view (without_first w from to)) × Commits (view (without_first w from to)) c
lost_good w c from to m ms no_server no_report at good = (
  subst Prefixes (sym (view-without w from to m ms at)) (drained_keeps (view w) from to (ms ++ w.outbox from to) no_server (first_speaks w from to m ms at good.prefixes) good.prefixes),
  subst (λ v. Commits v c) (sym (view-without w from to m ms at)) (aside_commits (view w) c from to (ms ++ w.outbox from to)
      (λ s. not_both (same parties.Master from) (same (parties.Server s) to) (channel w parties.Master (parties.Server s)) (no_server s)) (λ s. ap (λ b. cond b (ms ++ w.outbox from to) (channel w (parties.Server s) parties.Master)) (no_report s)) good.commits),
) where
  not_both : (a b : Bool) (us : List Message) → b ≡ false → cond (a && b) (ms ++ w.outbox from to) us ≡ us
  not_both true b us e = ap (λ t. cond t (ms ++ w.outbox from to) us) e
  not_both false b us e = refl

-- a message that the master takes
heard_good : (w : World) (c : List Entry) (from : Party) (m : Message) (ms : List Message) → w.link from parties.Master ≡ m ∷ ms → Good w c → Onward w c (ordered (without_first w from parties.Master) (hears_from from m w.master))
heard_good w c parties.Master m ms at good = let lost = lost_good w c parties.Master parties.Master m ms (λ s. refl) (λ s. refl) at good in
    let is = view_ordered (without_first w parties.Master parties.Master) (no_order w.master) ∙ said_nothing (view (without_first w parties.Master parties.Master)) w.master in
    stays_good w _ c refl good.commits (subst Prefixes (sym is) lost.0) (subst (λ v. Commits v c) (sym is) lost.1)
heard_good w c parties.Clients m ms at good = let lost = lost_good w c parties.Clients parties.Master m ms (λ s. refl) (λ s. refl) at good in
    let is = view_ordered (without_first w parties.Clients parties.Master) (no_order w.master) ∙ said_nothing (view (without_first w parties.Clients parties.Master)) w.master in
    stays_good w _ c refl good.commits (subst Prefixes (sym is) lost.0) (subst (λ v. Commits v c) (sym is) lost.1)
heard_good w c (parties.Server p) m ms at good =
    let order = hears p m w.master in
    let rest = ms ++ w.outbox (parties.Server p) parties.Master in
    let d = drained (view w) (parties.Server p) parties.Master rest in
    let is : view (ordered (without_first w (parties.Server p) parties.Master) order) ≡ said d order.master order.said = view_ordered (without_first w (parties.Server p) parties.Master) order ∙ ap (λ v. said v order.master order.said) (view-without w (parties.Server p) parties.Master m ms at) in
    let kept = drained_keeps (view w) (parties.Server p) parties.Master rest (λ s. refl) (first_speaks w (parties.Server p) parties.Master m ms at good.prefixes) good.prefixes in
    stays_good w (ordered (without_first w (parties.Server p) parties.Master) order) c refl good.commits
    (subst Prefixes (sym is) (said-keeps d order.master order.said kept (heard-said d p m kept)))
    (subst (λ v. Commits v c) (sym is) (heard-commits (view w) c p m rest kept good.commits (ap (λ us. us ++ w.outbox (parties.Server p) parties.Master) at)))

-- ---- takes

taken_good : (w : World) (c : List Entry) (from to : Party) (ms : List Message) → w.link from to ≡ ms → has_party w to ≡ true → is_down w to ≡ false → Good w c → Onward w c (after_take w from to ms)
taken_good w c from to [] at known lives good = stays_good w w c refl good.commits good.prefixes good.commits
taken_good w c from parties.Master (m ∷ ms) at known lives good = heard_good w c from m ms at good
taken_good w c from parties.Clients (m ∷ ms) at known lives good = let lost = lost_good w c from parties.Clients m ms (λ s. refl) (λ s. and_no (same (parties.Server s) from)) at good in
    stays_good w (without_first w from parties.Clients) c refl good.commits lost.0 lost.1 where
      and_no : (b : Bool) → (b && false) ≡ false
      and_no true = refl
      and_no false = refl
taken_good w c from (parties.Server k) (m ∷ ms) at known lives good =
    let rest = ms ++ w.outbox from (parties.Server k) in
    let prefix = ap (λ us. us ++ w.outbox from (parties.Server k)) at in
    turns_good w (after_take w from (parties.Server k) (m ∷ ms)) c from k rest (takes from m (w.server k)).server (takes from m (w.server k)).sent good (view-taken w from k m ms (takes from m (w.server k)) at)
    (take-turn (view w) from k m rest good.prefixes known lives prefix) (take-acting (view w) c from k m rest good.prefixes good.commits known lives prefix)

-- ---- changes

-- another server that is full and lives
pub find_full : (w : World) (id : ℕ) (ids : List ℕ) → list_any (λ other. not (eqb other id) && (w.server other).full && not (w.server other).down) ids ≡ true
    → (other : ℕ) × (is_in ids other ≡ true) × (eqb other id ≡ false) × ((w.server other).full ≡ true) × ((w.server other).down ≡ false)
find_full w id [] h = absurd (false≢true h)
find_full w id (x ∷ ids) h = elim (or_cases (not (eqb x id) && (w.server x).full && not (w.server x).down) (list_any (λ other. not (eqb other id) && (w.server other).full && not (w.server other).down) ids) h) [
  | inl here ↦ let outer = and_parts (not (eqb x id) && (w.server x).full) (not (w.server x).down) here in
      let inner = and_parts (not (eqb x id)) (w.server x).full outer.0 in
      (x, or_left (eqb x x) (is_in ids x) (eq-eqb x x refl), negated (eqb x id) inner.0, inner.1, negated (w.server x).down outer.1)
  | inr later ↦ let found = find_full w id ids later in (found.0, or_right (eqb x found.0) (is_in ids found.0) found.1, found.2, found.3, found.4)
] where
  negated : (b : Bool) → not b ≡ true → b ≡ false
  negated true e = absurd (false≢true e)
  negated false e = refl

pub some_refused : (b : Bool) (fault : WorldFault) → cond b None (Some fault) ≡ None → b ≡ true
some_refused true fault h = refl
some_refused false fault h = absurd (some_none fault h)

crash_good : (w : World) (c : List Entry) (id : ℕ) → is_in w.master.used id ≡ true → (w.server id).down ≡ false → refusal_of_crash w id ≡ None → Good w c → Onward w c (stepped w id (crashed (w.server id)))
crash_good w c id known lives free good =
    let other = find_full w id w.master.used (some_refused (another_full w id) LastFull free) in
    turns_good w (stepped w id (crashed (w.server id))) c parties.Clients id (channel w parties.Clients (parties.Server id)) (crashed (w.server id)).server (crashed (w.server id)).sent good (view-step w id (crashed (w.server id)))
    (crash-turn (view w) id good.prefixes known lives)
    (crash-acting (view w) c id good.prefixes good.commits (lives-placed (view w) id good.prefixes known lives) other.0 other.2 other.1 other.3 other.4)

-- what a detection that isn't refused tells
member_parts : (b : Bool) (n : ℕ) → cond (not b) (Some NoSuchServer) (cond (nat_lt 1 n) None (Some LastFull)) ≡ None → (b ≡ true) × (nat_lt 1 n ≡ true)
member_parts false n h = absurd (some_none NoSuchServer h)
member_parts true n h = (refl, some_refused (nat_lt 1 n) LastFull h)

pub detect_parts : (j b d : Bool) (n : ℕ) → cond d (cond j None (cond (not b) (Some NoSuchServer) (cond (nat_lt 1 n) None (Some LastFull)))) (Some NotDown) ≡ None → (d ≡ true) × (j ≡ false → (b ≡ true) × (nat_lt 1 n ≡ true))
detect_parts j b false n h = absurd (some_none NotDown h)
detect_parts true b true n h = (refl, λ none. absurd (false≢true (sym none)))
detect_parts false b true n h = (refl, λ none. member_parts b n h)

-- a chain has a member, since a full server lives
pub chain_some : (v : View) (c : List Entry) → Prefixes v → Commits v c → (a : ℕ) × (rest : List ℕ) × (v.master.chain ≡ a ∷ rest)
chain_some v c g h = go v.master.chain refl (full-member v h.lives.0 (lives-placed v h.lives.0 g h.lives.1 h.lives.3) h.lives.2) where
  go : (chain : List ℕ) → v.master.chain ≡ chain → is_in v.master.chain h.lives.0 ≡ true → (a : ℕ) × (rest : List ℕ) × (v.master.chain ≡ a ∷ rest)
  go [] is member = absurd (false≢true (sym (ap (λ us. is_in us h.lives.0) is) ∙ member))
  go (a ∷ rest) is member = (a, rest, is)

detect_good : (w : World) (c : List Entry) (id : ℕ) → refusal_of_detect w id ≡ None → Good w c → Onward w c (ordered w (detected id w.master))
unfolding refusal_of_detection
detect_good w c id free good =
    let parts = detect_parts (is_that w.master.joiner id) (is_in w.master.chain id) (w.server id).down (length w.master.chain) free in
    let more = λ (other : is_that w.master.joiner id ≡ false) (is : length w.master.chain ≡ 1). false≢true (sym (ap (λ n. nat_lt 1 n) is) ∙ (parts.1 other).1) in
    let chain = chain_some (view w) c good.prefixes good.commits in
    let is = view_ordered w (detected id w.master) in
    stays_good w (ordered w (detected id w.master)) c refl good.commits
    (subst Prefixes (sym is) (detected-said (view w) id good.prefixes parts.0 (λ other. ((parts.1 other).0, more other)) (dropped-said (view w) chain.0 chain.1 good.prefixes chain.2)))
    (subst (λ v. Commits v c) (sym is) (detected-commits (view w) c id chain.0 chain.1 good.prefixes good.commits chain.2 more))

pub join_parts : (u r j : Bool) (n : ℕ) → cond u (Some IdUsed) (cond (not (nat_lt n most_members)) (Some ChainFull) (cond (r && j) None (Some JoinPending))) ≡ None → (u ≡ false) × (r ≡ true) × (j ≡ true)
join_parts true r j n h = absurd (some_none IdUsed h)
join_parts false r j n h = go (nat_lt n most_members) h where
  go : (b : Bool) → cond (not b) (Some ChainFull) (cond (r && j) None (Some JoinPending)) ≡ None → (false ≡ false) × (r ≡ true) × (j ≡ true)
  go true k = let both = and_parts r j (some_refused (r && j) JoinPending k) in (refl, both.0, both.1)
  go false k = absurd (some_none ChainFull k)

join_good : (w : World) (c : List Entry) (id : ℕ) → refusal_of_join id w.master ≡ None → Good w c → Onward w c (ordered w (joined id w.master))
unfolding refusal_of_join
join_good w c id free good =
    let parts = join_parts (is_in w.master.used id) w.master.ready (is_none w.master.joiner) (length w.master.chain) free in
    let chain = chain_some (view w) c good.prefixes good.commits in
    let is = view_ordered w (joined id w.master) in
    stays_good w (ordered w (joined id w.master)) c refl good.commits
    (subst Prefixes (sym is) (said-keeps (record (view w) { master = alone w.master }) (joined id w.master).master (joined id w.master).said (dropped-keeps (view w) good.prefixes) (joined-said (view w) id chain.0 chain.1 good.prefixes parts.0 chain.2)))
    (subst (λ v. Commits v c) (sym is) (joined-commits (view w) c id chain.0 chain.1 good.prefixes good.commits parts.0 parts.1 chain.2))

-- ---- events

-- an event that isn't refused
next_good : (w : World) (c : List Entry) (event : Event) → refusal_of w event ≡ None → Good w c → Onward w c (next w event)
unfolding refusal_of next
next_good w c (Arrive at clock request) free good = let parts = server-parts w at (refusal_of_arrival (w.server at)) free in
    turns_good w (stepped w at (arrived clock request (w.server at))) c parties.Clients at (channel w parties.Clients (parties.Server at)) (arrived clock request (w.server at)).server (arrived clock request (w.server at)).sent good (view-step w at (arrived clock request (w.server at)))
    (arrive-turn (view w) at clock request good.prefixes parts.0 parts.1 (at-head (w.server at) parts.2))
    (arrive-acting (view w) c at clock request good.prefixes good.commits (head-member (view w) at (lives-placed (view w) at good.prefixes parts.0 parts.1) (at-head (w.server at) parts.2)) (at-head (w.server at) parts.2))
next_good w c (Ask at query) free good = let parts = server-parts w at (refusal_of_query (w.server at)) free in
    turns_good w (stepped w at (asked query (w.server at))) c parties.Clients at (channel w parties.Clients (parties.Server at)) (asked query (w.server at)).server (asked query (w.server at)).sent good (view-step w at (asked query (w.server at)))
    (ask-turn (view w) at query good.prefixes parts.0 parts.1) (ask-acting (view w) c at query good.prefixes good.commits (acting-member (view w) at (lives-placed (view w) at good.prefixes parts.0 parts.1) (at-tail (w.server at) parts.2)))
next_good w c (Put from to) free good = put_good w c from to good
next_good w c (Take from to) free good =
    let known = known-parts (has_party w from && has_party w to) (unless_down (is_down w to) (refusal_of_take w from to (w.link from to))) free in
    let lives = lives-parts (is_down w to) (refusal_of_take w from to (w.link from to)) known.1 in
    taken_good w c from to (w.link from to) refl (and_parts (has_party w from) (has_party w to) known.0).1 lives.0 good
next_good w c (Crash id) free good = let parts = server-parts w id (refusal_of_crash w id) free in crash_good w c id parts.0 parts.1 parts.2 good
next_good w c (Detect id) free good = detect_good w c id (known-parts (is_in w.master.used id) (refusal_of_detect w id) free).1 good
next_good w c (Join id) free good = join_good w c id free good

unless_good : (w : World) (c : List Entry) (event : Event) (refusal : Option WorldFault) → refusal_of w event ≡ refusal → Good w c → Onward w c (unless_refused w event refusal)
unless_good w c event None free good = next_good w c event free good
unless_good w c event (Some fault) refused good = stays_good w w c refl good.commits good.prefixes good.commits

-- Any event.
pub onward : (w : World) (c : List Entry) (event : Event) → Good w c → Onward w c (after w event)
unfolding after
onward w c event good = unless_good w c event (refusal_of w event) refl good

-- ---- runs

-- The first world.
pub first-good : (size : ℕ) → 1 ≤ size → Good (first_world size) (longest_at (first_world size) [])
first-good size some = record { prefixes = prefixes-first size; commits = subst (λ us. Commits (view (first_world size)) us) (sym (longest-same (first_world size) (view (first_world size)) [] refl (commits-first size some))) (commits-first size some) }

-- All sentences hold after any list of events.
pub runs-good : (events : List Event) (w : World) (c : List Entry) → Good w (longest_at w c) → Good (world_after w events) (longest_from c w events)
unfolding world_after longest_from
runs-good [] w c good = good
runs-good (event ∷ events) w c good = runs-good events (after w event) (longest_at w c) (onward w (longest_at w c) event good).good

-- What is committed only grows.
pub runs-grow : (events : List Event) (w : World) (c : List Entry) → Good w (longest_at w c) → IsPrefix (longest_at w c) (longest_from c w events)
unfolding longest_from
runs-grow [] w c good = prefix-refl (longest_at w c)
runs-grow (event ∷ events) w c good = let step = onward w (longest_at w c) event good in
    prefix-trans (longest_at w c) (longest_at (after w event) (longest_at w c)) (longest_from (longest_at w c) (after w event) events) step.grows (runs-grow events (after w event) (longest_at w c) step.good)
