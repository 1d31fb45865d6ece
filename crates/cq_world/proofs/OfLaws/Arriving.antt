-- Every history holds requests that arrived, in order.
use Rattle.std.proofs.Common.{◌≡◌, ℕ, ◌+◌, ◌≤◌, ◌&&◌, sym, List, [], ◌∷◌, ◌++◌, Option, Some, None, Bool, true, false, cond, eqb, arith, inl, inr, subst, refl, max, min, nat_lt, nat_le, length, append_assoc}
use Rattle.std.specs.List.{fold}
use Rattle.std.proofs.lemmas.Bool.{and_parts}
use Rattle.cq_base.specs.declared.ask.Entry.{Entry}
use Rattle.cq_base.specs.declared.ask.Query.{Query}
use Rattle.cq_base.specs.declared.ask.Request.{Request}
use Rattle.cq_base.specs.declared.party.Party.{Party}
use Rattle.cq_base.specs.declared.party.Party.TheVariants as parties
use Rattle.cq_base.specs.queue.History.{last_moment}
use Rattle.cq_base.specs.Relations.{Among, IsPrefix}
use Rattle.cq_chain.specs.declared.fault.WorldFault.{WorldFault}
use Rattle.cq_chain.specs.Messages.{Message, Fwd, Snap, Ack, BeHead, Report, Adopt, BeTail, Feed}
use Rattle.cq_chain.specs.Servers.{Server, acts, is_that, first_member, joining}
use Rattle.cq_chain.specs.Steps.{Step, silent, to_server, stamped, arrived, asked, appended, is_next, forwarded, is_restoring, with_history, restored, feeding, as_tail, takes, crashed}
use Rattle.cq_store.specs.Laws.{Stamped}
use Rattle.cq_events.specs.Worlds.{World, is_in, numbers_from, first_world, stepped}
use Rattle.cq_events.specs.Events.{refusal_of, after, next, unless_refused, after_take, without_first}
use Rattle.cq_world.specs.Laws.{Arrival, arrival_if, arrivals_from, AreArrivals, Speaks}
use Rattle.cq_events.specs.Runs.{world_after, longest_at}
use Rattle.cq_events.specs.declared.event.Event.{Event}
use Rattle.cq_events.specs.declared.event.Event.TheVariants.{Arrive, Ask, Put, Take, Crash, Detect, Join}
use Rattle.cq_world.proofs.Eaches.{Each, by_id}
use Rattle.cq_world.proofs.Prefixes.{Prefixes}
use Rattle.cq_world.proofs.Running.{Good, onward}
use Rattle.cq_world.proofs.Settled.{is_settled, that_some}
use Rattle.cq_world.proofs.Views.{view}
use Rattle.cq_world.proofs.Prefixes.Steps.{below-pred, forwarded_prefix}

-- ---- lists of arrivals

-- with one arrival more, they stay arrivals
pub arrivals-wider : (last : ℕ) (entries : List Entry) (arrivals more : List Arrival) → AreArrivals last entries arrivals → AreArrivals last entries (arrivals ++ more)
arrivals-wider last [] arrivals more h = tt
arrivals-wider last (e ∷ entries) [] more h = absurd h
arrivals-wider last (e ∷ entries) (a ∷ arrivals) more (inl (request, moment, rest)) = inl (request, moment, arrivals-wider e.moment entries arrivals more rest)
arrivals-wider last (e ∷ entries) (a ∷ arrivals) more (inr rest) = inr (arrivals-wider last (e ∷ entries) arrivals more rest)

-- one more arrives, and is stamped
pub arrivals-more : (last : ℕ) (entries : List Entry) (arrivals : List Arrival) (a : Arrival) (e : Entry) → e.request ≡ a.request → e.moment ≡ max a.clock (fold (λ _ x. x.moment) last entries)
    → AreArrivals last entries arrivals → AreArrivals last (entries ++ e ∷ []) (arrivals ++ a ∷ [])
arrivals-more last [] [] a e request moment h = inl (request, moment, tt)
arrivals-more last [] (b ∷ arrivals) a e request moment h = inr (arrivals-more last [] arrivals a e request moment h)
arrivals-more last (d ∷ entries) [] a e request moment h = absurd h
arrivals-more last (d ∷ entries) (b ∷ arrivals) a e request moment (inl (own, stamp, rest)) = inl (own, stamp, arrivals-more d.moment entries arrivals a e request moment rest)
arrivals-more last (d ∷ entries) (b ∷ arrivals) a e request moment (inr rest) = inr (arrivals-more last (d ∷ entries) arrivals a e request moment rest)

-- a prefix of arrivals is arrivals
pub arrivals-prefix : (last : ℕ) (xs ys : List Entry) (arrivals : List Arrival) → AreArrivals last (xs ++ ys) arrivals → AreArrivals last xs arrivals
arrivals-prefix last [] ys arrivals h = tt
arrivals-prefix last (x ∷ xs) ys [] h = absurd h
arrivals-prefix last (x ∷ xs) ys (a ∷ arrivals) (inl (request, moment, rest)) = inl (request, moment, arrivals-prefix x.moment xs ys arrivals rest)
arrivals-prefix last (x ∷ xs) ys (a ∷ arrivals) (inr rest) = inr (arrivals-prefix last (x ∷ xs) ys arrivals rest)

-- arrivals are stamped, and no entry is before the moment that came first
pub arrivals-stamped : (last : ℕ) (entries : List Entry) (arrivals : List Arrival) → AreArrivals last entries arrivals → ((e : Entry) → Among e entries → last ≤ e.moment) × Stamped entries
arrivals-stamped last [] arrivals h = ((λ e none. absurd none), tt)
arrivals-stamped last (e ∷ entries) [] h = absurd h
arrivals-stamped last (e ∷ entries) (a ∷ arrivals) (inl (request, moment, rest)) =
    let later = arrivals-stamped e.moment entries arrivals rest in
    let first : last ≤ e.moment = omega (arith, moment) in
    ((λ d among. elim among [ inl is ↦ subst (λ x. last ≤ x.moment) (sym is) first | inr there ↦ omega (arith, first, later.0 d there) ]), (later.0, later.1))
arrivals-stamped last (e ∷ entries) (a ∷ arrivals) (inr rest) = arrivals-stamped last (e ∷ entries) arrivals rest

-- the same, of a prefix
pub arrivals-below : (last : ℕ) (xs ys : List Entry) (arrivals : List Arrival) → IsPrefix xs ys → AreArrivals last ys arrivals → AreArrivals last xs arrivals
arrivals-below last xs ys arrivals h k = arrivals-prefix last xs h.0 arrivals (subst (λ us. AreArrivals last us arrivals) h.1 k)

-- ---- histories

-- each history holds these arrivals
abbrev pub Arrived : List Arrival → World → Type 0
Arrived arrivals w = (id : ℕ) → AreArrivals 0 (w.server id).entries arrivals

wider : (arrivals more : List Arrival) (w : World) → Arrived arrivals w → Arrived (arrivals ++ more) w
wider arrivals more w h id = arrivals-wider 0 (w.server id).entries arrivals more (h id)

-- after a step of a server
stepped_arrived : (arrivals more : List Arrival) (w : World) (k : ℕ) (step : Step) → AreArrivals 0 step.server.entries (arrivals ++ more) → Arrived arrivals w → Arrived (arrivals ++ more) (stepped w k step)
stepped_arrived arrivals more w k step own h = by_id (λ id s. AreArrivals 0 s.entries (arrivals ++ more)) w.server k step.server own (wider arrivals more w h)

-- the history of a server that takes a message: as before, or a prefix of the sender's
taken_prefix : (w : World) (p k : ℕ) (m : Message) → Prefixes (view w) → Speaks (w.server p).entries m → (arrivals : List Arrival) → AreArrivals 0 (w.server k).entries arrivals → AreArrivals 0 (w.server p).entries arrivals → AreArrivals 0 (takes (parties.Server p) m (w.server k)).server.entries arrivals
unfolding takes
taken_prefix w p k (Fwd place e) g says arrivals own theirs = go (is_next (w.server k) p place e) refl where
  go : (t : Bool) → is_next (w.server k) p place e ≡ t → AreArrivals 0 (cond t (forwarded e (w.server k)) (silent (w.server k))).server.entries arrivals
  go true accepts =
      let is_pred = that_some (w.server k).pred p (and_parts (is_that (w.server k).pred p) (eqb place (length (w.server k).entries + 1)) (and_parts (is_that (w.server k).pred p && eqb place (length (w.server k).entries + 1)) (nat_le (last_moment (w.server k).entries) e.moment) accepts).0).0 in
      subst (λ us. AreArrivals 0 us arrivals) (sym (is_settled (appended (w.server k) e)).entries)
      (arrivals-below 0 ((w.server k).entries ++ e ∷ []) (w.server p).entries arrivals (forwarded_prefix (w.server k) (w.server p).entries p place e (below-pred (view w) k p g is_pred) accepts says) theirs)
  go false ignores = own
taken_prefix w p k (Snap entries) g says arrivals own theirs = go (is_restoring (w.server k) p entries) where
  go : (t : Bool) → AreArrivals 0 (cond t (restored p entries (w.server k)) (silent (w.server k))).server.entries arrivals
  go true = subst (λ us. AreArrivals 0 us arrivals) (sym (is_settled (with_history (w.server k) entries)).entries) (arrivals-below 0 entries (w.server p).entries arrivals says theirs)
  go false = own
taken_prefix w p k (Ack n) g says arrivals own theirs = go (nat_lt (w.server k).acked (min n (length (w.server k).entries))) where
  go : (t : Bool) → AreArrivals 0 (cond t (record { server = record (w.server k) { acked = min n (length (w.server k).entries); floor = max (w.server k).floor (min n (length (w.server k).entries)) }; sent = to_server (w.server k).pred (Ack (min n (length (w.server k).entries))) }) (silent (w.server k))).server.entries arrivals
  go true = own
  go false = own
taken_prefix w p k m g says arrivals own theirs = own

-- one that takes a message of the master keeps its history
told_same : (s : Server) (m : Message) → (takes parties.Master m s).server.entries ≡ s.entries
unfolding takes
told_same s BeHead = refl
told_same s (Report p) = refl
told_same s (Adopt succ have) = refl
told_same s (BeTail least) = (is_settled (as_tail least s)).entries
told_same s (Feed succ) = go (acts s) where
  go : (t : Bool) → (cond t (feeding succ s) (silent s)).server.entries ≡ s.entries
  go true = refl
  go false = refl
told_same s m = refl

taken_arrived : (w : World) (from to : Party) (ms : List Message) (arrivals : List Arrival) → w.link from to ≡ ms → Prefixes (view w) → Arrived arrivals w → Arrived (arrivals ++ []) (after_take w from to ms)
unfolding takes
taken_arrived w from to [] arrivals at g h = wider arrivals [] w h
taken_arrived w from parties.Master (m ∷ ms) arrivals at g h = wider arrivals [] w h
taken_arrived w from parties.Clients (m ∷ ms) arrivals at g h = wider arrivals [] w h
taken_arrived w parties.Master (parties.Server k) (m ∷ ms) arrivals at g h = stepped_arrived arrivals [] (without_first w parties.Master (parties.Server k)) k (takes parties.Master m (w.server k))
    (subst (λ us. AreArrivals 0 us (arrivals ++ [])) (sym (told_same (w.server k) m)) (wider arrivals [] w h k)) h
taken_arrived w parties.Clients (parties.Server k) (m ∷ ms) arrivals at g h = stepped_arrived arrivals [] (without_first w parties.Clients (parties.Server k)) k (takes parties.Clients m (w.server k)) (wider arrivals [] w h k) h
taken_arrived w (parties.Server p) (parties.Server k) (m ∷ ms) arrivals at g h = stepped_arrived arrivals [] (without_first w (parties.Server p) (parties.Server k)) k (takes (parties.Server p) m (w.server k))
    (taken_prefix w p k m g (subst (λ us. Each (Speaks (w.server p).entries) (us ++ w.outbox (parties.Server p) (parties.Server k))) at (g.speaks p (parties.Server k))).0 (arrivals ++ []) (wider arrivals [] w h k) (wider arrivals [] w h p)) h

-- an arrival
arrived_entry : (clock : ℕ) (request : Request) (s : Server) (arrivals : List Arrival) → AreArrivals 0 s.entries arrivals → AreArrivals 0 (arrived clock request s).server.entries (arrivals ++ record { clock = clock; request = request } ∷ [])
unfolding arrived last_moment
arrived_entry clock request s arrivals h = subst (λ us. AreArrivals 0 us (arrivals ++ record { clock = clock; request = request } ∷ [])) (sym (is_settled (appended s (stamped s.entries clock request))).entries)
    (arrivals-more 0 s.entries arrivals (record { clock = clock; request = request }) (stamped s.entries clock request) refl refl h)

asked_entries : (w : World) (k : ℕ) (query : Query) (arrivals : List Arrival) → Arrived arrivals w → AreArrivals 0 (asked query (w.server k)).server.entries arrivals
unfolding asked
asked_entries w k query arrivals h = h k

-- ---- events

next_arrived : (w : World) (event : Event) (arrivals : List Arrival) → Prefixes (view w) → Arrived arrivals w → Arrived (arrivals ++ arrival_if event None) (next w event)
unfolding next
next_arrived w (Arrive at clock request) arrivals g h = stepped_arrived arrivals (record { clock = clock; request = request } ∷ []) w at (arrived clock request (w.server at)) (arrived_entry clock request (w.server at) arrivals (h at)) h
next_arrived w (Ask at query) arrivals g h = stepped_arrived arrivals [] w at (asked query (w.server at)) (asked_entries w at query (arrivals ++ []) (wider arrivals [] w h)) h
next_arrived w (Put from to) arrivals g h = wider arrivals [] w h
next_arrived w (Take from to) arrivals g h = taken_arrived w from to (w.link from to) arrivals refl g h
next_arrived w (Crash id) arrivals g h = stepped_arrived arrivals [] w id (crashed (w.server id)) (wider arrivals [] w h id) h
next_arrived w (Detect id) arrivals g h = wider arrivals [] w h
next_arrived w (Join id) arrivals g h = wider arrivals [] w h

unless_arrived : (w : World) (event : Event) (refusal : Option WorldFault) (arrivals : List Arrival) → Prefixes (view w) → Arrived arrivals w → Arrived (arrivals ++ arrival_if event refusal) (unless_refused w event refusal)
unless_arrived w event None arrivals g h = next_arrived w event arrivals g h
unless_arrived w event (Some fault) arrivals g h = wider arrivals (arrival_if event (Some fault)) w h

pub after-arrived : (w : World) (event : Event) (arrivals : List Arrival) → Prefixes (view w) → Arrived arrivals w → Arrived (arrivals ++ arrival_if event (refusal_of w event)) (after w event)
unfolding after
after-arrived w event arrivals g h = unless_arrived w event (refusal_of w event) arrivals g h

-- After all events each history holds only what arrived.
pub all-arrived : (events : List Event) (w : World) (c : List Entry) (arrivals : List Arrival) → Good w (longest_at w c) → Arrived arrivals w → Arrived (arrivals ++ arrivals_from w events) (world_after w events)
unfolding arrivals_from world_after
all-arrived [] w c arrivals good h = wider arrivals [] w h
all-arrived (event ∷ events) w c arrivals good h = subst (λ us. Arrived us (world_after (after w event) events)) (append_assoc arrivals (arrival_if event (refusal_of w event)) (arrivals_from (after w event) events))
    (all-arrived events (after w event) (longest_at w c) (arrivals ++ arrival_if event (refusal_of w event)) (onward w (longest_at w c) event good).good (after-arrived w event arrivals good.prefixes h))

-- At first there is nothing in any history.
pub first-arrived : (size : ℕ) → Arrived [] (first_world size)
unfolding first_world
first-arrived size id = go (is_in (numbers_from 1 size) id) where
  go : (t : Bool) → AreArrivals 0 (cond t (first_member size id) joining).entries []
  go true = tt
  go false = tt
