-- What a server has at any moment of a run can be loaded: it is stamped, and no longer than a history may be.
use Rattle.std.proofs.Common.{◌≡◌, ◌≤◌, ◌<◌, ℕ, arith, ap, sym, refl, subst, cond, List, [], ◌∷◌, ◌++◌, length, length-append, nat_lt, min, max, ◌&&◌, Bool, true, false, Option, Some, None}
use Rattle.std.proofs.lemmas.Bool.{ltb-true}
use Rattle.cq_base.specs.declared.ask.Entry.{Entry}
use Rattle.cq_base.specs.declared.ask.Query.{Query}
use Rattle.cq_base.specs.declared.ask.Request.{Request}
use Rattle.cq_base.specs.declared.limits.TheConstants.{HISTORY_LIMIT}
use Rattle.cq_base.specs.declared.party.Party.{Party}
use Rattle.cq_base.specs.declared.party.Party.TheVariants as parties
use Rattle.cq_chain.specs.declared.fault.WorldFault.{WorldFault}
use Rattle.cq_chain.specs.declared.fault.WorldFault.TheVariants.{NotHead, HistoryFull}
use Rattle.cq_chain.specs.Messages.{Message, Fwd, Snap, Ack, BeHead, Report, Adopt, BeTail, Feed}
use Rattle.cq_chain.specs.Refusals.{refusal_of_arrival, refusal_of_taking, unless_full}
use Rattle.cq_chain.specs.Servers.{Server, acts, first_member, joining}
use Rattle.cq_chain.specs.Steps.{Step, silent, to_server, settled, appended, stamped, is_next, forwarded, is_restoring, with_history, restored, feeding, as_tail, arrived, asked, takes, crashed}
use Rattle.cq_events.specs.Events.{refusal_of, refusal_of_take, after, next, unless_refused, after_take, without_first, has_party, is_down, unless_down}
use Rattle.cq_events.specs.Runs.{world_after, longest_at}
use Rattle.cq_events.specs.Worlds.{World, first_world, is_in, numbers_from, stepped}
use Rattle.cq_events.specs.declared.event.Event.{Event}
use Rattle.cq_events.specs.declared.event.Event.TheVariants.{Arrive, Ask, Put, Take, Crash, Detect, Join}
use Rattle.cq_store.specs.Laws.{Stamped}
use Rattle.cq_world.specs.Laws.{Speaks, arrivals_from}
use Rattle.cq_world.proofs.Eaches.{Each, by_id, some_none}
use Rattle.cq_world.proofs.OfLaws.Arriving.{arrivals-stamped, all-arrived, first-arrived}
use Rattle.cq_world.proofs.Prefixes.{Prefixes}
use Rattle.cq_world.proofs.Running.{Good, onward, first-good}
use Rattle.cq_world.proofs.Settled.{is_settled}
use Rattle.cq_world.proofs.Unrefused.{known-parts, lives-parts, server-parts}
use Rattle.cq_world.proofs.Views.{view}
use Rattle.cq_real_time.specs.Loading.{HistoriesMayBeLoaded}
use Rattle.cq_real_time.proofs.Starts.{goes_on}

-- no longer than a history may be
abbrev IsShort : List Entry → Type 0
IsShort entries = length entries ≤ HISTORY_LIMIT

-- ---- what a server does

-- where an entry may be added there is room for it
room : (entries : List Entry) → unless_full entries ≡ None → length entries < HISTORY_LIMIT
room entries free = go (nat_lt (length entries) HISTORY_LIMIT) refl free where
  go : (t : Bool) → nat_lt (length entries) HISTORY_LIMIT ≡ t → cond t None (Some HistoryFull) ≡ None → length entries < HISTORY_LIMIT
  go true e h = ltb-true (length entries) HISTORY_LIMIT e
  go false e h = absurd (some_none HistoryFull h)

one_more : (s : Server) (e : Entry) → length s.entries < HISTORY_LIMIT → IsShort (settled (appended s e)).entries
one_more s e below = subst IsShort (sym (is_settled (appended s e)).entries) (omega (arith, below, length-append s.entries (e ∷ [])))

arrived_short : (clock : ℕ) (request : Request) (s : Server) → refusal_of_arrival s ≡ None → IsShort (arrived clock request s).server.entries
unfolding arrived refusal_of_arrival
arrived_short clock request s free = go s.head free where
  go : (t : Bool) → cond t (unless_full s.entries) (Some NotHead) ≡ None → IsShort (settled (appended s (stamped s.entries clock request))).entries
  go true h = one_more s (stamped s.entries clock request) (room s.entries h)
  go false h = absurd (some_none NotHead h)

asked_short : (query : Query) (s : Server) → IsShort s.entries → IsShort (asked query s).server.entries
unfolding asked
asked_short query s own = own

-- a snapshot is no longer, either
abbrev IsShortIn : Message → Type 0
IsShortIn (Snap entries) = IsShort entries
IsShortIn m = Unit {0}

spoken_short : (entries : List Entry) (m : Message) → Speaks entries m → IsShort entries → IsShortIn m
spoken_short entries (Snap snapshot) says own = omega (arith, own, ap (λ (us : List Entry). length us) says.1, length-append snapshot says.0)
spoken_short entries m says own = tt

-- a message of a server
taken_short : (p : ℕ) (m : Message) (s : Server) → refusal_of_taking (parties.Server p) m s ≡ None → IsShort s.entries → IsShortIn m → IsShort (takes (parties.Server p) m s).server.entries
unfolding takes refusal_of_taking
taken_short p (Fwd place e) s free own short = go (is_next s p place e) free where
  go : (t : Bool) → cond t (unless_full s.entries) None ≡ None → IsShort (cond t (forwarded e s) (silent s)).server.entries
  go true h = one_more s e (room s.entries h)
  go false h = own
taken_short p (Snap entries) s free own short = go (is_restoring s p entries) where
  go : (t : Bool) → IsShort (cond t (restored p entries s) (silent s)).server.entries
  go true = subst IsShort (sym (is_settled (with_history s entries)).entries) short
  go false = own
taken_short p (Ack n) s free own short = go (nat_lt s.acked (min n (length s.entries))) where
  go : (t : Bool) → IsShort (cond t (record { server = record s { acked = min n (length s.entries); floor = max s.floor (min n (length s.entries)) }; sent = to_server s.pred (Ack (min n (length s.entries))) }) (silent s)).server.entries
  go true = own
  go false = own
taken_short p m s free own short = own

-- and one of the master
told_short : (m : Message) (s : Server) → IsShort s.entries → IsShort (takes parties.Master m s).server.entries
unfolding takes
told_short BeHead s own = own
told_short (Report p) s own = own
told_short (Adopt succ have) s own = own
told_short (BeTail least) s own = subst IsShort (sym (is_settled (as_tail least s)).entries) own
told_short (Feed succ) s own = go (acts s) where
  go : (t : Bool) → IsShort (cond t (feeding succ s) (silent s)).server.entries
  go true = own
  go false = own
told_short m s own = own

-- ---- events

-- each history is short
abbrev AllShort : World → Type 0
AllShort w = (id : ℕ) → IsShort (w.server id).entries

stepped_short : (w : World) (k : ℕ) (step : Step) → IsShort step.server.entries → AllShort w → AllShort (stepped w k step)
stepped_short w k step own h = by_id (λ id s. IsShort s.entries) w.server k step.server own h

take_short : (w : World) (from to : Party) (ms : List Message) → w.link from to ≡ ms → Prefixes (view w) → refusal_of_take w from to ms ≡ None → AllShort w → AllShort (after_take w from to ms)
unfolding takes
take_short w from to [] at g free h = h
take_short w from parties.Master (m ∷ ms) at g free h = h
take_short w from parties.Clients (m ∷ ms) at g free h = h
take_short w parties.Master (parties.Server k) (m ∷ ms) at g free h = stepped_short (without_first w parties.Master (parties.Server k)) k (takes parties.Master m (w.server k)) (told_short m (w.server k) (h k)) h
take_short w parties.Clients (parties.Server k) (m ∷ ms) at g free h = stepped_short (without_first w parties.Clients (parties.Server k)) k (takes parties.Clients m (w.server k)) (h k) h
take_short w (parties.Server p) (parties.Server k) (m ∷ ms) at g free h = stepped_short (without_first w (parties.Server p) (parties.Server k)) k (takes (parties.Server p) m (w.server k))
    (taken_short p m (w.server k) free (h k) (spoken_short (w.server p).entries m (subst (λ us. Each (Speaks (w.server p).entries) (us ++ w.outbox (parties.Server p) (parties.Server k))) at (g.speaks p (parties.Server k))).0 (h p))) h

next_short : (w : World) (event : Event) → refusal_of w event ≡ None → Prefixes (view w) → AllShort w → AllShort (next w event)
unfolding refusal_of next
next_short w (Arrive at clock request) free g h = stepped_short w at (arrived clock request (w.server at)) (arrived_short clock request (w.server at) (server-parts w at (refusal_of_arrival (w.server at)) free).2) h
next_short w (Ask at query) free g h = stepped_short w at (asked query (w.server at)) (asked_short query (w.server at) (h at)) h
next_short w (Put from to) free g h = h
next_short w (Take from to) free g h =
    let known = known-parts (has_party w from && has_party w to) (unless_down (is_down w to) (refusal_of_take w from to (w.link from to))) free in
    take_short w from to (w.link from to) refl g (lives-parts (is_down w to) (refusal_of_take w from to (w.link from to)) known.1).1 h
next_short w (Crash id) free g h = stepped_short w id (crashed (w.server id)) (h id) h
next_short w (Detect id) free g h = h
next_short w (Join id) free g h = h

after_short : (w : World) (event : Event) → Prefixes (view w) → AllShort w → AllShort (after w event)
unfolding after
after_short w event g h = go (refusal_of w event) refl where
  go : (refusal : Option WorldFault) → refusal_of w event ≡ refusal → AllShort (unless_refused w event refusal)
  go None free = next_short w event free g h
  go (Some fault) refused = h

-- ---- runs

first_short : (size : ℕ) → AllShort (first_world size)
unfolding first_world
first_short size id = go (is_in (numbers_from 1 size) id) where
  go : (t : Bool) → IsShort (cond t (first_member size id) joining).entries
  go true = omega arith
  go false = omega arith

runs_short : (order : List Event) (w : World) (c : List Entry) → Good w (longest_at w c) → AllShort w → AllShort (world_after w order)
unfolding world_after
runs_short [] w c good h = h
runs_short (event ∷ order) w c good h = runs_short order (after w event) (longest_at w c) (onward w (longest_at w c) event good).good (after_short w event good.prefixes h)

pub histories_may_be_loaded : HistoriesMayBeLoaded
histories_may_be_loaded start before id s = subst (λ (v : World). Stamped (v.server id).entries × IsShort (v.server id).entries) (goes_on start s before) (
  (arrivals-stamped 0 (w.server id).entries ([] ++ arrivals_from (first_world s.size) (s.past ++ before)) (all-arrived (s.past ++ before) (first_world s.size) [] [] (first-good s.size s.some) (first-arrived s.size) id)).1,
  runs_short (s.past ++ before) (first_world s.size) [] (first-good s.size s.some) (first_short s.size) id,
) where
  w : World
  w = world_after (first_world s.size) (s.past ++ before)
