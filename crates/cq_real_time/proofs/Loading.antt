-- The world that begins with entries is reached: their requests arrive one after another, and each is answered.
use Rattle.std.proofs.Common.{◌≡◌, ◌≤◌, ◌<◌, ℕ, ◌+◌, ◌-◌, arith, ◌∙◌, ap, sym, refl, subst, cond, List, [], ◌∷◌, ◌++◌, length, length-append, append_assoc, append-nil, Bool, true, false, ◌&&◌, ◌||◌, ◌==◌, Some, None, inl}
use Rattle.std.proofs.Math.Dec.{leb-zero}
use Rattle.std.proofs.Math.Nat.{max-eq_left}
use Rattle.std.proofs.lemmas.Bool.{eqb-true, false≢true, lt-ltb}
use Rattle.std.proofs.lemmas.List.Sums.{fold-append}
use Rattle.cq_base.specs.declared.ask.Entry.{Entry}
use Rattle.cq_base.specs.declared.limits.TheConstants.{HISTORY_LIMIT}
use Rattle.cq_base.specs.declared.party.Party.{Party}
use Rattle.cq_base.specs.declared.party.Party.TheVariants as parties
use Rattle.cq_base.specs.queue.History.{last_moment}
use Rattle.cq_base.specs.Relations.{Among}
use Rattle.cq_chain.specs.declared.fault.WorldFault.TheVariants.{HistoryFull}
use Rattle.cq_chain.specs.Masters.{first_master, numbers_from, is_in}
use Rattle.cq_chain.specs.Messages.{Answers}
use Rattle.cq_chain.specs.Parties.{same, addressed}
use Rattle.cq_chain.specs.Refusals.{refusal_of_arrival}
use Rattle.cq_chain.specs.Servers.{Server, alone, joining, first_member}
use Rattle.cq_chain.specs.Steps.{Step, settled, appended, stamped, when, answer_to, passed_on, arrived}
use Rattle.cq_events.proofs.Parties.{eqb-turned}
use Rattle.cq_events.specs.Events.{refusal_of, after}
use Rattle.cq_events.specs.Orders.{AreEnabled}
use Rattle.cq_events.specs.Runs.{world_after}
use Rattle.cq_events.specs.Worlds.{World, IsAlone, first_world, stepped}
use Rattle.cq_events.specs.declared.event.Event.TheVariants as events
use Rattle.cq_store.specs.Laws.{Stamped}
use Rattle.cq_world.proofs.OfSim.Refused.{at-living, refused-arrive, next-arrive, put-known, next-put}
use Rattle.cq_world.proofs.OfSim.RunSteps.{after-done}
use Rattle.cq_real_time.specs.Loading.{loaded, arrivals_of, NoneLoadedIsFirst, LoadedWorldsAreAlone, LoadedWorldsAreReached}

-- ---- with no entries

-- a member of the first chain of one, where that is whether its number is 1
abbrev member_by : Bool → ℕ → Server
member_by t id = record {
  entries = [];
  acked = 0;
  floor = 0;
  pred = cond t None (Some (id - 1));
  succ = cond t None (Some (id + 1));
  head = t;
  at_least = cond t (Some 0) None;
  full = true;
  down = false;
}

none_by : (t : Bool) (id : ℕ) → cond t (alone []) joining ≡ cond (t || false) (member_by t id) joining
none_by true id = refl
none_by false id = refl

-- The world that begins with no entries is the first one.
pub loaded_none : NoneLoadedIsFirst
unfolding loaded first_world numbers_from
loaded_none = λ i. record {
  server = λ id. (none_by (id == 1) id ∙ ap (λ b. cond (b || false) (first_member 1 id) joining) (eqb-turned id 1)) i;
  outbox = λ a b. [];
  link = λ a b. [];
  master = first_master 1;
}

-- ---- the only one

other_by : (entries : List Entry) (t : Bool) → t ≡ false → cond t (alone entries) joining ≡ joining
other_by entries true is = absurd (false≢true (sym is))
other_by entries false is = refl

alone_server : (entries : List Entry) (w : World) (id : ℕ) → IsAlone entries w → w.server id ≡ cond (id == 1) (alone entries) joining
alone_server entries w id is = go (id == 1) refl where
  go : (t : Bool) → (id == 1) ≡ t → w.server id ≡ cond t (alone entries) joining
  go true e = ap w.server (eqb-true id 1 e) ∙ is.server
  go false e = is.others id (eqb-turned 1 id ∙ e)

-- The world that begins with entries is that of one server alone, and no other world is.
pub loaded_alone : LoadedWorldsAreAlone
unfolding loaded
loaded_alone entries = (
  record {
    server = refl;
    others = λ id other. other_by entries (id == 1) (eqb-turned id 1 ∙ other);
    outbox = λ a b. refl;
    link = λ a b. refl;
    master = refl;
  },
  λ w is i. record {
    server = λ id. alone_server entries w id is i;
    outbox = λ a b. is.outbox a b i;
    link = λ a b. is.link a b i;
    master = is.master i;
  },
)

-- ---- one entry more

-- the server with it
grown : (before : List Entry) (e : Entry) → settled (appended (alone before) e) ≡ alone (before ++ e ∷ [])
grown before e = ap (λ b. cond b (record (appended (alone before) e) { acked = length (before ++ e ∷ []); floor = length (before ++ e ∷ []); full = true }) (appended (alone before) e)) (leb-zero (length (before ++ e ∷ [])))

-- what it sends
answered : (before : List Entry) (e : Entry) → passed_on (alone before) e ≡ (parties.Clients, Answers (answer_to before e)) ∷ []
answered before e = ap (λ b. when b ((parties.Clients, Answers (answer_to before e)) ∷ [])) (leb-zero (length (before ++ e ∷ [])))

-- the entry that the request becomes
stamped_so : (before : List Entry) (e : Entry) → last_moment before ≤ e.moment → stamped before e.moment e.request ≡ e
stamped_so before e later = ap (λ m. record { moment = m; request = e.request }) (max-eq_left later)

-- the step that its arrival is
abbrev taken : List Entry → Entry → Step
taken before e = record { server = alone (before ++ e ∷ []); sent = (parties.Clients, Answers (answer_to before e)) ∷ [] }

arrived_so : (before : List Entry) (e : Entry) → last_moment before ≤ e.moment → arrived e.moment e.request (alone before) ≡ taken before e
unfolding arrived
arrived_so before e later = ap (λ x. record { server = settled (appended (alone before) x); sent = passed_on (alone before) x }) (stamped_so before e later)
    ∙ (λ i. record { server = grown before e i; sent = answered before e i })

-- the world after its arrival
abbrev between : List Entry → Entry → World
between before e = stepped (loaded before) 1 (taken before e)

-- it comes to the server of those before it, which is known
pub here : (before : List Entry) → (loaded before).server 1 ≡ alone before
unfolding loaded
here before = refl

pub known : (before : List Entry) → is_in (loaded before).master.used 1 ≡ true
unfolding loaded numbers_from
known before = refl

-- and has room for it
room : (before : List Entry) → length before < HISTORY_LIMIT → refusal_of_arrival (alone before) ≡ None
unfolding refusal_of_arrival
room before below = ap (λ b. cond b None (Some HistoryFull)) (lt-ltb (length before) HISTORY_LIMIT below)

-- so the arrival is enabled
arrival_free : (before : List Entry) (e : Entry) → length before < HISTORY_LIMIT → refusal_of (loaded before) (events.Arrive 1 e.moment e.request) ≡ None
arrival_free before e below = refused-arrive (loaded before) 1 e.moment e.request
    ∙ at-living (loaded before) 1 (refusal_of_arrival ((loaded before).server 1)) (known before) (ap (λ (s : Server). s.down) (here before))
    ∙ ap refusal_of_arrival (here before) ∙ room before below

after_arrival : (before : List Entry) (e : Entry) → last_moment before ≤ e.moment → length before < HISTORY_LIMIT → after (loaded before) (events.Arrive 1 e.moment e.request) ≡ between before e
after_arrival before e later below = after-done (loaded before) (events.Arrive 1 e.moment e.request) (arrival_free before e below) ∙ next-arrive (loaded before) 1 e.moment e.request
    ∙ ap (stepped (loaded before) 1) (ap (arrived e.moment e.request) (here before) ∙ arrived_so before e later)

-- the answer waits, and is put
put_free : (before : List Entry) (e : Entry) → refusal_of (between before e) (events.Put (parties.Server 1) parties.Clients) ≡ None
unfolding loaded numbers_from
put_free before e = put-known (between before e) (parties.Server 1) parties.Clients refl refl

-- server 1 alone has changed
served : (before : List Entry) (e : Entry) (t : Bool) → cond t (alone (before ++ e ∷ [])) (cond t (alone before) joining) ≡ cond t (alone (before ++ e ∷ [])) joining
served before e true = refl
served before e false = refl

-- nothing waits any more
emptied : (before : List Entry) (e : Entry) (s t : Bool) (y : Party) → same y parties.Clients ≡ t → cond (s && t) [] (cond s (addressed y (taken before e).sent) []) ≡ []
emptied before e false t y is = refl
emptied before e true true y is = refl
emptied before e true false y is = ap (λ b. cond b (Answers (answer_to before e) ∷ []) []) is

after_put_world : (before : List Entry) (e : Entry) → after (between before e) (events.Put (parties.Server 1) parties.Clients) ≡ loaded (before ++ e ∷ [])
unfolding loaded
after_put_world before e = after-done (between before e) (events.Put (parties.Server 1) parties.Clients) (put_free before e) ∙ next-put (between before e) (parties.Server 1) parties.Clients
    ∙ (λ i. record {
      server = λ id. served before e (id == 1) i;
      outbox = λ x y. emptied before e (same x (parties.Server 1)) (same y parties.Clients) y refl i;
      link = λ x y. [];
      master = first_master 1;
    })

-- ---- all entries

-- its moment is the last one then
last_one : (before : List Entry) (e : Entry) → last_moment (before ++ e ∷ []) ≡ e.moment
unfolding last_moment
last_one before e = fold-append (λ _ x. x.moment) 0 before (e ∷ [])

-- entries that are no earlier than those before them
reached : (rest before : List Entry) → ((e : Entry) → Among e rest → last_moment before ≤ e.moment) → Stamped rest → length before + length rest ≤ HISTORY_LIMIT
    → AreEnabled (loaded before) (arrivals_of rest) × (world_after (loaded before) (arrivals_of rest) ≡ loaded (before ++ rest))
unfolding AreEnabled world_after
reached [] before later stamped short = (tt, ap loaded (sym (append-nil before)))
reached (e ∷ rest) before later stamped short =
    let first = later e (inl refl) in
    let below : length before < HISTORY_LIMIT = omega (arith, short) in
    let longer : length (before ++ e ∷ []) ≡ length before + 1 = length-append before (e ∷ []) in
    let further = reached rest (before ++ e ∷ []) (λ d among. subst (λ m. m ≤ d.moment) (sym (last_one before e)) (stamped.0 d among)) stamped.1 (omega (arith, longer, short)) in
    let now = after_arrival before e first below in
    let put = ap (λ v. after v (events.Put (parties.Server 1) parties.Clients)) now ∙ after_put_world before e in (
      (arrival_free before e below, (ap (λ v. refusal_of v (events.Put (parties.Server 1) parties.Clients)) now ∙ put_free before e, subst (λ v. AreEnabled v (arrivals_of rest)) (sym put) further.0)),
      ap (λ v. world_after v (arrivals_of rest)) put ∙ further.1 ∙ ap loaded (append_assoc before (e ∷ []) rest),
    )

pub loaded_reached : LoadedWorldsAreReached
unfolding last_moment
loaded_reached entries stamped short = subst (λ v. AreEnabled v (arrivals_of entries) × (world_after v (arrivals_of entries) ≡ loaded entries)) loaded_none
    (reached entries [] (λ e among. omega arith) stamped (omega (arith, short)))
