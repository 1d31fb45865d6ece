-- Orders in time from a world on that begins with entries.
use Rattle.std.proofs.Common.{◌≡◌, ◌≤◌, ℕ, arith, ◌∙◌, ap, sym, refl, subst, cond, List, [], ◌∷◌, ◌++◌, length, length-append, append-nil, Bool, true, false, ◌||◌, ◌==◌, inr}
use Rattle.std.proofs.Math.Dec.{leb-zero}
use Rattle.cq_base.specs.declared.ask.Entry.{Entry}
use Rattle.cq_base.specs.declared.limits.TheConstants.{HISTORY_LIMIT}
use Rattle.cq_base.specs.declared.party.Party.{Party}
use Rattle.cq_base.specs.declared.party.Party.TheVariants as parties
use Rattle.cq_base.specs.Relations.{Among, IsPrefix}
use Rattle.cq_chain.specs.Masters.{numbers_from, is_in}
use Rattle.cq_chain.specs.Parties.{same}
use Rattle.cq_chain.specs.Servers.{Server, alone, joining, first_member, acts}
use Rattle.cq_events.proofs.Parties.{eqb-turned}
use Rattle.cq_events.specs.Events.{after}
use Rattle.cq_events.specs.Orders.{AreEnabled}
use Rattle.cq_events.specs.Runs.{world_after, given_from, committed, longest_from}
use Rattle.cq_events.specs.Worlds.{World, first_world}
use Rattle.cq_events.specs.declared.event.Event.{Event}
use Rattle.cq_store.specs.Laws.{Stamped}
use Rattle.cq_world.proofs.OfLaws.Headlines.{given_of_one_object, grows, of_full}
use Rattle.cq_world.proofs.Running.{Good, first-good, runs-good}
use Rattle.cq_real_time.specs.Interleavings.{ServerActed, Acted}
use Rattle.cq_real_time.specs.Loading.{loaded, arrivals_of, LoadedWorldsAreStarts, LoadedPartiesAct, OrdersFromStoresGoOn}
use Rattle.cq_real_time.proofs.Enabling.{orders_from_starts_are_runs, heard}
use Rattle.cq_real_time.proofs.Loading.{loaded_reached, here, known}

-- ---- a start

or_false : (a : Bool) → (a || false) ≡ a
or_false true = refl
or_false false = refl

-- nobody is down, and server 1 alone is full
loaded_lives : (entries : List Entry) (t : Bool) → (cond t (alone entries) joining).down ≡ false
loaded_lives entries true = refl
loaded_lives entries false = refl

loaded_full : (entries : List Entry) (t : Bool) → (cond t (alone entries) joining).full ≡ t
loaded_full entries true = refl
loaded_full entries false = refl

pub loaded_worlds_are_starts : LoadedWorldsAreStarts
unfolding loaded numbers_from
loaded_worlds_are_starts entries stamped short = (
  record {
    size = 1;
    past = arrivals_of entries;
    some = omega arith;
    reached = (loaded_reached entries stamped short).1;
    lives = λ id. loaded_lives entries (id == 1);
    links = λ x y. refl;
  },
  refl,
  refl,
  λ id. (or_false (1 == id) ∙ eqb-turned 1 id, loaded_full entries (id == 1)),
)

-- ---- who acts from there

-- server 1 is the only one that is other than in the first world of one server
others_same : (entries : List Entry) (id : ℕ) → (1 == id) ≡ false → (first_world 1).server id ≡ (loaded entries).server id
unfolding loaded first_world numbers_from
others_same entries id other = ap (λ b. cond (b || false) (first_member 1 id) joining) other ∙ sym (ap (λ b. cond b (alone entries) joining) (eqb-turned id 1 ∙ other))

pub loaded_parties_act : LoadedPartiesAct
unfolding loaded first_world
loaded_parties_act entries actions = ((λ a b stands acts. inr (a, b, stands, acts)), others) where
  others : (p : Party) → same (parties.Server 1) p ≡ false → Acted (first_world 1) p actions → Acted (loaded entries) p actions
  others parties.Master other h = h
  others parties.Clients other h = h
  others (parties.Server id) other h = subst (λ (s : Server). ServerActed s (λ to. []) actions) (others_same entries id other) h

-- ---- lists of events

-- events that are enabled behind others that are
pub enabled_behind : (before order : List Event) (w : World) → AreEnabled w before → AreEnabled (world_after w before) order → AreEnabled w (before ++ order)
unfolding AreEnabled world_after
enabled_behind [] order w first then = then
enabled_behind (event ∷ before) order w first then = (first.0, enabled_behind before order (after w event) first.1 then)

-- ---- what is committed

-- a prefix that isn't shorter is the whole list
whole_prefix : (c entries : List Entry) → IsPrefix c entries → length entries ≤ length c → entries ≡ c
whole_prefix c entries h long = h.1 ∙ nothing_more h.0 (omega (arith, ap (λ (us : List Entry). length us) h.1, length-append c h.0, long)) where
  nothing_more : (rest : List Entry) → length rest ≡ 0 → c ++ rest ≡ c
  nothing_more [] none = append-nil c
  nothing_more (e ∷ rest) none = absurd (omega (arith, none))

-- of the run that takes the entries it is these
committed_so : (entries : List Entry) → Stamped entries → length entries ≤ HISTORY_LIMIT → entries ≡ committed 1 (arrivals_of entries)
unfolding committed
committed_so entries stamped short = subst (λ es. es ≡ longest_from [] (first_world 1) (arrivals_of entries)) (ap (λ (s : Server). s.entries) at)
    (whole_prefix (longest_from [] (first_world 1) (arrivals_of entries)) (w.server 1).entries prefix (good.commits.reached 1 lives does))
  where
    w : World
    w = world_after (first_world 1) (arrivals_of entries)

    is : world_after (first_world 1) (arrivals_of entries) ≡ loaded entries
    is = (loaded_reached entries stamped short).1

    at : (world_after (first_world 1) (arrivals_of entries)).server 1 ≡ alone entries
    at = ap (λ (v : World). v.server 1) is ∙ here entries

    lives : ((world_after (first_world 1) (arrivals_of entries)).server 1).down ≡ false
    lives = ap (λ (s : Server). s.down) at

    does : acts ((world_after (first_world 1) (arrivals_of entries)).server 1) ≡ true
    does = ap (λ (s : Server). acts s) at ∙ leb-zero (length entries)

    good : Good (world_after (first_world 1) (arrivals_of entries)) (longest_from [] (first_world 1) (arrivals_of entries))
    good = runs-good (arrivals_of entries) (first_world 1) [] (first-good 1 (omega arith))

    prefix : IsPrefix (longest_from [] (first_world 1) (arrivals_of entries)) ((world_after (first_world 1) (arrivals_of entries)).server 1).entries
    prefix = of_full 1 (arrivals_of entries) 1 (omega arith) (ap (λ (v : World). is_in v.master.used 1) is ∙ known entries) (ap (λ (s : Server). s.full) at) lives

-- ---- orders

pub orders_from_stores_go_on : OrdersFromStoresGoOn
orders_from_stores_go_on entries actions order stamped short t =
    let start = (loaded_worlds_are_starts entries stamped short).0 in
    let enabled = orders_from_starts_are_runs (loaded entries) actions order start t in
    let reached = loaded_reached entries stamped short in
    record {
      enabled = enabled;
      whole = enabled_behind (arrivals_of entries) order (first_world 1) reached.0 (subst (λ v. AreEnabled v order) (sym reached.1) enabled);
      begins = subst (λ es. IsPrefix es (committed 1 (arrivals_of entries ++ order))) (sym (committed_so entries stamped short)) (grows 1 (arrivals_of entries) order (omega arith));
      answers = λ from a i.
          let given = heard (loaded entries) actions order start t from a i in
          given_of_one_object 1 (arrivals_of entries) order given.0 a (omega arith) (subst (λ (v : World). Among (given.0, a) (given_from 1 v order)) (sym reached.1) given.1);
    }
