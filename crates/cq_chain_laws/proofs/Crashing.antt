-- A server that crashes, as what its core does.
use Rattle.std.proofs.Common.{◌≡◌, sym, refl, subst, List, [], append-nil, length, Bool, true, false}
use Rattle.cq_base.specs.declared.party.Party.{Party}
use Rattle.cq_chain.specs.declared.server.Server as rust_server
use Rattle.cq_chain.specs.Messages.{Message}
use Rattle.cq_chain.specs.Servers.{Server}
use Rattle.cq_chain.specs.Stands.{StandsFor}
use Rattle.cq_events.specs.Actions.{Crashed, CoreState, StandsAs, put_to, taken_from}
use Rattle.cq_events.specs.Acts.{Acts, ServerActs}
use Rattle.cq_process_laws.specs.Runs.{core_of}
use Rattle.cq_server_process.specs.Answers.{State}
use Rattle.cq_store.specs.Stands.{count_of}
use Rattle.cq_chain_laws.specs.Chains.{crash_of}

-- the core of a server that is down
abbrev pub down : CoreState rust_server.Server → CoreState rust_server.Server
down a = record { core = record a.core { down = true }; back = a.back }

stands-down : (a : CoreState rust_server.Server) (s : Server) (outbox : Party → List Message) → StandsAs a s outbox → StandsAs (down a) (record s { down = true }) outbox
unfolding StandsFor
stands-down a s outbox h = (
  record {
    entries = h.0.entries;
    acked = h.0.acked;
    pred = h.0.pred;
    succ = h.0.succ;
    head = h.0.head;
    at_least = h.0.at_least;
    full = h.0.full;
    down = refl;
    waiting = h.0.waiting;
  },
  h.1,
)

counts : (a : CoreState rust_server.Server) (s : Server) (outbox : Party → List Message) → StandsAs a s outbox → length s.entries ≡ count_of a.core.replica.store
unfolding StandsFor
counts a s outbox h = sym h.0.entries.store.count

crash-acts : (a : CoreState rust_server.Server) → Acts (Crashed (count_of a.core.replica.store)) a (down a)
crash-acts a = ((λ s outbox h. subst (StandsAs (down a) (record s { down = true })) (λ i to. sym (append-nil (outbox to)) i) (stands-down a s outbox h), counts a), tt)

-- what it leaves
abbrev pub left_by : Bool → State → CoreState rust_server.Server
left_by false last = core_of last
left_by true last = down (core_of last)

pub crashed : (has_crashed : Bool) (last : State) → ServerActs (core_of last) (crash_of has_crashed last) (left_by has_crashed last)
crashed false last = λ s outbox h. h
crashed true last = (down (core_of last), crash-acts (core_of last), λ s outbox h. h)

-- a crash puts and takes nothing
pub crash-puts : (to : Party) (has_crashed : Bool) (last : State) → put_to to (crash_of has_crashed last) ≡ []
crash-puts to false last = refl
crash-puts to true last = refl

pub crash-takes : (from : Party) (has_crashed : Bool) (last : State) → taken_from from (crash_of has_crashed last) ≡ []
crash-takes from false last = refl
crash-takes from true last = refl
