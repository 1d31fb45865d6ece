-- The processes of a chain as its parties.
use Rattle.std.proofs.Common.{◌≡◌, ◌≤◌, ◌∙◌, ℕ, ap, sym, refl, subst, arith, List, [], ◌++◌, append-nil, length, Bool, false, Option, Some, None, inl, inr}
use Rattle.cq_base.specs.declared.ask.Entry.{Entry}
use Rattle.cq_base.specs.declared.limits.TheConstants.{HISTORY_LIMIT}
use Rattle.cq_base.specs.declared.party.Party.{Party}
use Rattle.cq_base.specs.declared.party.Party.TheVariants as parties
use Rattle.cq_base.specs.Relations.{Among, IsPrefix}
use Rattle.cq_chain.specs.declared.message.Answer as chain
use Rattle.cq_chain.specs.declared.message.Message.{Message}
use Rattle.cq_chain.specs.declared.message.Message.TheVariants as stored
use Rattle.cq_chain.specs.Servers.{Server}
use Rattle.cq_events.specs.Actions.{put_to, taken_from}
use Rattle.cq_events.specs.Orders.{AreEnabled}
use Rattle.cq_events.specs.Runs.{world_after}
use Rattle.cq_events.specs.Worlds.{first_world}
use Rattle.cq_events.specs.declared.event.Event.{Event}
use Rattle.cq_master_process.specs.Cores.{alone}
use Rattle.cq_master_process.specs.Links.{gone_of}
use Rattle.cq_process.specs.Links.{is_gone}
use Rattle.cq_process_laws.specs.Passing.{ArePutAsTold, Numbered, WereRead}
use Rattle.cq_process_laws.specs.Runs.{all_actions, core_of}
use Rattle.cq_process_laws.proofs.Acting.{acts-both}
use Rattle.cq_process_laws.proofs.Joining.{links-hand-over}
use Rattle.cq_process_laws.proofs.Numbering.{put-both, taken-both}
use Rattle.cq_real_time.specs.Interleavings.{Acted, IsByTheLogFrom, IsInTimeFrom, IsStart, ServerActed}
use Rattle.cq_real_time.specs.Loading.{arrivals_of, loaded}
use Rattle.cq_real_time.proofs.ByTheLog.{log_orders_from_starts_are_runs}
use Rattle.cq_real_time.proofs.Enabling.{answers_from_starts, orders_from_starts_are_runs}
use Rattle.cq_real_time.proofs.FromStores.{loaded_worlds_are_starts}
use Rattle.cq_real_time.proofs.Loading.{loaded_reached}
use Rattle.cq_real_time.proofs.Starts.{first_worlds_are_starts}
use Rattle.cq_store.specs.Laws.{Stamped}
use Rattle.cq_world.specs.Laws.{IsOfTheObject}
use Rattle.cq_chain_laws.specs.Chains.{AreCarried, First, IsByTheLog, IsInTime, IsSound, Loaded, Processes, ServerRun, Start, actions_of, actions_of_server, came_to, came_to_server, crash_of, told_by, told_by_server, world_of}
use Rattle.cq_chain_laws.specs.Laws.{IsAChain, LinkedProcessesAreAChain, LoggedProcessesAreAChain}
use Rattle.cq_chain_laws.proofs.Crashing.{crash-puts, crash-takes, crashed, left_by}

-- ---- what a server's process puts and takes

-- nothing was put, and no piece told
none-put : ArePutAsTold false [] []
none-put = record { whole = []; thrown = []; are = refl; lives = λ here. refl; each = tt; front = inl refl; before = refl; behind = λ k above. refl }

-- the messages that were put and the pieces that were told, by whether the other one is gone
abbrev PutSo : List Message → List Numbered → Type 0
PutSo messages pieces = (gone : Bool) × ArePutAsTold gone messages pieces

server-puts : {s : Server} (to : Party) (has_crashed : Bool) (o : Option (ServerRun s)) → PutSo (put_to to (actions_of_server has_crashed o)) (told_by_server to o)
server-puts to has_crashed None = (false, none-put)
server-puts to has_crashed (Some one) =
    let same : put_to to (all_actions one.run.done ++ crash_of has_crashed one.last) ≡ put_to to (all_actions one.run.done) =
    put-both to (all_actions one.run.done) (crash_of has_crashed one.last) ∙ ap (λ ms. put_to to (all_actions one.run.done) ++ ms) (crash-puts to has_crashed one.last) ∙ append-nil (put_to to (all_actions one.run.done)) in
    (is_gone one.last.links.gone.keys to, subst (λ ms. ArePutAsTold (is_gone one.last.links.gone.keys to) ms (told_by_server to (Some one))) (sym same) (one.run.out to))

server-takes : {s : Server} (from : Party) (has_crashed : Bool) (o : Option (ServerRun s)) → WereRead 1 (taken_from from (actions_of_server has_crashed o)) (came_to_server from o)
server-takes from has_crashed None = tt
server-takes from has_crashed (Some one) =
    let same : taken_from from (all_actions one.run.done ++ crash_of has_crashed one.last) ≡ taken_from from (all_actions one.run.done) =
    taken-both from (all_actions one.run.done) (crash_of has_crashed one.last) ∙ ap (λ ms. taken_from from (all_actions one.run.done) ++ ms) (crash-takes from has_crashed one.last) ∙ append-nil (taken_from from (all_actions one.run.done)) in
    subst (λ ms. WereRead 1 ms (came_to_server from (Some one))) (sym same) (one.run.into from)

server-acted : {s : Server} (has_crashed : Bool) (o : Option (ServerRun s)) → ServerActed s (λ _. []) (actions_of_server has_crashed o)
server-acted has_crashed None = inl refl
server-acted has_crashed (Some one) =
    inr (core_of one.first, left_by has_crashed one.last, one.run.stands, acts-both (all_actions one.run.done) (crash_of has_crashed one.last) (core_of one.first) (core_of one.last) (left_by has_crashed one.last) one.run.acts (crashed has_crashed one.last))

-- ---- parties

acts : (start : Start) (c : Processes start) (p : Party) → Acted (world_of start) p (actions_of c p)
unfolding first_world loaded
acts (First size) c (parties.Server id) = server-acted (c.has_crashed id) (c.server id)
acts (First size) c parties.Master = inr (alone c.master.first.core, alone c.master.last.core, c.master.run.stands, c.master.run.acts)
acts (First size) c parties.Clients = refl
acts (Loaded entries) c (parties.Server id) = server-acted (c.has_crashed id) (c.server id)
acts (Loaded entries) c parties.Master = inr (alone c.master.first.core, alone c.master.last.core, c.master.run.stands, c.master.run.acts)
acts (Loaded entries) c parties.Clients = refl

-- ---- links

prefix-none : (xs ys : List Message) → xs ≡ [] → IsPrefix xs ys
prefix-none xs ys none = (ys, ap (λ zs. zs ++ ys) (sym none))

module _ (start : Start) (c : Processes start) (carried : AreCarried c) where
  -- what a party put to a server
  puts-for : (from : Party) (id : ℕ) → PutSo (put_to (parties.Server id) (actions_of c from)) (told_by c from (parties.Server id))
  puts-for (parties.Server from) id = server-puts (parties.Server id) (c.has_crashed from) (c.server from)
  puts-for parties.Master id = (gone_of c.master.last.links id, c.master.run.out id)
  puts-for parties.Clients id = (false, none-put)

  pub links : (from to : Party) → IsPrefix (taken_from from (actions_of c to)) (put_to to (actions_of c from))
  links from parties.Clients = prefix-none [] (put_to parties.Clients (actions_of c from)) refl
  links from (parties.Server id) =
      let put = puts-for from id in
      links-hand-over put.0 (put_to (parties.Server id) (actions_of c from)) (taken_from from (actions_of c (parties.Server id))) (told_by c from (parties.Server id)) (came_to c from (parties.Server id)) put.1
      (server-takes from (c.has_crashed id) (c.server id)) (carried from (parties.Server id))
  links (parties.Server from) parties.Master =
      let put = server-puts parties.Master (c.has_crashed from) (c.server from) in
      links-hand-over put.0 (put_to parties.Master (actions_of c (parties.Server from))) (taken_from (parties.Server from) (actions_of c parties.Master)) (told_by c (parties.Server from) parties.Master) (came_to c (parties.Server from) parties.Master) put.1
      (c.master.run.into from) (carried (parties.Server from) parties.Master)
  links parties.Master parties.Master = prefix-none (taken_from parties.Master (actions_of c parties.Master)) (put_to parties.Master (actions_of c parties.Master)) c.master.run.servers.0
  links parties.Clients parties.Master = prefix-none (taken_from parties.Clients (actions_of c parties.Master)) (put_to parties.Master (actions_of c parties.Clients)) c.master.run.servers.1

-- ---- all of them

in-time : (start : Start) (c : Processes start) (order : List Event) → AreCarried c → IsInTime c order → IsInTimeFrom (world_of start) (actions_of c) order
in-time start c order carried o = record {
  each = o.each;
  acted = acts start c;
  links = links start c carried;
  causes = o.causes;
  detections = o.detections;
  silence = o.silence;
  survivors = o.survivors;
  joins = o.joins;
}

by-the-log : (start : Start) (c : Processes start) (order : List Event) → AreCarried c → IsByTheLog c order → IsByTheLogFrom (world_of start) (actions_of c) order
by-the-log start c order carried o = record {
  each = o.each;
  acted = acts start c;
  links = links start c carried;
  causes = o.causes;
  detections = o.detections;
  crashes = o.crashes;
  silence = o.silence;
  others = o.others;
  joins = o.joins;
}

-- ---- starts

-- what was done up to there
at-first : (size : ℕ) → world_after (first_world size) [] ≡ first_world size
unfolding world_after
at-first size = refl

abbrev first-begins : (size : ℕ) → 1 ≤ size → IsStart (first_world size)
first-begins size some = record { size = size; past = []; some = some; reached = at-first size; lives = (first_worlds_are_starts size some).0.lives; links = (first_worlds_are_starts size some).0.links }

abbrev loaded-begins : (entries : List Entry) → Stamped entries → length entries ≤ HISTORY_LIMIT → IsStart (loaded entries)
loaded-begins entries stamped few = record {
  size = 1;
  past = arrivals_of entries;
  some = omega arith;
  reached = (loaded_reached entries stamped few).1;
  lives = (loaded_worlds_are_starts entries stamped few).0.lives;
  links = (loaded_worlds_are_starts entries stamped few).0.links;
}

-- the law, of a chain that begins so
abbrev IsChainFrom : (start : Start) → Processes start → List Event → IsStart (world_of start) → Type 0
IsChainFrom start c order begin = AreEnabled (world_of start) order
    × ((from : Party) (a : chain.Answer) → Among (stored.Answer a) (put_to parties.Clients (actions_of c from)) → IsOfTheObject begin.size (begin.past ++ order) a)

chain-from : (start : Start) (c : Processes start) (order : List Event) (begin : IsStart (world_of start)) → IsInTimeFrom (world_of start) (actions_of c) order → IsChainFrom start c order begin
chain-from start c order begin timely = (orders_from_starts_are_runs (world_of start) (actions_of c) order begin timely, λ from a put. answers_from_starts (world_of start) (actions_of c) order begin timely from a put)

timely-chain : (start : Start) (c : Processes start) (order : List Event) → IsSound start → IsInTimeFrom (world_of start) (actions_of c) order → IsAChain start c order
timely-chain (First size) c order sound timely = chain-from (First size) c order (first-begins size sound) timely
timely-chain (Loaded entries) c order sound timely = chain-from (Loaded entries) c order (loaded-begins entries sound.0 sound.1) timely

start-of : (start : Start) → IsSound start → IsStart (world_of start)
start-of (First size) sound = first-begins size sound
start-of (Loaded entries) sound = loaded-begins entries sound.0 sound.1

pub linked-processes-are-a-chain : LinkedProcessesAreAChain
linked-processes-are-a-chain start c order sound carried o = timely-chain start c order sound (in-time start c order carried o)

pub logged-processes-are-a-chain : LoggedProcessesAreAChain
logged-processes-are-a-chain start c order sound carried o = timely-chain start c order sound (log_orders_from_starts_are_runs (world_of start) (actions_of c) order (start-of start sound) (by-the-log start c order carried o)).0
