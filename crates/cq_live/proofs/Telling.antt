-- What each node did, from what it handed out: it is known of each party, and it is what its trace tells.
use Rattle.std.proofs.Common.{◌≡◌, ◌+◌, ℕ, suc, add-one, ◌∙◌, ap, sym, refl, subst, inr, List, ◌++◌, map, Option}
use Rattle.cq_base.proofs.Among.{among-map}
use Rattle.cq_base.specs.declared.ask.Request.{Request}
use Rattle.cq_base.specs.declared.party.Party.{Party}
use Rattle.cq_base.specs.declared.party.Party.TheVariants as parties
use Rattle.cq_base.specs.Relations.{Among}
use Rattle.cq_chain.specs.declared.message.Message.{Message}
use Rattle.cq_chain.specs.declared.server.Server as rust_server
use Rattle.cq_live_plan.specs.declared.joins.Join.{Join}
use Rattle.cq_nodes.specs.declared.master_node.MasterEnds.{MasterEnds}
use Rattle.cq_nodes.specs.declared.server_ends.ServerParts.{ServerParts}
use Rattle.cq_nodes.specs.Ends.{listed}
use Rattle.cq_nodes.proofs.ActionRuns.{server-plain}
use Rattle.cq_nodes.specs.Nodes.{ServerDid, ServerRan, IsBound, Tells}
use Rattle.cq_live.proofs.Known.{MasterKnown, ServerKnown}
use Rattle.cq_live.specs.Ended.{IsMaster, IsServer}
use Rattle.cq_live_plan.specs.Steps.{crash_of}
use Rattle.cq_live_plan.specs.Steps.{joiners_of}
use Rattle.cq_live_plan.specs.declared.step.LiveStep.{LiveStep}
use Rattle.cq_events.specs.Actions.{Action, Arrived, Asked, Put, Took, Crashed, Detected, Joined, Lived, event_of, put_to, taken_from}
use Rattle.cq_events.specs.Worlds.{first_world}
use Rattle.cq_events.specs.declared.event.Event.{Event}
use Rattle.cq_events.specs.declared.event.Event.TheVariants as events

-- ---- one node

-- what a server's core did since the first world is a life
server_lived : (size id : ℕ) (core : rust_server.Server) (back : Party → Option Message) (trace : List Event) (actions : List Action) → ServerDid size id core back trace actions → Lived (first_world size) (parties.Server id) actions
server_lived size id core back trace actions did = inr (did.first, record { core = core; back = back }, did.stood, server-plain actions did.first (record { core = core; back = back }) did.run)

-- the action of a crash
crash_action : (p : Party) (id : ℕ) (d : Action) → events.Crash id ≡ event_of p d → (count : ℕ) × (d ≡ Crashed count)
crash_action p id (Crashed count) h = (count, refl)
crash_action p id (Arrived clock request) h = absurd (cc)
crash_action p id (Asked query) h = absurd (cc)
crash_action p id (Put to x) h = absurd (cc)
crash_action p id (Took from x) h = absurd (cc)
crash_action p id (Detected other) h = absurd (cc)
crash_action p id (Joined other) h = absurd (cc)

-- a crash that the trace tells is one of the actions
crash_among : (p : Party) (id : ℕ) (trace : List Event) (actions : List Action) → trace ≡ map (event_of p) actions → Among (events.Crash id) trace → (count : ℕ) × Among (Crashed count) actions
crash_among p id trace actions is h =
    let d = among-map (event_of p) (events.Crash id) actions (subst (Among (events.Crash id)) is h) in
    let crash = crash_action p id d.0 d.2 in
    (crash.0, subst (λ e. Among e actions) crash.1 d.1)

-- the actions that a server's node tells
abbrev pub server_actions : {P T I : Type 0} (put : P → List Message) (taken : T → List Message) (got : I → List Request) (s : ServerParts P T I) → Tells put taken got s → List Action
server_actions put taken got s tells = tells.ran.actions

module _ {P T I : Type 0} (put : P → List Message) (taken : T → List Message) (got : I → List Request) (size : ℕ) (steps : List LiveStep) where
  pub server_known : (i : ℕ) (s : ServerParts P T I) (node : IsServer put taken got size steps (i + 1) s) → ServerKnown put taken got size steps (suc i) s (server_actions put taken got s node.tells)
  server_known i s node = record {
    number = node.id ∙ add-one i;
    lived = subst (λ id. Lived (first_world size) (parties.Server id) ran.actions) (node.id ∙ add-one i)
        (subst (λ of_size. Lived (first_world of_size) (parties.Server s.id) ran.actions) node.size (server_lived s.size s.id node.tells.core _ s.trace.items ran.actions ran.did));
    puts = ran.puts;
    takes = ran.takes;
    others = ran.others;
    firsts = ran.firsts;
    seconds = ran.seconds;
    bound = subst (λ due. IsBound due s.starved (got s.inbox) ran.actions) (node.crash_after ∙ ap (λ id. crash_of id steps) (add-one i)) ran.bound;
    starved = λ short. crash_among (parties.Server s.id) s.id s.trace.items ran.actions ran.did.events (node.tells.crash.noted (node.tells.crash.by_memory short));
  } where
    ran : ServerRan put taken got s.size s.id node.tells.core s.outs.items s.clients s.ins.items s.inbox s.trace.items s.crash_after s.starved
    ran = node.tells.ran

module _ {P T : Type 0} (put : P → List Message) (taken : T → List Message) (size : ℕ) (steps : List LiveStep) (master : MasterEnds P T) where
  pub master_known : (node : IsMaster put taken size steps master) → MasterKnown put taken size steps master node.lived.actions
  master_known node = record {
    lived = node.lived.lived;
    puts = λ place out is. node.lived.puts place out is ∙ ap (λ id. put_to (parties.Server id) node.lived.actions) (add-one place);
    takes = λ place end is. node.lived.takes place end is ∙ ap (λ id. taken_from (parties.Server id) node.lived.actions ++ listed end.unread) (add-one place);
    others = node.lived.others;
    planned = λ id h. let join = among-map (λ (j : Join). j.server) id node.joins (node.lived.asked id h) in subst (λ n. Among n (joiners_of steps)) (sym join.2) (node.planned join.0 join.1);
  }
