-- The nodes of a live run that has ended show together what is wanted of nodes.
use Rattle.std.proofs.Common.{ℕ, refl, sym, subst, inl, List, [], length}
use Rattle.cq_base.specs.declared.ask.Request.{Request}
use Rattle.cq_base.specs.declared.party.Party.{Party}
use Rattle.cq_base.specs.declared.party.Party.TheVariants as parties
use Rattle.cq_chain.specs.declared.message.Message.{Message}
use Rattle.cq_link.specs.Inboxes.{put_in}
use Rattle.cq_link.specs.Links.{put_on, taken_from}
use Rattle.cq_live.specs.Lives.{AreNodes, actions_of}
use Rattle.cq_live.proofs.Delivering.{delivers}
use Rattle.cq_live.proofs.Known.{HasNoNode, Known, by_party}
use Rattle.cq_live.proofs.Lives.{lives_of, lives_known, lives_told}
use Rattle.cq_live.proofs.Planned.{crashes, starved_crashes, silent, clients}
use Rattle.cq_live.proofs.Serving.{arrivals, answers}
use Rattle.cq_link.specs.Clients.{requests_in}
use Rattle.cq_live.specs.Ended.{Nodes, HaveEnded, AreOf, Show, Shows, put_by, taken_by, closed_of}
use Rattle.cq_live.specs.Plans.{plan_of}
use Rattle.cq_live_plan.specs.declared.step.LiveStep.{LiveStep}
use Rattle.cq_events.specs.Actions.{Action, Lived, AreActions}
use Rattle.cq_events.specs.declared.trace.Trace.{Trace}
use Rattle.cq_events.specs.Worlds.{first_world}

-- who has no node has no life
idle_lived : (size count : ℕ) (p : Party) → HasNoNode count p → Lived (first_world size) p []
idle_lived size count parties.Master away = absurd away
idle_lived size count parties.Clients away = refl
idle_lived size count (parties.Server id) away = inl refl

module _ {P T I Q : Type 0} (put : P → List Message) (taken : T → List Message) (got : I → List Request) (asked : Q → List Request) (count size : ℕ) (steps : List LiveStep) (nodes : Nodes P T I Q) (starved : List ℕ)
    (ended : HaveEnded put taken got asked count size steps nodes starved) where
  module _ (actions : Party → List Action) (known : Known put taken got size steps nodes actions) where
    actions_done : AreActions size actions
    actions_done = record {
      lived = by_party nodes.servers (λ p. Lived (first_world size) p (actions p)) known.master.lived (λ i s is. (known.servers i s is).lived)
          (λ p away. subst (Lived (first_world size) p) (sym (known.idle p away)) (idle_lived size (length nodes.servers) p away));
      links = delivers put taken got count size steps nodes actions ended.whole ended.delivered known;
    }

    are_nodes : AreNodes (plan_of steps) size actions (put_by asked nodes) (taken_by taken nodes) (closed_of nodes) starved
    are_nodes = record {
      done = actions_done;
      silent = silent put taken got size steps nodes starved actions ended.noted known;
      arrivals = arrivals put taken got asked count size steps nodes actions ended.whole ended.served known;
      links = answers put taken got asked count size steps nodes actions ended.whole ended.served known;
      clients = clients asked taken steps nodes ended.first ended.second;
      crashes = crashes put taken got size steps nodes starved actions ended.noted known;
      joins = known.master.planned;
      starved_crash = starved_crashes put taken got size steps nodes starved actions ended.noted known ended.named;
    }

  pub show : (traces : List Trace) → AreOf traces nodes → Show taken asked size steps nodes starved traces
  show traces told = record {
    lives = lives_of put taken got size steps nodes ended.master ended.servers;
    shown = are_nodes (actions_of (lives_of put taken got size steps nodes ended.master ended.servers)) (lives_known put taken got size steps nodes ended.master ended.servers);
    told = lives_told put taken got size steps nodes ended.master ended.servers traces told;
  }

pub nodes_show : Shows
nodes_show count size steps nodes starved traces ended told = show put_on taken_from requests_in put_in count size steps nodes starved ended traces told
