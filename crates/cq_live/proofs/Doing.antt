-- What actions are done by: steps of the cores that lived, and requests that arrive.
use Rattle.std.proofs.Common.{ℕ, refl, sym, subst, inl, inr, List, [], ◌∷◌}
use Rattle.cq_base.specs.declared.ask.Request.{Request}
use Rattle.cq_base.specs.Relations.{Among}
use Rattle.cq_base.proofs.Among.{among-right}
use Rattle.cq_chain.specs.declared.master.Master as rust_master
use Rattle.cq_chain.specs.Masters.{Master}
use Rattle.cq_chain.specs.Messages.{Message}
use Rattle.cq_base.specs.declared.party.Party.{Party}
use Rattle.cq_nodes.specs.Nodes.{request_in, requests_in}
use Rattle.cq_events.specs.Actions.{Action, Arrived, CoreState, Run, DoesMaster, MasterLives}

-- each action of a run is done by a step
pub run_does : {A : Type 0} (does : Action → A → A → Type 0) (keeps : A → A → Type 0) (a : A) (actions : List Action) (b : A) (d : Action) → Run does keeps a actions b → Among d actions → (x y : A) × does d x y
run_does does keeps a [] b d run h = absurd h
run_does does keeps a (e ∷ actions) b d run (inl is) = (a, run.0, subst (λ w. does w a run.0) (sym is) run.1)
run_does does keeps a (e ∷ actions) b d run (inr h) = run_does does keeps run.0 actions b d run.2 h

-- so is each action of the master
pub master_does : (m : Master) (outbox : Party → List Message) (actions : List Action) (d : Action) → MasterLives m outbox actions → Among d actions → (x y : CoreState rust_master.Master) × DoesMaster d x y
master_does m outbox actions d (inl none) h = absurd (subst (Among d) none h)
master_does m outbox actions d (inr life) h = run_does DoesMaster _ life.0 actions life.1 d life.3 h

pub request_among : (clock : ℕ) (request : Request) (actions : List Action) → Among (Arrived clock request) actions → Among request (requests_in actions)
request_among clock request [] h = absurd h
request_among clock request (d ∷ actions) (inl is) = subst (λ e. Among request (requests_in (e ∷ actions))) is (inl refl)
request_among clock request (d ∷ actions) (inr h) = among-right request (request_in d) (requests_in actions) (request_among clock request actions h)
