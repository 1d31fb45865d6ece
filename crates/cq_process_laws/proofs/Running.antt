-- What is done of frames one after another, as deeds.
use Rattle.std.proofs.Common.{◌≡◌, ℕ, ◌∙◌, ap, sym, refl, subst, List, [], ◌∷◌, ◌++◌, append-nil, None, inr}
use Rattle.std.specs.List.{AllByRecursion}
use Rattle.std.proofs.lemmas.List.Concat.{flat_map-append}
use Rattle.cq_base.specs.declared.party.Party.{Party}
use Rattle.cq_chain.specs.Servers as states
use Rattle.cq_chain.specs.Stands as chain
use Rattle.cq_events.specs.Actions.{Action, CoreState, ServerRun, StandsAs, behind, Heads, put_to, taken_from}
use Rattle.cq_chain.specs.declared.server.Server as rust_server
use Rattle.cq_events.specs.Acts.{ServerActs}
use Rattle.cq_frame_loop.specs.Chains.{IsChain, Step}
use Rattle.cq_frames.specs.declared.response.Response.{Response}
use Rattle.cq_frames.specs.declared.response.Response.TheVariants as responses
use Rattle.cq_process.specs.Links.{held_at, held_by, is_gone}
use Rattle.cq_server_process.specs.declared.process.ServerProcess.{ServerProcess}
use Rattle.cq_server_process.specs.Answers.{IsNewProcess, Process, State}
use Rattle.cq_server_process.specs.Processes.{answers, process_of}
use Rattle.cq_process_laws.specs.Deeds.{Deed, responses_in, responses_of}
use Rattle.cq_process_laws.specs.Laws.{RunsAreActions}
use Rattle.cq_process_laws.specs.Runs.{AreDone, AreTold, Done, TellsNoPiece, all_actions, core_of, deeds_in, state_of, told_in}
use Rattle.cq_process_laws.specs.Passing.{ArePutAsTold, piece_for, pieces_for}
use Rattle.cq_process_laws.proofs.Acting.{deeds-act, did-both}
use Rattle.cq_process_laws.proofs.Answering.{doing, done-of}
use Rattle.cq_process_laws.proofs.Bringing.{all-brought}
use Rattle.cq_process_laws.proofs.Coming.{were-read}
use Rattle.cq_process_laws.proofs.Leaving.{put-as-told}
use Rattle.cq_process_laws.proofs.Moments.{DidAll, now}
use Rattle.cq_process_laws.proofs.Streams.{AllFollow, streams-are-fronts}

-- what is done of all, by deeds
pub record AllDone (before : ℕ) (p : State) (steps : List (Step ServerProcess)) (q : State) : Type 0 where
  pub done : List Done
  pub each : AreDone p steps done
  pub did : DidAll (now p) (deeds_in done) (now q)
  pub follow : AllFollow before steps done

all-done : (first last : ServerProcess) (steps : List (Step ServerProcess)) → IsChain answers first steps last → AllDone first.streams.ended (state_of first) steps (state_of last)
all-done first last [] h = record { done = []; each = tt; did = ap (λ (p : ServerProcess). now (state_of p)) h; follow = tt }
all-done first last (step ∷ steps) h =
    let one = doing (process_of first) (process_of step.after) step.frame step.text h.0 in
    let rest = all-done step.after last steps h.1 in
    record {
      done = record { told = one.told; deeds = one.deeds } ∷ rest.done;
      each = (done-of first.streams.ended (state_of first) (state_of step.after) step.after.streams.ended step.frame step.text one, rest.each);
      did = did-both one.deeds (deeds_in rest.done) (now (state_of first)) (now (state_of step.after)) (now (state_of last)) one.did rest.did;
      follow = (one.follows, rest.follow);
    }

-- ---- what is told

no-piece : (to : Party) (one : Response) → TellsNoPiece one → piece_for to one ≡ []
no-piece to (responses.Put other number piece) none = absurd none
no-piece to one none = refl

no-pieces : (to : Party) (told : List Response) → AllByRecursion TellsNoPiece told → pieces_for to told ≡ []
no-pieces to [] none = refl
no-pieces to (one ∷ told) none = ap (λ xs. xs ++ pieces_for to told) (no-piece to one none.0) ∙ no-pieces to told none.1

-- the pieces that were told are those of the deeds
told-pieces : (to : Party) (told : List Response) (deeds : List Deed) → AreTold told deeds → pieces_for to told ≡ pieces_for to (responses_in deeds)
told-pieces to told deeds h = ap (pieces_for to) h.is ∙ flat_map-append (piece_for to) (responses_in deeds) h.end ∙ ap (λ xs. pieces_for to (responses_in deeds) ++ xs) (no-pieces to h.end h.none) ∙ append-nil (pieces_for to (responses_in deeds))

all-pieces : (to : Party) (p : State) (steps : List (Step ServerProcess)) (done : List Done) → AreDone p steps done → pieces_for to (told_in done) ≡ pieces_for to (responses_in (deeds_in done))
all-pieces to p [] [] h = refl
all-pieces to p [] (one ∷ rest) h = absurd h
all-pieces to p (step ∷ steps) [] h = absurd h
all-pieces to p (step ∷ steps) (one ∷ rest) h =
    flat_map-append (piece_for to) one.told (told_in rest) ∙ ap (λ xs. xs ++ pieces_for to (told_in rest)) (told-pieces to one.told one.deeds h.0.told)
    ∙ ap (λ xs. pieces_for to (responses_in one.deeds) ++ xs) (all-pieces to (state_of step.after) steps rest h.1)
    ∙ sym (flat_map-append (piece_for to) (responses_in one.deeds) (responses_in (deeds_in rest)))
    ∙ ap (pieces_for to) (sym (flat_map-append responses_of one.deeds (deeds_in rest)))

-- ---- from a new process on

-- at first nothing is held
stands-first : (s : states.Server) (p : Process) → IsNewProcess s p → StandsAs (core_of p.state) s (λ _. [])
stands-first s p new = (subst (chain.StandsFor p.state.core s) (λ i to. none to i) new.core, λ to. subst (λ o. Heads o []) (sym (held to)) tt) where
  held : (to : Party) → held_by p.state.links.outgoing to ≡ None
  held to = ap held_at (new.outgoing to)

  none : (to : Party) → [] ≡ behind (held_by p.state.links.outgoing to) []
  none to = ap (λ o. behind o []) (sym (held to))

-- what wasn't refused was done
plain : (actions : List Action) (a b : CoreState rust_server.Server) → ServerActs a actions b → ServerRun a actions b
plain [] a b h = h
plain (d ∷ ds) a b h = (h.0, h.1.0, plain ds h.0 b h.2)

pub runs-are-actions : RunsAreActions
runs-are-actions s first last steps new chain =
    let all = all-done first last steps chain in
    let stands = stands-first s (process_of first) new in
    let acts = deeds-act (deeds_in all.done) (now (state_of first)) (now (state_of last)) all.did in
    record {
      done = all.done;
      each = all.each;
      stands = stands;
      acts = acts;
      lives = inr (core_of (state_of first), core_of (state_of last), stands, plain (all_actions all.done) (core_of (state_of first)) (core_of (state_of last)) acts);
      out = λ to. subst (ArePutAsTold (is_gone last.links.gone.keys to) (put_to to (all_actions all.done))) (sym (all-pieces to (state_of first) steps all.done all.each))
          (put-as-told to (deeds_in all.done) (now (state_of first)) (now (state_of last)) (new.outgoing to) all.did);
      into = λ from. all-brought from (state_of first) steps all.done (taken_from from (all_actions all.done)) all.each (were-read from (deeds_in all.done) (now (state_of first)) (now (state_of last)) (new.incoming from) all.did);
      streams = λ stream. streams-are-fronts stream first.streams.ended steps all.done all.follow;
    }
