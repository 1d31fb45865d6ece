-- The steps that the process of a kept server took.
use Rattle.std.proofs.Common.{◌≡◌, ◌⊎◌, inl, inr, ℕ, List, [], ◌∷◌, Option, None, Some, refl, ap, subst}
use Rattle.cq_chain.specs.Servers.{alone}
use Rattle.cq_chain_laws.specs.Serving.{answered}
use Rattle.cq_chain_laws.proofs.Serving.{saves_are_no_steps}
use Rattle.cq_disk.specs.declared.device.Device.{Ghosts}
use Rattle.cq_frame_loop.specs.Chains.{IsChain, Step}
use Rattle.cq_kept_server.specs.declared.server.KeptServer.{KeptServer}
use Rattle.cq_kept_server.specs.Keeping.{Answers}
use Rattle.cq_kept_server.specs.Servers.{state_of}
use Rattle.cq_kept_server.specs.Telling.{PassesOn, RefusesAhead, Tells}
use Rattle.cq_process_laws.specs.Runs as runs
use Rattle.cq_process_laws.proofs.Running.{runs-are-actions}
use Rattle.cq_server_copies.specs.declared.saving.SavingProcess.{SavingProcess}
use Rattle.cq_server_copies.specs.Saving as saving
use Rattle.cq_kept_laws.specs.Laws.{KeptServersRun}
use Rattle.cq_kept_laws.specs.Runs.{ArePassed}

-- a frame was passed on, or refused ahead
told : (frame : Option (List ℕ)) (p q : SavingProcess) (before after : ℕ) (text : List ℕ) → Tells frame p q before after text
    → PassesOn frame p q before after text ⊎ ((bytes : List ℕ) × ((frame ≡ Some bytes) × RefusesAhead bytes p q before after text))
told None p q before after text tells = inl tells
told (Some bytes) p q before after text (inl passes) = inl passes
told (Some bytes) p q before after text (inr refuses) = inr (bytes, (refl, refuses))

module _ {D : Type 0} {g : Ghosts D} where
  -- the steps of the process, which lead from its first state to its last one
  record Passed (first : KeptServer D g) (steps : List (Step (KeptServer D g))) (last : KeptServer D g) : Type 0 where
    passed : List (Step SavingProcess)
    are : ArePassed first steps passed
    chain : IsChain saving.Answers (state_of first).process passed (state_of last).process

  one_more : (first : KeptServer D g) (step : Step (KeptServer D g)) (steps : List (Step (KeptServer D g))) (last : KeptServer D g) → Passed step.after steps last
      → PassesOn step.frame (state_of first).process (state_of step.after).process (state_of first).ended (state_of step.after).ended step.text
      ⊎ ((bytes : List ℕ) × ((step.frame ≡ Some bytes) × RefusesAhead bytes (state_of first).process (state_of step.after).process (state_of first).ended (state_of step.after).ended step.text))
      → Passed first (step ∷ steps) last
  one_more first step steps last more (inl passes) = record {
    passed = record { frame = step.frame; text = step.text; after = (state_of step.after).process } ∷ more.passed;
    are = inl (more.passed, (refl, more.are));
    chain = (passes.answers, more.chain);
  }
  one_more first step steps last more (inr refuses) = record {
    passed = more.passed;
    are = inr (refuses.0, (refuses.1.0, (refuses.1.1, more.are)));
    chain = subst (λ p. IsChain saving.Answers p more.passed (state_of last).process) refuses.1.1.stays more.chain;
  }

  all_passed : (first : KeptServer D g) (steps : List (Step (KeptServer D g))) (last : KeptServer D g) → IsChain Answers first steps last → Passed first steps last
  all_passed first [] last chain = record { passed = []; are = refl; chain = ap (λ (k : KeptServer D g). (state_of k).process) chain }
  all_passed first (step ∷ steps) last chain =
      one_more first step steps last (all_passed step.after steps last chain.1)
      (told step.frame (state_of first).process (state_of step.after).process (state_of first).ended (state_of step.after).ended step.text chain.0.tells)

  pub kept_run : (first last : KeptServer D g) → KeptServersRun first last
  kept_run first last all steps begins chain =
      let more = all_passed first steps last chain in
      let process = (state_of first).process in
      let end = (state_of last).process in
      record {
        passed = more.passed;
        are = more.are;
        one = record {
          first = runs.state_of process.process;
          steps = answered more.passed;
          last = runs.state_of end.process;
          run = runs-are-actions (alone all) process.process end.process (answered more.passed) begins.new.new (saves_are_no_steps process end more.passed more.chain);
        };
        begins = refl;
        others = refl;
        ends = refl;
      }
