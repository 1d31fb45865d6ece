-- A process that begins with a store serves from there on.
use Rattle.std.proofs.Common.{◌≡◌, ℕ, ◌∙◌, ap, sym, refl, subst, cond, List, [], ◌∷◌, Bool, true, false, ◌⊎◌, inl, inr, Option, Some, None}
use Rattle.std.specs.Cmp.Lexicographic.{same_text}
use Rattle.std.proofs.lemmas.Bool.{false≢true}
use Rattle.cq_chain.specs.Servers.{alone}
use Rattle.cq_frame_loop.specs.Chains.{IsChain, Step}
use Rattle.cq_frames.specs.declared.command.Command.{Command}
use Rattle.cq_frames.specs.declared.command.Command.TheVariants as commands
use Rattle.cq_frames.specs.Layout.{command}
use Rattle.cq_process_laws.specs.Runs.{all_actions, core_of, state_of}
use Rattle.cq_process_laws.proofs.Running.{runs-are-actions}
use Rattle.cq_real_time.proofs.FromStores.{loaded_parties_act}
use Rattle.cq_server_copies.specs.declared.loading.LoadingProcess.{LoadingProcess}
use Rattle.cq_server_copies.specs.declared.loading.Stage.{Stage}
use Rattle.cq_server_copies.specs.declared.loading.Stage.TheVariants as stages
use Rattle.cq_server_copies.specs.declared.saving.SavingProcess.{SavingProcess}
use Rattle.cq_server_copies.specs.Loading as loading
use Rattle.cq_server_copies.specs.Saving as saving
use Rattle.cq_server_process.specs.declared.process.ServerProcess.{ServerProcess}
use Rattle.cq_server_process.specs.Processes as process
use Rattle.cq_store_wire.specs.declared.build.State.{State}
use Rattle.cq_wire.specs.Layout.{whole}
use Rattle.cq_chain_laws.specs.Serving.{asks_copy, answered, SavesAreNoSteps, AreServed, ServesFromStore, LoadingProcessesAct}

-- ---- copies between

-- a frame that asks for a copy is that one
is_copy : (frame : Option (List ℕ)) → asks_copy frame ≡ true → saving.IsSave frame
is_copy None is = absurd (false≢true is)
is_copy (Some bytes) is = ap Some (same_text bytes (whole command commands.Save) (sym is))

-- and no other is
pub no_copy : (frame : Option (List ℕ)) → asks_copy frame ≡ false → saving.IsSave frame → ⊥
unfolding whole command
no_copy frame other is = false≢true (sym other ∙ ap asks_copy is ∙ refl)

-- a chunk of a copy leaves the process as it is
saved_same : (p q : SavingProcess) (text : List ℕ) → saving.AnswersSave p q text → q.process ≡ p.process
saved_same p q text (told, (is, inl saves)) = saves.process
saved_same p q text (told, (is, inr lets)) = lets.process

one_kept : (first last : SavingProcess) (step : Step SavingProcess) (steps : List (Step SavingProcess)) → saving.Answers first step.frame step.text step.after
    → IsChain process.answers step.after.process (answered steps) last.process → (t : Bool) → asks_copy step.frame ≡ t
    → IsChain process.answers first.process (cond t (answered steps) (record { frame = step.frame; text = step.text; after = step.after.process } ∷ answered steps)) last.process
one_kept first last step steps h rest true e = subst (λ (p : ServerProcess). IsChain process.answers p (answered steps) last.process) (saved_same first step.after step.text (h.saves (is_copy step.frame e))) rest
one_kept first last step steps h rest false e = ((h.others (no_copy step.frame e)).0, rest)

pub saves_are_no_steps : SavesAreNoSteps
saves_are_no_steps first last [] h = ap (λ (p : SavingProcess). p.process) h
saves_are_no_steps first last (step ∷ steps) h = one_kept first last step steps h.0 (saves_are_no_steps step.after last steps h.1) (asks_copy step.frame) refl

-- ---- behind a whole store

-- What serves, as a process that stands on the store.
record Serves (first : SavingProcess) (steps : List (Step LoadingProcess)) (last : LoadingProcess) : Type 0 where
  serves : List (Step SavingProcess)
  end : SavingProcess
  served : AreServed steps serves
  ends : last.stage ≡ stages.Serving end
  chain : IsChain saving.Answers first serves end

serving : (steps : List (Step LoadingProcess)) (p last : LoadingProcess) (first : SavingProcess) → p.stage ≡ stages.Serving first → IsChain loading.Answers p steps last → Serves first steps last
serving [] p last first at h = record { serves = []; end = first; served = tt; ends = ap (λ (q : LoadingProcess). q.stage) (sym h) ∙ at; chain = refl }
serving (step ∷ steps) p last first at h =
    let one = subst (λ (s : Stage). loading.AnswersAt s step.frame step.text step.after.stage) at h.0 in
    let rest = serving steps step.after last one.after one.is h.1 in
    record {
      serves = record { frame = step.frame; text = step.text; after = one.after } ∷ rest.serves;
      end = rest.end;
      served = ((refl, (refl, one.is)), rest.served);
      ends = rest.ends;
      chain = (one.answers, rest.chain);
    }

-- ---- while the store is read

-- a frame leaves a store that is still read, or one that is whole
abbrev Leaves : Stage → List ℕ → Type 0
Leaves stage text = ((next : State) × (stage ≡ stages.Loading next)) ⊎ ((reader : State) × loading.IsLoaded reader stage text)

leaves_command : (command : Command) (reader : State) (stage : Stage) (text : List ℕ) → loading.LoadsCommand command reader stage text → Leaves stage text
leaves_command (commands.Load []) reader stage text h = inr (reader, h)
leaves_command (commands.Load (byte ∷ bytes)) reader stage text h = inl (h.next, h.is)
leaves_command (commands.Arrive stream clock request) reader stage text h = inl (reader, h.0)
leaves_command (commands.Ask query) reader stage text h = inl (reader, h.0)
leaves_command (commands.Take from number piece) reader stage text h = inl (reader, h.0)
leaves_command (commands.Detect server) reader stage text h = inl (reader, h.0)
leaves_command (commands.Join server) reader stage text h = inl (reader, h.0)
leaves_command (commands.More to) reader stage text h = inl (reader, h.0)
leaves_command (commands.Gone server) reader stage text h = inl (reader, h.0)
leaves_command commands.Save reader stage text h = inl (reader, h.0)

leaves : (frame : Option (List ℕ)) (reader : State) (stage : Stage) (text : List ℕ) → loading.LoadsFrame frame reader stage text → Leaves stage text
leaves None reader stage text h = inl (reader, h.0)
leaves (Some bytes) reader stage text (inl (fault, (bad, unread))) = inl (reader, unread.0)
leaves (Some bytes) reader stage text (inr (command, (read, loads))) = leaves_command command reader stage text loads

-- one more frame in front
in_front : (step : Step LoadingProcess) (steps : List (Step LoadingProcess)) (last : LoadingProcess) → ServesFromStore steps last → ServesFromStore (step ∷ steps) last
in_front step steps last h = record {
  front = step ∷ h.front;
  one = h.one;
  behind = h.behind;
  is = ap (λ us. step ∷ us) h.is;
  reader = h.reader;
  whole = h.whole;
  serves = h.serves;
  end = h.end;
  served = h.served;
  ends = h.ends;
  chain = h.chain;
  acts = h.acts;
}

-- the frame with which the store is whole
begins : (step : Step LoadingProcess) (steps : List (Step LoadingProcess)) (last : LoadingProcess) (reader : State) (whole : loading.IsLoaded reader step.after.stage step.text) → Serves whole.process steps last
    → ServesFromStore (step ∷ steps) last
begins step steps last reader whole s = record {
  front = [];
  one = step;
  behind = steps;
  is = refl;
  reader = reader;
  whole = whole;
  serves = s.serves;
  end = s.end;
  served = s.served;
  ends = s.ends;
  chain = s.chain;
  acts = λ entries stands.
      let run = runs-are-actions (alone entries) whole.process.process s.end.process (answered s.serves) (whole.new entries stands) (saves_are_no_steps whole.process s.end s.serves s.chain) in
      (run, (loaded_parties_act entries (all_actions run.done)).0 (core_of (state_of whole.process.process)) (core_of (state_of s.end.process)) run.stands run.acts);
}

reading : (steps : List (Step LoadingProcess)) (first last : LoadingProcess) (reader : State) → first.stage ≡ stages.Loading reader → IsChain loading.Answers first steps last
    → (loading.is_serving last.stage ≡ false) ⊎ ServesFromStore steps last
reading [] first last reader at h = inl (ap (λ (p : LoadingProcess). loading.is_serving p.stage) (sym h) ∙ ap loading.is_serving at)
reading (step ∷ steps) first last reader at h =
    go (leaves step.frame reader step.after.stage step.text (subst (λ (s : Stage). loading.AnswersAt s step.frame step.text step.after.stage) at h.0)) (λ next is. reading steps step.after last next is h.1)
  where
    go : Leaves step.after.stage step.text → ((next : State) → step.after.stage ≡ stages.Loading next → (loading.is_serving last.stage ≡ false) ⊎ ServesFromStore steps last)
        → (loading.is_serving last.stage ≡ false) ⊎ ServesFromStore (step ∷ steps) last
    go (inl (next, is)) later = elim (later next is) [ inl none ↦ inl none | inr serves ↦ inr (in_front step steps last serves) ]
    go (inr (whole_reader, whole)) later = inr (begins step steps last whole_reader whole (serving steps step.after last whole.process whole.is h.1))

pub loading_processes_act : LoadingProcessesAct
loading_processes_act first last steps at h = reading steps first last _ at h
