-- What `cq server` and `cq master` read and wrote.
use Rattle.std.proofs.Common.{◌≡◌, ◌∙◌, ℕ, sym, refl, List, [], ◌∷◌, append-nil, Option, inl, inr, Result, Ok, Err}
use Rattle.std.specs.Prelude.{◌⊎◌}
use Rattle.cq_base.specs.Relations.{IsPrefix}
use Rattle.cq_chain.specs.Servers.{Server}
use Rattle.cq_frame_loop.specs.declared.fault.LoopFault.{LoopFault}
use Rattle.cq_frame_loop.specs.declared.fault.LoopFault.TheVariants.{NoMemory, ReadFailed, WriteFailed, Unanswered, Interrupted, TooManyBytes}
use Rattle.cq_frame_loop.specs.Chains.{AnswersAll, AnswersFront, Breaks, BreaksOff, IsChain, Relation, Step, any_break, frames_in, text_in}
use Rattle.cq_frame_loop.specs.Cutting.{frames_of}
use Rattle.cq_frame_loop.specs.Loops.{AnswersInput}
use Rattle.cq_master_process.specs.declared.process.MasterProcess.{MasterProcess}
use Rattle.cq_master_process.specs.Answering as master
use Rattle.cq_process_laws.specs.Runs.{state_of}
use Rattle.cq_process_laws.proofs.Running.{runs-are-actions}
use Rattle.cq_processes.specs.declared.keep.LoadEnd.{LoadEnd}
use Rattle.cq_processes.specs.Keeping.{AnswersLoading, KeepsMaster, KeepsServer, loop_of}
use Rattle.cq_server_copies.specs.declared.loading.LoadingProcess.{LoadingProcess}
use Rattle.cq_server_copies.specs.declared.loading.Stage.TheVariants as stages
use Rattle.cq_server_copies.specs.declared.saving.SavingProcess.{SavingProcess}
use Rattle.cq_server_copies.specs.Loading as loading
use Rattle.cq_server_copies.specs.Saving as saving
use Rattle.cq_store_wire.specs.declared.build.State.TheVariants as states
use Rattle.cq_server_process.specs.Answers.{IsNewProcess}
use Rattle.cq_server_process.specs.Processes.{process_of}
use Rattle.cq_chain_laws.specs.Kept.{IsKeptLoaded, IsKeptMaster, IsKeptServer, NeverBegan}
use Rattle.cq_chain_laws.specs.Laws.{KeptProcessesAreRuns}
use Rattle.cq_chain_laws.specs.Serving.{answered as answered_steps}
use Rattle.cq_chain_laws.proofs.MasterRuns.{master-runs-are-actions}
use Rattle.cq_chain_laws.proofs.Serving.{loading_processes_act, saves_are_no_steps}

-- ---- frames that were answered

-- the first ones of an input, from one state to another, and a front of what was told of them
record Answered {S : Type 0} (answers : Relation S) (first : S) (input output : List ℕ) : Type 0 where
  steps : List (Step S)
  last : S
  chain : IsChain answers first steps last
  front : IsPrefix (frames_in steps) (frames_of input)
  written : IsPrefix output (text_in steps)

same-prefix : {A : Type 0} (xs ys : List A) → ys ≡ xs → IsPrefix xs ys
same-prefix xs ys is = ([], is ∙ sym (append-nil xs))

all-answered : {S : Type 0} (answers : Relation S) (first last : S) (input output : List ℕ) → AnswersAll answers first (frames_of input) output last → Answered answers first input output
all-answered answers first last input output h = record {
  steps = h.steps;
  last = last;
  chain = h.chain;
  front = same-prefix (frames_in h.steps) (frames_of input) h.all;
  written = same-prefix output (text_in h.steps) (sym h.whole);
}

front-answered : {S : Type 0} (answers : Relation S) (first : S) (input output : List ℕ) → AnswersFront answers first (frames_of input) output → Answered answers first input output
front-answered answers first input output h = record { steps = h.steps; last = h.last; chain = h.chain; front = h.front; written = h.prefix }

broken-answered : {S : Type 0} (answers : Relation S) (first : S) (input output : List ℕ) → BreaksOff answers first (frames_of input) output → Answered answers first input output
broken-answered answers first input output h = record {
  steps = h.steps;
  last = h.last;
  chain = h.chain;
  front = (h.unanswered ∷ h.later, h.front);
  written = same-prefix output (text_in h.steps) (sym h.whole);
}

answered : {S : Type 0} (answers : Relation S) (breaks : Breaks S) (result : Result (Unit {0}) LoopFault) (first last : S) (input : List ℕ) (left : Option (List ℕ)) (output : List ℕ) → AnswersInput answers breaks result first last input left output
    → NeverBegan input output ⊎ Answered answers first input output
answered answers breaks (Ok u) first last input left output h = inr (all-answered answers first last input output h.1)
answered answers breaks (Err NoMemory) first last input left output h = inl (h.0, h.1.0)
answered answers breaks (Err ReadFailed) first last input left output h = inr (all-answered answers first last input output h)
answered answers breaks (Err WriteFailed) first last input left output h = inr (front-answered answers first input output h)
answered answers breaks (Err Unanswered) first last input left output h = inr (broken-answered answers first input output h.0)
answered answers breaks (Err Interrupted) first last input left output h = inr (front-answered answers first input output h)
answered answers breaks (Err TooManyBytes) first last input left output h = inr (all-answered answers first last input output h.1)

-- ---- of each kind

kept-server : (s : Server) (first : SavingProcess) (input output : List ℕ) → IsNewProcess s (process_of first.process) → Answered saving.Answers first input output → IsKeptServer s input output
kept-server s first input output new h = record {
  steps = h.steps;
  front = h.front;
  written = h.written;
  one = record {
    first = state_of first.process;
    steps = answered_steps h.steps;
    last = state_of h.last.process;
    run = runs-are-actions s first.process h.last.process (answered_steps h.steps) new (saves_are_no_steps first h.last h.steps h.chain);
  };
  others = refl;
}

kept-loaded : (first : LoadingProcess) (input output : List ℕ) → first.stage ≡ stages.Loading states.Empty → Answered loading.Answers first input output → IsKeptLoaded input output
kept-loaded first input output new h = record { steps = h.steps; front = h.front; written = h.written; last = h.last; serves = loading_processes_act first h.last h.steps new h.chain }

kept-master : (size : ℕ) (first : MasterProcess) (input output : List ℕ) → master.IsNew first size → Answered master.Answers first input output → IsKeptMaster size input output
kept-master size first input output new h = record {
  one = record { first = first; steps = h.steps; last = h.last; run = master-runs-are-actions size first h.last h.steps new h.chain };
  front = h.front;
  written = h.written;
}

servers-kept : (s : Server) (result : Result (Unit {0}) LoopFault) (input : List ℕ) (left : Option (List ℕ)) (output : List ℕ) → KeepsServer s result input left output → NeverBegan input output ⊎ IsKeptServer s input output
servers-kept s result input left output (inr none) = inl none.1
servers-kept s result input left output (inl h) = elim (answered saving.Answers any_break result h.first h.last input left output h.answered) [
  | inl none ↦ inl none
  | inr some ↦ inr (kept-server s h.first input output h.new some)
]

masters-kept : (size : ℕ) (result : Result (Unit {0}) LoopFault) (input : List ℕ) (left : Option (List ℕ)) (output : List ℕ) → KeepsMaster size result input left output → NeverBegan input output ⊎ IsKeptMaster size input output
masters-kept size result input left output (inr none) = inl none.1
masters-kept size result input left output (inl h) = elim (answered master.Answers any_break result h.first h.last input left output h.answered) [
  | inl none ↦ inl none
  | inr some ↦ inr (kept-master size h.first input output h.new some)
]

loaded-kept : (result : Result (Unit {0}) LoadEnd) (input : List ℕ) (left : Option (List ℕ)) (output : List ℕ) → AnswersLoading result input left output → NeverBegan input output ⊎ IsKeptLoaded input output
loaded-kept result input left output h = elim (answered loading.Answers loading.Breaks (loop_of result) h.first h.last input left output h.answered) [
  | inl none ↦ inl none
  | inr some ↦ inr (kept-loaded h.first input output h.new some)
]

pub kept-processes-are-runs : KeptProcessesAreRuns
kept-processes-are-runs = record { servers = servers-kept; loaded = loaded-kept; masters = masters-kept }
