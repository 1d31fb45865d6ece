-- How a server is left by a fault, and what was told by then.
use Rattle.std.proofs.Common.{◌≡◌, ◌∙◌, ℕ, List, [], ◌++◌, Option, Result, Ok, Err, OnErr, OnOk, refl, sym, ap, subst, append-nil}
use Rattle.std.specs.Io.KnownBytes.{Appends}
use Rattle.cq_base.specs.Relations.{IsPrefix}
use Rattle.cq_disk.specs.declared.device.Device.{Ghosts}
use Rattle.cq_frame_loop.specs.Chains.{AnswersAll, frames_in}
use Rattle.cq_frame_loop.specs.Cutting.{frames_of}
use Rattle.cq_frame_loop.specs.Settling.{SettlesInput, StopsFront}
use Rattle.cq_frame_loop.specs.declared.fault.LoopFault.TheVariants.{NoMemory as WantsMemory, ReadFailed as ReadFails, WriteFailed as WriteFails, Unanswered, Interrupted, TooManyBytes}
use Rattle.cq_frame_loop.specs.declared.settling.SettledFault.{SettledFault}
use Rattle.cq_frame_loop.specs.declared.settling.SettledFault.TheVariants.{Loop, Unsettled}
use Rattle.cq_kept_server.specs.declared.server.KeptServer.{KeptServer}
use Rattle.cq_kept_server.specs.Keeping.{Answers, Stops}
use Rattle.cq_kept_server.specs.Servers.{IsSettled}
use Rattle.cq_lines.specs.declared.fault.ScriptFault.{ScriptFault}
use Rattle.cq_lines.specs.declared.fault.ScriptFault.TheVariants.{BadLine, LineTooLong, TooManyLines, ReadFailed, WriteFailed, NoMemory}
use Rattle.cq_script.specs.Runs.{WritesPrefix}

-- ---- answers

pub on_err : {T E P : Type 0} (r : Result T E) → P → OnErr r P
on_err (Ok x) p = tt
on_err (Err e) p = p

pub ok_then : {T E P Q : Type 0} (r : Result T E) → OnOk r P → (P → Q) → OnOk r Q
ok_then (Ok x) p next = next p
ok_then (Err e) p next = tt

pub err_then : {T E P Q : Type 0} (r : Result T E) → OnErr r P → (P → Q) → OnErr r Q
err_then (Ok x) p next = tt
err_then (Err e) p next = next p

-- ---- writing

-- a write that fails has written a front of the text
pub front_written : (fault : ScriptFault) (text output : List ℕ) → WritesPrefix (Err fault) text output → IsPrefix output text
front_written (BadLine n) text output is = absurd is
front_written (LineTooLong n) text output is = absurd is
front_written TooManyLines text output is = absurd is
front_written ReadFailed text output is = absurd is
front_written WriteFailed text output is = is
front_written NoMemory text output is = is

-- ---- serving

module _ {D : Type 0} {g : Ghosts D} (none : (p : KeptServer D g) → Stops p p) where
  -- all was answered, and is kept
  all_front : (s t : KeptServer D g) (frames : List (Option (List ℕ))) (output : List ℕ) → IsSettled t → AnswersAll Answers s frames output t → StopsFront Answers Stops IsSettled s frames output t
  all_front s t frames output settled all = record {
    steps = all.steps;
    mid = t;
    chain = all.chain;
    settled = settled;
    prefix = ([], sym all.whole ∙ sym (append-nil output));
    later = [];
    last = t;
    went_on = refl;
    front = ([], all.all ∙ sym (append-nil (frames_in all.steps)) ∙ sym (append-nil (frames_in all.steps ++ [])));
    stopped = none t;
  }

  -- none was answered
  none_front : (s t : KeptServer D g) (input output : List ℕ) → IsSettled s → output ≡ [] → s ≡ t → StopsFront Answers Stops IsSettled s (frames_of input) output t
  none_front s t input output settled nothing same = record {
    steps = [];
    mid = s;
    chain = refl;
    settled = settled;
    prefix = ([], sym nothing ∙ sym (append-nil output));
    later = [];
    last = s;
    went_on = refl;
    front = (frames_of input, refl);
    stopped = subst (λ left. Stops s left) same (none s);
  }

  -- whatever the fault was
  pub front_of_fault : (fault : SettledFault) (s t : KeptServer D g) (input output : List ℕ) (left : Option (List ℕ)) → IsSettled s → SettlesInput Answers Stops IsSettled (Err fault) s t input left output → StopsFront Answers Stops IsSettled s (frames_of input) output t
  front_of_fault (Loop WantsMemory) s t input output left settled is = none_front s t input output settled is.1.0 is.1.1
  front_of_fault (Loop ReadFails) s t input output left settled is = all_front s t (frames_of input) output is.1 is.0
  front_of_fault (Loop WriteFails) s t input output left settled is = is
  front_of_fault (Loop Unanswered) s t input output left settled is = is
  front_of_fault (Loop Interrupted) s t input output left settled is = is
  front_of_fault (Loop TooManyBytes) s t input output left settled is = all_front s t (frames_of input) output is.1.1 is.1.0
  front_of_fault Unsettled s t input output left settled is = is
