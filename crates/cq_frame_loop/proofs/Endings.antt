-- How the loop ends.
use Rattle.std.proofs.Common.{◌≡◌, ℕ, ◌⊎◌, Bool, true, false, List, [], ◌++◌, Option, Result, Ok, Err, IfErr, OnOk, sym, ap, ◌∙◌, subst, take, append-nil}
use Rattle.std.specs.Io.KnownBytes.{Consumes, IsAtEnd}
use Rattle.std.proofs.KnownBytes.{Consumes-trans}
use Rattle.cq_frame_loop.specs.Cutting.{frames_behind, frames_of}
use Rattle.cq_frame_loop.specs.Chains.{Relation, Breaks, AnswersAll, AnswersFront, frames_in}
use Rattle.cq_frame_loop.specs.Loops.{AnswersInput, LeavesReader, LeavesWriter}
use Rattle.cq_frame_loop.specs.within.Advances.{Advances, FailsIn}
use Rattle.cq_frame_loop.specs.Writes.{IsReadFault, IsWriting, LeavesAt}
use Rattle.cq_frame_loop.specs.declared.fault.LoopFault.{LoopFault}
use Rattle.cq_frame_loop.specs.declared.fault.LoopFault.TheVariants.{NoMemory, ReadFailed, WriteFailed, Unanswered, Interrupted, TooManyBytes}
use Rattle.cq_frame_loop.proofs.Advancing.{cut_now}

-- a read that gave nothing
pub Consumes-nothing : (a b c : Option (List ℕ)) (input chunk : List ℕ) (n : ℕ) → n ≡ 0 → Consumes a b input → Consumes b c (take n chunk) → Consumes a c input
Consumes-nothing a b c input chunk n none before now =
    let more : Consumes b c [] = rw none at now in
    subst (Consumes a c) (append-nil input) (Consumes-trans a b c input [] before more)

module _ {S : Type 0} (answers : Relation S) where
  -- nothing is left but an unfinished frame
  pub all_answered : (s t : S) (later : ℕ) (input output rest : List ℕ) → Advances answers s 0 input output t later rest → frames_behind later rest ≡ [] → AnswersAll answers s (frames_of input) output t
  all_answered s t later input output rest before none = record {
    steps = before.steps;
    chain = before.chain;
    all = cut_now answers s t 0 later input output rest before ∙ ap (λ fs. frames_in before.steps ++ fs) none ∙ append-nil (frames_in before.steps);
    whole = before.whole;
  }

  front_answered : (s t : S) (frames : List (Option (List ℕ))) (output : List ℕ) → AnswersAll answers s frames output t → AnswersFront answers s frames output
  front_answered s t frames output all = record {
    steps = all.steps;
    last = t;
    chain = all.chain;
    front = ([], all.all ∙ sym (append-nil (frames_in all.steps)));
    prefix = ([], sym all.whole ∙ sym (append-nil output));
  }

  -- at the end of the input
  pub ends : (breaks : Breaks S) (result : Result (Unit {0}) LoopFault) (s t : S) (input output : List ℕ) (left : Option (List ℕ)) → IsWriting result → IsAtEnd left
      → AnswersAll answers s (frames_of input) output t → AnswersInput answers breaks result s t input left output
  ends breaks (Ok _) s t input output left kind end all = (end, all)
  ends breaks (Err NoMemory) s t input output left kind end all = absurd kind
  ends breaks (Err ReadFailed) s t input output left kind end all = absurd kind
  ends breaks (Err WriteFailed) s t input output left kind end all = front_answered s t (frames_of input) output all
  ends breaks (Err Unanswered) s t input output left kind end all = absurd kind
  ends breaks (Err Interrupted) s t input output left kind end all = front_answered s t (frames_of input) output all
  ends breaks (Err TooManyBytes) s t input output left kind end all = absurd kind

  -- at a read that gave an error
  pub read_fails : (breaks : Breaks S) (fault : LoopFault) (s t : S) (input output : List ℕ) (left : Option (List ℕ)) (failed : Bool) → IsReadFault fault failed
      → AnswersAll answers s (frames_of input) output t → AnswersInput answers breaks (Err fault) s t input left output
  read_fails breaks NoMemory s t input output left failed kind all = absurd kind
  read_fails breaks ReadFailed s t input output left failed kind all = all
  read_fails breaks WriteFailed s t input output left failed kind all = absurd kind
  read_fails breaks Unanswered s t input output left failed kind all = absurd kind
  read_fails breaks Interrupted s t input output left failed kind all = front_answered s t (frames_of input) output all
  read_fails breaks TooManyBytes s t input output left failed kind all = absurd kind

  -- at a fault of a frame
  pub fails : (breaks : Breaks S) (fault : LoopFault) (s t : S) (input output : List ℕ) (left : Option (List ℕ)) → FailsIn answers breaks fault s (frames_of input) output t → AnswersInput answers breaks (Err fault) s t input left output
  fails breaks NoMemory s t input output left failed = absurd failed
  fails breaks ReadFailed s t input output left failed = absurd failed
  fails breaks WriteFailed s t input output left failed = failed
  fails breaks Unanswered s t input output left failed = failed
  fails breaks Interrupted s t input output left failed = failed
  fails breaks TooManyBytes s t input output left failed = absurd failed

  -- how that leaves the writer and the reader
  pub fails_leaves : (breaks : Breaks S) (fault : LoopFault) (s t : S) (frames : List (Option (List ℕ))) (input output : List ℕ) (failed flushed : Bool) → FailsIn answers breaks fault s frames output t
      → LeavesAt fault failed flushed → LeavesWriter (Err fault) input failed flushed
  fails_leaves breaks NoMemory s t frames input output failed flushed fails leaves = absurd fails
  fails_leaves breaks ReadFailed s t frames input output failed flushed fails leaves = absurd fails
  fails_leaves breaks WriteFailed s t frames input output failed flushed fails leaves = leaves
  fails_leaves breaks Unanswered s t frames input output failed flushed fails leaves = leaves
  fails_leaves breaks Interrupted s t frames input output failed flushed fails leaves = tt
  fails_leaves breaks TooManyBytes s t frames input output failed flushed fails leaves = absurd fails

  pub fails_unread : (breaks : Breaks S) (fault : LoopFault) (s t : S) (frames : List (Option (List ℕ))) (output : List ℕ) (failed : Bool) → FailsIn answers breaks fault s frames output t → LeavesReader (Err fault) failed
  fails_unread breaks NoMemory s t frames output failed fails = absurd fails
  fails_unread breaks ReadFailed s t frames output failed fails = absurd fails
  fails_unread breaks WriteFailed s t frames output failed fails = tt
  fails_unread breaks Unanswered s t frames output failed fails = tt
  fails_unread breaks Interrupted s t frames output failed fails = tt
  fails_unread breaks TooManyBytes s t frames output failed fails = absurd fails

-- ---- how the end of the input, and a read that gave an error, leave the writer and the reader

pub ends_leaves : (result : Result (Unit {0}) LoopFault) (input : List ℕ) (failed flushed : Bool) → IsWriting result → IfErr result (λ fault. LeavesAt fault failed flushed) → OnOk result (failed ≡ false)
    → OnOk result (flushed ≡ true) → LeavesWriter result input failed flushed
ends_leaves (Ok _) input failed flushed kind leaves sound told = (sound, told)
ends_leaves (Err NoMemory) input failed flushed kind leaves sound told = absurd kind
ends_leaves (Err ReadFailed) input failed flushed kind leaves sound told = absurd kind
ends_leaves (Err WriteFailed) input failed flushed kind leaves sound told = leaves
ends_leaves (Err Unanswered) input failed flushed kind leaves sound told = absurd kind
ends_leaves (Err Interrupted) input failed flushed kind leaves sound told = tt
ends_leaves (Err TooManyBytes) input failed flushed kind leaves sound told = absurd kind

pub ends_unread : (result : Result (Unit {0}) LoopFault) (failed : Bool) → IsWriting result → failed ≡ false → LeavesReader result failed
ends_unread (Ok _) failed kind sound = sound
ends_unread (Err NoMemory) failed kind sound = absurd kind
ends_unread (Err ReadFailed) failed kind sound = absurd kind
ends_unread (Err WriteFailed) failed kind sound = tt
ends_unread (Err Unanswered) failed kind sound = absurd kind
ends_unread (Err Interrupted) failed kind sound = tt
ends_unread (Err TooManyBytes) failed kind sound = absurd kind

pub read_leaves : (fault : LoopFault) (input : List ℕ) (read failed flushed : Bool) → IsReadFault fault read → (input ≡ []) ⊎ (flushed ≡ true) → LeavesWriter (Err fault) input failed flushed
read_leaves NoMemory input read failed flushed kind told = absurd kind
read_leaves ReadFailed input read failed flushed kind told = told
read_leaves WriteFailed input read failed flushed kind told = absurd kind
read_leaves Unanswered input read failed flushed kind told = absurd kind
read_leaves Interrupted input read failed flushed kind told = tt
read_leaves TooManyBytes input read failed flushed kind told = absurd kind

pub read_unread : (fault : LoopFault) (failed : Bool) → IsReadFault fault failed → LeavesReader (Err fault) failed
read_unread NoMemory failed kind = absurd kind
read_unread ReadFailed failed kind = kind
read_unread WriteFailed failed kind = absurd kind
read_unread Unanswered failed kind = absurd kind
read_unread Interrupted failed kind = tt
read_unread TooManyBytes failed kind = absurd kind
