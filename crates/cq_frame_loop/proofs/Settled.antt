-- Frames whose answers are settled before they are told.
use Rattle.std.proofs.Common.{◌≡◌, inl, inr, ⊎_elim, ℕ, ◌-◌, ◌⊎◌, Bool, true, false, List, [], ◌∷◌, ◌++◌, length, drop, Option, None, Some, Result, Ok, Err, IfErr, OnOk, refl, sym, ap, ◌∙◌, subst, append_assoc, append-nil}
use Rattle.std.specs.Io.KnownBytes.{Appends}
use Rattle.std.specs.Prelude.{IfSome, is_some, not, option_map}
use Rattle.cq_base.specs.Relations.{IsPrefix}
use Rattle.cq_frame_loop.specs.Cutting.{frames_behind, frames_of}
use Rattle.cq_frame_loop.specs.Chains.{AnswersAll, Relation, Step, frames_in, text_in}
use Rattle.cq_frame_loop.specs.Settling.{LeavesSettledReader, LeavesSettledWriter, SettlesInput, Stops, StopsFront}
use Rattle.cq_frame_loop.specs.within.Advances.{Advances, BeginsWith}
use Rattle.cq_frame_loop.specs.within.Settled.{IsStop, Proceeds, Rested, StopsBehind, StopsWriting, WaitsOrSettles}
use Rattle.cq_frame_loop.specs.Writes.{IsReadFault, IsWriteFault, LeavesAt}
use Rattle.cq_frame_loop.specs.declared.fault.LoopFault.{LoopFault}
use Rattle.cq_frame_loop.specs.declared.fault.LoopFault.TheVariants.{NoMemory, ReadFailed, WriteFailed, Unanswered, Interrupted, TooManyBytes}
use Rattle.cq_frame_loop.specs.declared.settling.SettledFault.{SettledFault}
use Rattle.cq_frame_loop.specs.declared.settling.SettledFault.TheVariants.{Loop, Unsettled}
use Rattle.cq_frame_loop.proofs.Advancing.{begins_now, cut_now}
use Rattle.cq_frame_loop.proofs.Chaining.{chain-append, frames_in-append, frames-front, frames-on, frames-settled, one_step, text-behind, text-on}
use Rattle.cq_frame_loop.proofs.Cuts.{passed}

-- ---- faults

pub write_stop : (fault : LoopFault) (failed flushed : Bool) → IsWriteFault fault → LeavesAt fault failed flushed → IsStop (Loop fault) failed
write_stop NoMemory failed flushed kind leaves = absurd kind
write_stop ReadFailed failed flushed kind leaves = absurd kind
write_stop WriteFailed failed flushed kind leaves = leaves
write_stop Unanswered failed flushed kind leaves = absurd kind
write_stop Interrupted failed flushed kind leaves = tt
write_stop TooManyBytes failed flushed kind leaves = absurd kind

pub stop_leaves : (fault : SettledFault) (input : List ℕ) (failed flushed : Bool) → IsStop fault failed → LeavesSettledWriter (Err fault) input failed flushed
stop_leaves (Loop NoMemory) input failed flushed is = absurd is
stop_leaves (Loop ReadFailed) input failed flushed is = absurd is
stop_leaves (Loop WriteFailed) input failed flushed is = is
stop_leaves (Loop Unanswered) input failed flushed is = tt
stop_leaves (Loop Interrupted) input failed flushed is = tt
stop_leaves (Loop TooManyBytes) input failed flushed is = absurd is
stop_leaves Unsettled input failed flushed is = tt

pub stop_unread : (fault : SettledFault) (failed read : Bool) → IsStop fault failed → LeavesSettledReader (Err fault) read
stop_unread (Loop NoMemory) failed read is = absurd is
stop_unread (Loop ReadFailed) failed read is = absurd is
stop_unread (Loop WriteFailed) failed read is = tt
stop_unread (Loop Unanswered) failed read is = tt
stop_unread (Loop Interrupted) failed read is = tt
stop_unread (Loop TooManyBytes) failed read is = absurd is
stop_unread Unsettled failed read is = tt

pub nothing_of : (told : List ℕ) → IsPrefix [] told
nothing_of told = (told, refl)

module _ {S : Type 0} (answers : Relation S) (rests : S → S → Type 0) where
  -- what is settled behind an answer comes with it
  pub rested_answer : ((p q r : S) (frame : Option (List ℕ)) (text : List ℕ) → answers p frame text q → rests q r → answers p frame text r) → (p q r : S) (frame : Option (List ℕ)) (text : List ℕ) → answers p frame text q → Rested rests q r → answers p frame text r
  rested_answer on p q r frame text answered rested =
      ⊎_elim (λ same. subst (λ s. answers p frame text s) (sym same) answered) (λ more. on p q r frame text answered more) rested

  -- a fault came behind the answer to a frame
  pub stops_answered : (stops : Stops S) (is_settled : S → Type 0) → ((p q r : S) (frame : Option (List ℕ)) (text : List ℕ) → answers p frame text q → rests q r → answers p frame text r) → (p q left : S) (frame : Option (List ℕ)) (text told all output : List ℕ) → answers p frame text q → all ≡ told ++ text → StopsWriting rests stops is_settled q all output left
      → StopsBehind answers stops is_settled p (frame ∷ []) told output left
  stops_answered stops is_settled on p q left frame text told all output answered is w = record {
    steps = record { frame = frame; text = text; after = w.mid } ∷ [];
    last = w.mid;
    chain = (rested_answer on p q w.mid frame text answered w.rested, refl);
    front = ([], refl);
    prefix = (w.prefix.0, ap (λ xs. told ++ xs) (append-nil text) ∙ sym is ∙ w.prefix.1);
    settled = w.settled;
    stopped = w.stopped;
  }

module _ {S : Type 0} (answers : Relation S) (is_settled : S → Type 0) where
  -- nothing was answered yet
  pub proceeds_first : (s : S) (count later : ℕ) (bytes unsaid rest : List ℕ) → is_settled s → unsaid ≡ [] → rest ≡ drop count bytes → later ≡ count - length bytes → Proceeds answers is_settled s count bytes [] unsaid s later rest
  proceeds_first s count later bytes unsaid rest settled none is_rest is_later = record {
    steps = [];
    mid = s;
    chain = refl;
    settled = settled;
    written = refl;
    waiting = [];
    went_on = refl;
    told = none;
    cut = λ x. passed count bytes x ∙ ap (λ (xs : List ℕ). frames_behind (count - length bytes) (xs ++ x)) (sym is_rest) ∙ ap (λ n. frames_behind n (rest ++ x)) (sym is_later);
  }

  -- all that was answered so far
  pub proceeded : (s t : S) (count later : ℕ) (bytes output unsaid rest : List ℕ) → Proceeds answers is_settled s count bytes output unsaid t later rest → Advances answers s count bytes (output ++ unsaid) t later rest
  proceeded s t count later bytes output unsaid rest p = record {
    steps = p.steps ++ p.waiting;
    chain = chain-append answers s p.mid t p.steps p.waiting p.chain p.went_on;
    cut = λ x. p.cut x ∙ ap (λ fs. fs ++ frames_behind later (rest ++ x)) (sym (frames_in-append p.steps p.waiting));
    whole = text-on p.steps p.waiting output unsaid p.written p.told;
  }

  pub passes_none : (s t : S) (count later none : ℕ) (bytes output unsaid rest : List ℕ) → later ≡ none → Proceeds answers is_settled s count bytes output unsaid t later rest → Proceeds answers is_settled s count bytes output unsaid t none rest
  passes_none s t count later none bytes output unsaid rest is p = subst (λ n. Proceeds answers is_settled s count bytes output unsaid t n rest) is p

  -- the bytes behind the next frame
  next_cut : (count size later : ℕ) (bytes rest end x : List ℕ) (frame : Option (List ℕ)) → BeginsWith rest frame size → end ≡ drop size rest → later ≡ size - length rest → frames_behind 0 (rest ++ x) ≡ frame ∷ frames_behind later (end ++ x)
  next_cut count size later bytes rest end x frame begins is_end is_later =
      begins x ∙ ap (λ fs. frame ∷ fs) (passed size rest x ∙ ap (λ (xs : List ℕ). frames_behind (size - length rest) (xs ++ x)) (sym is_end) ∙ ap (λ n. frames_behind n (end ++ x)) (sym is_later))

  -- a frame was answered, and what was told of it waits
  proceeds_waiting : (s m t : S) (count size later : ℕ) (bytes output unsaid out rest end text : List ℕ) (frame : Option (List ℕ)) → Proceeds answers is_settled s count bytes output unsaid m 0 rest → BeginsWith rest frame size → answers m frame text t → end ≡ drop size rest → later ≡ size - length rest
      → out ≡ unsaid ++ text → Proceeds answers is_settled s count bytes (output ++ []) out t later end
  proceeds_waiting s m t count size later bytes output unsaid out rest end text frame p begins answered is_end is_later is = record {
    steps = p.steps;
    mid = p.mid;
    chain = p.chain;
    settled = p.settled;
    written = append-nil output ∙ p.written;
    waiting = p.waiting ++ one_step frame text t;
    went_on = chain-append answers p.mid m t p.waiting (one_step frame text t) p.went_on (answered, refl);
    told = is ∙ text-on p.waiting (one_step frame text t) unsaid text p.told (sym (append-nil text));
    cut = λ x. frames-on p.steps p.waiting (one_step frame text t) _ _ _ (p.cut x) (next_cut count size later bytes rest end x frame begins is_end is_later);
  }

  -- and all is settled and written
  proceeds_settled : (s m t : S) (count size later : ℕ) (bytes output unsaid out rest end text : List ℕ) (frame : Option (List ℕ)) → Proceeds answers is_settled s count bytes output unsaid m 0 rest → BeginsWith rest frame size → answers m frame text t → end ≡ drop size rest → later ≡ size - length rest
      → out ≡ [] → is_settled t → Proceeds answers is_settled s count bytes (output ++ (unsaid ++ text)) out t later end
  proceeds_settled s m t count size later bytes output unsaid out rest end text frame p begins answered is_end is_later none settled =
      let one : List (Step S) = one_step frame text t in
      record {
        steps = p.steps ++ (p.waiting ++ one);
        mid = t;
        chain = chain-append answers s p.mid t p.steps (p.waiting ++ one) p.chain (chain-append answers p.mid m t p.waiting one p.went_on (answered, refl));
        settled = settled;
        written = text-on p.steps (p.waiting ++ one) output (unsaid ++ text) p.written (text-on p.waiting one unsaid text p.told (sym (append-nil text)));
        waiting = [];
        went_on = refl;
        told = none;
        cut = λ x. frames-settled p.steps (p.waiting ++ one) _ _ (frames-on p.steps p.waiting one _ _ _ (p.cut x) (next_cut count size later bytes rest end x frame begins is_end is_later));
      }

  pub proceeds_on : (s m t : S) (count size later : ℕ) (bytes output unsaid out rest end text : List ℕ) (frame : Option (List ℕ)) (old new : Option (List ℕ)) → Proceeds answers is_settled s count bytes output unsaid m 0 rest → BeginsWith rest frame size → answers m frame text t → end ≡ drop size rest → later ≡ size - length rest
      → WaitsOrSettles old new (unsaid ++ text) out (is_settled t) → (more : List ℕ) × Appends old new more × Proceeds answers is_settled s count bytes (output ++ more) out t later end
  proceeds_on s m t count size later bytes output unsaid out rest end text frame old new p begins answered is_end is_later (inl waits) =
      ([], waits.0, proceeds_waiting s m t count size later bytes output unsaid out rest end text frame p begins answered is_end is_later waits.1)
  proceeds_on s m t count size later bytes output unsaid out rest end text frame old new p begins answered is_end is_later (inr done) =
      (unsaid ++ text, done.0, proceeds_settled s m t count size later bytes output unsaid out rest end text frame p begins answered is_end is_later done.1.0 done.1.1)

module _ {S : Type 0} (answers : Relation S) (stops : Stops S) (is_settled : S → Type 0) where
  pub stops_first : (p left : S) (frame : Option (List ℕ)) (told : List ℕ) → stops p left → StopsBehind answers stops is_settled p (frame ∷ []) told [] left
  stops_first p left frame told stopped = record { steps = []; last = p; chain = refl; front = (frame ∷ [], refl); prefix = nothing_of (told ++ []); settled = inl refl; stopped = stopped }

  -- how the frames go on behind one at which a fault came
  unheard : (s m left : S) (count size : ℕ) (bytes output unsaid rest more : List ℕ) (frame : Option (List ℕ)) (p : Proceeds answers is_settled s count bytes output unsaid m 0 rest) → BeginsWith rest frame size → (fails : StopsBehind answers stops is_settled m (frame ∷ []) unsaid more left)
      → frames_behind count bytes ≡ (frames_in p.steps ++ frames_in (p.waiting ++ fails.steps)) ++ (fails.front.0 ++ frames_behind size rest)
  unheard s m left count size bytes output unsaid rest more frame p begins fails =
      frames-on p.steps p.waiting fails.steps _ _ _
      (ap (frames_behind count) (sym (append-nil bytes)) ∙ p.cut [] ∙ ap (λ (xs : List ℕ). (frames_in p.steps ++ frames_in p.waiting) ++ frames_behind 0 xs) (append-nil rest))
      (begins_now answers rest frame size begins ∙ ap (λ (fs : List (Option (List ℕ))). fs ++ frames_behind size rest) fails.front.1 ∙ append_assoc (frames_in fails.steps) fails.front.0 (frames_behind size rest))

  -- a fault comes at a frame, and nothing more was written, or all was settled
  stops_by : (s m left : S) (count size : ℕ) (bytes output unsaid rest more : List ℕ) (frame : Option (List ℕ)) → Proceeds answers is_settled s count bytes output unsaid m 0 rest → BeginsWith rest frame size → (fails : StopsBehind answers stops is_settled m (frame ∷ []) unsaid more left)
      → (more ≡ []) ⊎ is_settled fails.last → StopsFront answers stops is_settled s (frames_behind count bytes) (output ++ more) left
  stops_by s m left count size bytes output unsaid rest more frame p begins fails (inl none) = record {
    steps = p.steps;
    mid = p.mid;
    chain = p.chain;
    settled = p.settled;
    prefix = ([], sym p.written ∙ sym (append-nil output) ∙ ap (λ xs. output ++ xs) (sym none) ∙ sym (append-nil (output ++ more)));
    later = p.waiting ++ fails.steps;
    last = fails.last;
    went_on = chain-append answers p.mid m fails.last p.waiting fails.steps p.went_on fails.chain;
    front = (fails.front.0 ++ frames_behind size rest, unheard s m left count size bytes output unsaid rest more frame p begins fails);
    stopped = fails.stopped;
  }
  stops_by s m left count size bytes output unsaid rest more frame p begins fails (inr settled) = record {
    steps = p.steps ++ (p.waiting ++ fails.steps);
    mid = fails.last;
    chain = chain-append answers s p.mid fails.last p.steps (p.waiting ++ fails.steps) p.chain (chain-append answers p.mid m fails.last p.waiting fails.steps p.went_on fails.chain);
    settled = settled;
    prefix = (
      fails.prefix.0,
      sym (text-on p.steps (p.waiting ++ fails.steps) output (unsaid ++ text_in fails.steps) p.written (text-on p.waiting fails.steps unsaid (text_in fails.steps) p.told refl))
          ∙ ap (λ xs. output ++ xs) fails.prefix.1 ∙ sym (append_assoc output more fails.prefix.0),
    );
    later = [];
    last = fails.last;
    went_on = refl;
    front = (fails.front.0 ++ frames_behind size rest, frames-settled p.steps (p.waiting ++ fails.steps) _ _ (unheard s m left count size bytes output unsaid rest more frame p begins fails));
    stopped = fails.stopped;
  }

  pub stops_at : (s m left : S) (count size : ℕ) (bytes output unsaid rest more : List ℕ) (frame : Option (List ℕ)) → Proceeds answers is_settled s count bytes output unsaid m 0 rest → BeginsWith rest frame size
      → StopsBehind answers stops is_settled m (frame ∷ []) unsaid more left → StopsFront answers stops is_settled s (frames_behind count bytes) (output ++ more) left
  stops_at s m left count size bytes output unsaid rest more frame p begins fails = stops_by s m left count size bytes output unsaid rest more frame p begins fails fails.settled

  -- in the rest
  pub stops_in_rest : (s m left : S) (count later : ℕ) (bytes output rest more : List ℕ) → Advances answers s count bytes output m later rest → StopsFront answers stops is_settled m (frames_behind later rest) more left
      → StopsFront answers stops is_settled s (frames_behind count bytes) (output ++ more) left
  stops_in_rest s m left count later bytes output rest more before fails = record {
    steps = before.steps ++ fails.steps;
    mid = fails.mid;
    chain = chain-append answers s m fails.mid before.steps fails.steps before.chain fails.chain;
    settled = fails.settled;
    prefix = (fails.prefix.0, text-behind before.steps fails.steps output output [] more fails.prefix.0 before.whole (sym (append-nil output)) fails.prefix.1);
    later = fails.later;
    last = fails.last;
    went_on = fails.went_on;
    front = (fails.front.0, frames-front before.steps fails.steps fails.later _ _ _ (cut_now answers s m count later bytes output rest before) fails.front.1);
    stopped = fails.stopped;
  }

  -- where all is settled and written
  pub stops_told : ((p : S) → stops p p) → (s t : S) (count later : ℕ) (bytes output rest : List ℕ) → is_settled t → Advances answers s count bytes output t later rest → StopsFront answers stops is_settled s (frames_behind count bytes) output t
  stops_told none s t count later bytes output rest settled before = record {
    steps = before.steps;
    mid = t;
    chain = before.chain;
    settled = settled;
    prefix = ([], sym before.whole ∙ sym (append-nil output));
    later = [];
    last = t;
    went_on = refl;
    front = (frames_behind later rest, cut_now answers s t count later bytes output rest before ∙ ap (λ fs. fs ++ frames_behind later rest) (sym (append-nil (frames_in before.steps))));
    stopped = none t;
  }

  -- ---- ends

  pub stopped : (fault : SettledFault) (s left : S) (input output : List ℕ) (end : Option (List ℕ)) (failed : Bool) → IsStop fault failed → StopsFront answers stops is_settled s (frames_of input) output left
      → SettlesInput answers stops is_settled (Err fault) s left input end output
  stopped (Loop NoMemory) s left input output end failed is it = absurd is
  stopped (Loop ReadFailed) s left input output end failed is it = absurd is
  stopped (Loop WriteFailed) s left input output end failed is it = it
  stopped (Loop Unanswered) s left input output end failed is it = it
  stopped (Loop Interrupted) s left input output end failed is it = it
  stopped (Loop TooManyBytes) s left input output end failed is it = absurd is
  stopped Unsettled s left input output end failed is it = it

  front_answered : ((p : S) → stops p p) → (s t : S) (frames : List (Option (List ℕ))) (output : List ℕ) → is_settled t → AnswersAll answers s frames output t → StopsFront answers stops is_settled s frames output t
  front_answered none s t frames output settled all = record {
    steps = all.steps;
    mid = t;
    chain = all.chain;
    settled = settled;
    prefix = ([], sym all.whole ∙ sym (append-nil output));
    later = [];
    last = t;
    went_on = refl;
    front = ([], all.all ∙ sym (append-nil (frames_in all.steps)) ∙ sym (append-nil (frames_in all.steps ++ [])));
    stopped = none t;
  }

  -- at a read that gave an error
  pub read_stops : ((p : S) → stops p p) → (fault : LoopFault) (s t : S) (input output : List ℕ) (left : Option (List ℕ)) (failed : Bool) → IsReadFault fault failed
      → AnswersAll answers s (frames_of input) output t → is_settled t → SettlesInput answers stops is_settled (Err (Loop fault)) s t input left output
  read_stops none NoMemory s t input output left failed kind all settled = absurd kind
  read_stops none ReadFailed s t input output left failed kind all settled = (all, settled)
  read_stops none WriteFailed s t input output left failed kind all settled = absurd kind
  read_stops none Unanswered s t input output left failed kind all settled = absurd kind
  read_stops none Interrupted s t input output left failed kind all settled = front_answered none s t (frames_of input) output settled all
  read_stops none TooManyBytes s t input output left failed kind all settled = absurd kind

  -- at the end of the input a write fails
  pub end_stops : ((p : S) → stops p p) → (fault : LoopFault) (s t : S) (input output : List ℕ) (left : Option (List ℕ)) → IsWriteFault fault
      → AnswersAll answers s (frames_of input) output t → is_settled t → SettlesInput answers stops is_settled (Err (Loop fault)) s t input left output
  end_stops none NoMemory s t input output left kind all settled = absurd kind
  end_stops none ReadFailed s t input output left kind all settled = absurd kind
  end_stops none WriteFailed s t input output left kind all settled = front_answered none s t (frames_of input) output settled all
  end_stops none Unanswered s t input output left kind all settled = absurd kind
  end_stops none Interrupted s t input output left kind all settled = front_answered none s t (frames_of input) output settled all
  end_stops none TooManyBytes s t input output left kind all settled = absurd kind

-- ---- how the reader and the writer are left

pub read_leaves_settled : (fault : LoopFault) (input : List ℕ) (read failed flushed : Bool) → IsReadFault fault read → (input ≡ []) ⊎ (flushed ≡ true) → LeavesSettledWriter (Err (Loop fault)) input failed flushed
read_leaves_settled NoMemory input read failed flushed kind told = absurd kind
read_leaves_settled ReadFailed input read failed flushed kind told = told
read_leaves_settled WriteFailed input read failed flushed kind told = absurd kind
read_leaves_settled Unanswered input read failed flushed kind told = absurd kind
read_leaves_settled Interrupted input read failed flushed kind told = tt
read_leaves_settled TooManyBytes input read failed flushed kind told = absurd kind

pub read_unread_settled : (fault : LoopFault) (failed : Bool) → IsReadFault fault failed → LeavesSettledReader (Err (Loop fault)) failed
read_unread_settled NoMemory failed kind = absurd kind
read_unread_settled ReadFailed failed kind = kind
read_unread_settled WriteFailed failed kind = absurd kind
read_unread_settled Unanswered failed kind = absurd kind
read_unread_settled Interrupted failed kind = tt
read_unread_settled TooManyBytes failed kind = absurd kind

pub end_leaves_settled : (fault : LoopFault) (input : List ℕ) (failed flushed : Bool) → IsWriteFault fault → LeavesAt fault failed flushed → LeavesSettledWriter (Err (Loop fault)) input failed flushed
end_leaves_settled NoMemory input failed flushed kind leaves = absurd kind
end_leaves_settled ReadFailed input failed flushed kind leaves = absurd kind
end_leaves_settled WriteFailed input failed flushed kind leaves = leaves
end_leaves_settled Unanswered input failed flushed kind leaves = absurd kind
end_leaves_settled Interrupted input failed flushed kind leaves = tt
end_leaves_settled TooManyBytes input failed flushed kind leaves = absurd kind

pub end_unread_settled : (fault : LoopFault) (failed : Bool) → IsWriteFault fault → LeavesSettledReader (Err (Loop fault)) failed
end_unread_settled NoMemory failed kind = absurd kind
end_unread_settled ReadFailed failed kind = absurd kind
end_unread_settled WriteFailed failed kind = tt
end_unread_settled Unanswered failed kind = absurd kind
end_unread_settled Interrupted failed kind = tt
end_unread_settled TooManyBytes failed kind = absurd kind

-- no frame begins where none is whole
pub none_begins : {S : Type 0} (answers : Relation S) (rest : List ℕ) (frame : Option (List ℕ)) (size : ℕ) → BeginsWith rest frame size → frames_behind 0 rest ≡ [] → ⊥
none_begins answers rest frame size begins none = let both : frame ∷ frames_behind size rest ≡ [] = sym (begins_now answers rest frame size begins) ∙ none in cc

-- ---- what calls made of it

pub all_settled : {T E : Type 0} (r : Result T E) (old new : Option (List ℕ)) (told all out : List ℕ) (Q : Type 0) → OnOk r (Appends old new all) → OnOk r (out ≡ []) → OnOk r Q → all ≡ told → OnOk r (WaitsOrSettles old new told out Q)
all_settled (Ok x) old new told all out Q wrote none settled same = inr (subst (λ xs. Appends old new xs) same wrote, (none, settled))
all_settled (Err e) old new told all out Q wrote none settled same = tt

pub stops_same : {S T : Type 0} (rests : S → S → Type 0) (stops : Stops S) (is_settled : S → Type 0) (r : Result T SettledFault) (s left : S) (old new : Option (List ℕ)) (told all : List ℕ) (failed : Bool) → all ≡ told
    → IfErr r (λ fault. (output : List ℕ) × Appends old new output × StopsWriting rests stops is_settled s all output left × IsStop fault failed)
    → IfErr r (λ fault. (output : List ℕ) × Appends old new output × StopsWriting rests stops is_settled s told output left × IsStop fault failed)
stops_same rests stops is_settled (Ok x) s left old new told all failed same is = tt
stops_same rests stops is_settled (Err fault) s left old new told all failed same is =
    (is.0, is.1, subst (λ xs. StopsWriting rests stops is_settled s xs is.0 left) same is.2, is.3)

pub on_rests : {S T E : Type 0} (rests : S → S → Type 0) (old new : S) (r : Result T E) → OnOk r (rests old new) → OnOk r (Rested rests old new)
on_rests rests old new (Ok x) is = inr is
on_rests rests old new (Err e) is = tt

pub answered_then : {S T E : Type 0} (answers : Relation S) (rests : S → S → Type 0) → ((p q r : S) (frame : Option (List ℕ)) (text : List ℕ) → answers p frame text q → rests q r → answers p frame text r)
    → (result : Result T E) (p q r : S) (frame : Option (List ℕ)) (text told all out : List ℕ) (old new : Option (List ℕ)) (Q : Type 0) → answers p frame text q → all ≡ told ++ text → OnOk result (Rested rests q r)
    → OnOk result (WaitsOrSettles old new all out Q)
    → OnOk result ((text : List ℕ) × answers p frame text r × WaitsOrSettles old new (told ++ text) out Q)
answered_then answers rests on (Ok x) p q r frame text told all out old new Q answered is rested wrote =
    (text, rested_answer answers rests on p q r frame text answered rested, subst (λ xs. WaitsOrSettles old new xs out Q) is wrote)
answered_then answers rests on (Err e) p q r frame text told all out old new Q answered is rested wrote = tt

pub stops_then : {S T : Type 0} (answers : Relation S) (rests : S → S → Type 0) (stops : Stops S) (is_settled : S → Type 0) → ((p q r : S) (frame : Option (List ℕ)) (text : List ℕ) → answers p frame text q → rests q r → answers p frame text r)
    → (result : Result T SettledFault) (p q left : S) (frame : Option (List ℕ)) (text told all : List ℕ) (old new : Option (List ℕ)) (failed : Bool) → answers p frame text q → all ≡ told ++ text
    → IfErr result (λ fault. (output : List ℕ) × Appends old new output × StopsWriting rests stops is_settled q all output left × IsStop fault failed)
    → IfErr result (λ fault. (output : List ℕ) × Appends old new output × StopsBehind answers stops is_settled p (frame ∷ []) told output left × IsStop fault failed)
stops_then answers rests stops is_settled on (Ok x) p q left frame text told all old new failed answered is w = tt
stops_then answers rests stops is_settled on (Err fault) p q left frame text told all old new failed answered is w =
    (w.0, w.1, stops_answered answers rests stops is_settled on p q left frame text told all w.0 answered is w.2, w.3)

-- where no frame follows all is settled and written
pub settled_end : {S : Type 0} (answers : Relation S) (Q : Type 0) (out rest : List ℕ) → (Q × (out ≡ [])) ⊎ ((frame : Option (List ℕ)) × (size : ℕ) × BeginsWith rest frame size) → frames_behind 0 rest ≡ [] → Q × (out ≡ [])
settled_end answers Q out rest (inl done) none = done
settled_end answers Q out rest (inr more) none = absurd (none_begins answers rest more.0 more.1 more.2 none)

-- the last frame, or one follows
pub last_or_more : {F : Type 0} (view : F → List ℕ) (Q : Type 0) (rest : List ℕ) (o : Option (Option F × ℕ)) (b : Bool) → is_some o ≡ not b → IfSome o (λ front. BeginsWith rest (option_map view front.0) front.1) → (b ≡ true → Q) → Q ⊎ ((frame : Option (List ℕ)) × (size : ℕ) × BeginsWith rest frame size)
last_or_more view Q rest None true is begins last = inl (last refl)
last_or_more view Q rest None false is begins last = absurd cc
last_or_more view Q rest (Some front) b is begins last = inr (_, front.1, begins)
