-- Answering goes on from frame to frame, and from one read to the next, or comes to a fault.
use Rattle.std.proofs.Common.{◌≡◌, ℕ, ◌-◌, List, [], ◌∷◌, ◌++◌, length, drop, Option, Err, refl, sym, ap, ◌∙◌, append_assoc, append-nil}
use Rattle.cq_frame_loop.specs.Cutting.{frames_behind}
use Rattle.cq_frame_loop.specs.Chains.{Relation, Breaks, AnswersFront, frames_in, text_in}
use Rattle.cq_frame_loop.specs.within.Advances.{Advances, BeginsWith, FailsAt, FailsIn, StopsAt}
use Rattle.cq_frame_loop.specs.Writes.{IsWriteFault, Passes}
use Rattle.cq_frame_loop.specs.declared.fault.LoopFault.{LoopFault}
use Rattle.cq_frame_loop.specs.declared.fault.LoopFault.TheVariants.{NoMemory, ReadFailed, WriteFailed, Unanswered, Interrupted, TooManyBytes}
use Rattle.cq_frame_loop.proofs.Cuts.{passed}
use Rattle.cq_frame_loop.proofs.Chaining.{chain-append, text_in-append, frames-behind, text-behind}

module _ {S : Type 0} (answers : Relation S) where
  pub at_start : (s : S) → Advances answers s 0 [] [] s 0 []
  at_start s = record { steps = []; chain = refl; cut = λ more. refl; whole = refl }

  pub behind_passed : (s : S) (count more : ℕ) (bytes rest : List ℕ) → rest ≡ drop count bytes → more ≡ count - length bytes → Advances answers s count bytes [] s more rest
  behind_passed s count more bytes rest is_rest is_more = record {
    steps = [];
    chain = refl;
    cut = λ later. passed count bytes later ∙ ap (λ (xs : List ℕ). frames_behind (count - length bytes) (xs ++ later)) (sym is_rest) ∙ ap (λ n. frames_behind n (rest ++ later)) (sym is_more);
    whole = refl;
  }

  -- a frame by itself
  pub behind_frame : (s t : S) (frame : Option (List ℕ)) (text rest later : List ℕ) (size more : ℕ) → BeginsWith rest frame size → answers s frame text t → later ≡ drop size rest → more ≡ size - length rest
      → Advances answers s 0 rest text t more later
  behind_frame s t frame text rest later size more begins answered is_later is_more = record {
    steps = record { frame = frame; text = text; after = t } ∷ [];
    chain = (answered, refl);
    cut = λ x. begins x ∙ ap (λ fs. frame ∷ fs) (passed size rest x ∙ ap (λ (xs : List ℕ). frames_behind (size - length rest) (xs ++ x)) (sym is_later) ∙ ap (λ n. frames_behind n (later ++ x)) (sym is_more));
    whole = sym (append-nil text);
  }

  -- more is read
  pub with_more : (s m : S) (count later : ℕ) (bytes told rest more : List ℕ) → Advances answers s count bytes told m later rest → Advances answers s count (bytes ++ more) told m later (rest ++ more)
  with_more s m count later bytes told rest more before = record {
    steps = before.steps;
    chain = before.chain;
    cut = λ x. ap (frames_behind count) (append_assoc bytes more x) ∙ before.cut (more ++ x) ∙ ap (λ (xs : List ℕ). frames_in before.steps ++ frames_behind later xs) (sym (append_assoc rest more x));
    whole = before.whole;
  }

  -- the rest is answered, up to another one
  pub goes_on : (s m t : S) (count middle later : ℕ) (bytes told rest text end : List ℕ) → Advances answers s count bytes told m middle rest → Advances answers m middle rest text t later end
      → Advances answers s count bytes (told ++ text) t later end
  goes_on s m t count middle later bytes told rest text end before behind = record {
    steps = before.steps ++ behind.steps;
    chain = chain-append answers s m t before.steps behind.steps before.chain behind.chain;
    cut = λ x. frames-behind before.steps behind.steps (frames_behind count (bytes ++ x)) (frames_behind middle (rest ++ x)) (frames_behind later (end ++ x)) (before.cut x) (behind.cut x);
    whole = ap (λ xs. xs ++ text) before.whole ∙ ap (λ xs. text_in before.steps ++ xs) behind.whole ∙ sym (text_in-append before.steps behind.steps);
  }

  -- what was told is the same
  pub told_same : (s t : S) (count later : ℕ) (bytes told text rest : List ℕ) → text ≡ told → Advances answers s count bytes told t later rest → Advances answers s count bytes text t later rest
  told_same s t count later bytes told text rest is before = record { steps = before.steps; chain = before.chain; cut = before.cut; whole = is ∙ before.whole }

  -- the frames of the bytes so far
  pub cut_now : (s t : S) (count later : ℕ) (bytes told rest : List ℕ) (before : Advances answers s count bytes told t later rest) → frames_behind count bytes ≡ frames_in before.steps ++ frames_behind later rest
  cut_now s t count later bytes told rest before =
      ap (frames_behind count) (sym (append-nil bytes)) ∙ before.cut [] ∙ ap (λ (xs : List ℕ). frames_in before.steps ++ frames_behind later xs) (append-nil rest)

  pub begins_now : (rest : List ℕ) (frame : Option (List ℕ)) (size : ℕ) → BeginsWith rest frame size → frames_behind 0 rest ≡ frame ∷ frames_behind size rest
  begins_now rest frame size begins =
      ap (frames_behind 0) (sym (append-nil rest)) ∙ begins [] ∙ ap (λ (xs : List ℕ). frame ∷ frames_behind size xs) (append-nil rest)

  -- ---- faults

  -- a write fails at a frame
  stops_at_frame : (s m : S) (count size : ℕ) (bytes output unsaid rest more : List ℕ) (frame : Option (List ℕ)) → Advances answers s count bytes (output ++ unsaid) m 0 rest
      → BeginsWith rest frame size → StopsAt answers m frame unsaid more → AnswersFront answers s (frames_behind count bytes) (output ++ more)
  stops_at_frame s m count size bytes output unsaid rest more frame before begins fails =
      let left : List (Option (List ℕ)) = fails.3.0 in
      let parts : frames_behind 0 rest ≡ frames_in fails.0 ++ (left ++ frames_behind size rest) =
      begins_now rest frame size begins ∙ ap (λ (fs : List (Option (List ℕ))). fs ++ frames_behind size rest) fails.3.1 ∙ append_assoc (frames_in fails.0) left (frames_behind size rest) in
      record {
        steps = before.steps ++ fails.0;
        last = fails.1;
        chain = chain-append answers s m fails.1 before.steps fails.0 before.chain fails.2;
        front = (left ++ frames_behind size rest, frames-behind before.steps fails.0 _ _ _ (cut_now s m count 0 bytes _ rest before) parts);
        prefix = (fails.4.0, text-behind before.steps fails.0 (output ++ unsaid) output unsaid more fails.4.0 before.whole refl fails.4.1);
      }

  -- a frame comes to a fault
  pub fails_at_frame : (breaks : Breaks S) (fault : LoopFault) (s m end : S) (count size : ℕ) (bytes output unsaid rest more : List ℕ) (frame : Option (List ℕ)) → Advances answers s count bytes (output ++ unsaid) m 0 rest
      → BeginsWith rest frame size → FailsAt answers breaks fault m frame unsaid more end → FailsIn answers breaks fault s (frames_behind count bytes) (output ++ more) end
  fails_at_frame breaks NoMemory s m end count size bytes output unsaid rest more frame before begins fails = absurd fails
  fails_at_frame breaks ReadFailed s m end count size bytes output unsaid rest more frame before begins fails = absurd fails
  fails_at_frame breaks WriteFailed s m end count size bytes output unsaid rest more frame before begins fails = stops_at_frame s m count size bytes output unsaid rest more frame before begins fails
  fails_at_frame breaks Unanswered s m end count size bytes output unsaid rest more frame before begins fails = (
    record {
      steps = before.steps;
      last = m;
      chain = before.chain;
      unanswered = frame;
      later = frames_behind size rest;
      front = cut_now s m count 0 bytes _ rest before ∙ ap (λ fs. frames_in before.steps ++ fs) (begins_now rest frame size begins);
      whole = ap (λ xs. output ++ xs) fails.0 ∙ before.whole;
    },
    fails.1,
  )
  fails_at_frame breaks Interrupted s m end count size bytes output unsaid rest more frame before begins fails = stops_at_frame s m count size bytes output unsaid rest more frame before begins fails
  fails_at_frame breaks TooManyBytes s m end count size bytes output unsaid rest more frame before begins fails = absurd fails

  front_by : (breaks : Breaks S) (fault : LoopFault) (s end : S) (frames : List (Option (List ℕ))) (output : List ℕ) → IsWriteFault fault → AnswersFront answers s frames output → FailsIn answers breaks fault s frames output end
  front_by breaks NoMemory s end frames output kind front = absurd kind
  front_by breaks ReadFailed s end frames output kind front = absurd kind
  front_by breaks WriteFailed s end frames output kind front = front
  front_by breaks Unanswered s end frames output kind front = absurd kind
  front_by breaks Interrupted s end frames output kind front = front
  front_by breaks TooManyBytes s end frames output kind front = absurd kind

  -- at the writing of what was told
  pub fails_at_writing : (breaks : Breaks S) (fault : LoopFault) (s m end : S) (count later : ℕ) (bytes output unsaid rest more left : List ℕ) → Advances answers s count bytes (output ++ unsaid) m later rest
      → Passes (Err fault) unsaid more left → FailsIn answers breaks fault s (frames_behind count bytes) (output ++ more) end
  fails_at_writing breaks fault s m end count later bytes output unsaid rest more left before fails = front_by breaks fault s end (frames_behind count bytes) (output ++ more) fails.0 (record {
    steps = before.steps;
    last = m;
    chain = before.chain;
    front = (frames_behind later rest, cut_now s m count later bytes _ rest before);
    prefix = (fails.1.0, sym before.whole ∙ ap (λ xs. output ++ xs) fails.1.1 ∙ sym (append_assoc output more fails.1.0));
  })

  front_behind : (s m : S) (count later : ℕ) (bytes output rest more : List ℕ) → Advances answers s count bytes output m later rest
      → AnswersFront answers m (frames_behind later rest) more → AnswersFront answers s (frames_behind count bytes) (output ++ more)
  front_behind s m count later bytes output rest more before fails = record {
    steps = before.steps ++ fails.steps;
    last = fails.last;
    chain = chain-append answers s m fails.last before.steps fails.steps before.chain fails.chain;
    front = (fails.front.0, frames-behind before.steps fails.steps _ _ _ (cut_now s m count later bytes output rest before) fails.front.1);
    prefix = (fails.prefix.0, text-behind before.steps fails.steps output output [] more fails.prefix.0 before.whole (sym (append-nil output)) fails.prefix.1);
  }

  -- in the rest
  pub fails_behind : (breaks : Breaks S) (fault : LoopFault) (s m end : S) (count later : ℕ) (bytes output rest more : List ℕ) → Advances answers s count bytes output m later rest
      → FailsIn answers breaks fault m (frames_behind later rest) more end → FailsIn answers breaks fault s (frames_behind count bytes) (output ++ more) end
  fails_behind breaks NoMemory s m end count later bytes output rest more before fails = absurd fails
  fails_behind breaks ReadFailed s m end count later bytes output rest more before fails = absurd fails
  fails_behind breaks WriteFailed s m end count later bytes output rest more before fails = front_behind s m count later bytes output rest more before fails
  fails_behind breaks Unanswered s m end count later bytes output rest more before (off, broke) = (
    record {
      steps = before.steps ++ off.steps;
      last = off.last;
      chain = chain-append answers s m off.last before.steps off.steps before.chain off.chain;
      unanswered = off.unanswered;
      later = off.later;
      front = frames-behind before.steps off.steps _ _ _ (cut_now s m count later bytes output rest before) off.front;
      whole = ap (λ xs. xs ++ more) before.whole ∙ ap (λ xs. text_in before.steps ++ xs) off.whole ∙ sym (text_in-append before.steps off.steps);
    },
    broke,
  )
  fails_behind breaks Interrupted s m end count later bytes output rest more before fails = front_behind s m count later bytes output rest more before fails
  fails_behind breaks TooManyBytes s m end count later bytes output rest more before fails = absurd fails
